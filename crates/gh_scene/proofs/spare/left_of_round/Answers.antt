use Rattle.std.proofs.Common.{◌∙◌, sym, ap, subst, map}
use Rattle.std.proofs.lemmas.Result.{IfOk-weaker}
use Rattle.gh_ast.specs.Plain.{assertion_of}
use Rattle.gh_assert.specs.Stores.{store_of}
use Rattle.gh_scene.specs.Spare.{invariant_asked, IsLeftOver}
use Rattle.gh_scene.proofs.spare.left_of_round.Goals as goal

pub returns-in-None : goal.returns-in-None
returns-in-None c at =
    subst (λ o. IsLeftOver (invariant_asked o) (store_of c.args.state.now.store) c.args.state.now.heap c.new.result)
    (sym c.in-None.ensures.none) c.new.ensures

pub returns-in-Some : goal.returns-in-Some
returns-in-Some c =
    let s = store_of c.args.state.now.store in
    let h = c.args.state.now.heap in
    IfOk-weaker c.left_over.result _ _
    (λ rest left at. subst (λ fs. IsLeftOver fs s h rest)
    (ap (map assertion_of) c.from_ref.ensures.value ∙ ap invariant_asked (sym c.in-Some.ensures.some)) left)
    c.left_over.ensures
