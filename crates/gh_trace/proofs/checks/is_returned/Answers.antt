use Rattle.std.proofs.Common.{subst}
use Rattle.std.specs.Prelude.{◌↔◌, IsTrue, map}
use Rattle.std.proofs.lemmas.Result.{IfOk-weaker}
use Rattle.gh_ast.specs.Plain.{assertion_of}
use Rattle.gh_assert.specs.Meaning.{MeetsOneOf}
use Rattle.gh_assert.specs.Stores.{store_of}
use Rattle.gh_trace.proofs.checks.is_returned.Goals as goal

pub returns : goal.returns
returns c =
    let s = store_of c.args.state.now.store in
    let h = c.args.state.now.heap in
    IfOk-weaker c.meets_one_of.result _ _
    (λ b w. subst (λ fs. IsTrue b ↔ MeetsOneOf (map assertion_of fs) s h) c.as_slice.ensures.value w)
    c.meets_one_of.ensures
