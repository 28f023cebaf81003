use Rattle.std.proofs.Common.{◌∷◌, [], ◌∙◌, refl, subst, sym}
use Rattle.std.proofs.lemmas.Result.{IfOk-weaker}
use Rattle.gh_ast.specs.Programs.{names}
use Rattle.gh_assert.specs.Stores.{store_of}
use Rattle.gh_trace.proofs.StepLemmas.{there_at, none_there, Kept, made_there, makes_where}
use Rattle.gh_trace.proofs.steps.makes.Goals as goal

pub returns-then-place-eq0 : goal.returns-then-place-eq0
returns-then-place-eq0 c P proc = (
  λ f. absurd cc,
  λ takes. absurd
      ((made_there (store_of c.args.before.now.store) (store_of c.args.after.now.store) c.args.before.now.heap
      c.args.after.now.heap c.args.target.now.name c.value_of-place.result c.value_of-place.ensures takes).0
      c.if-place-eq0.true),
)

pub returns-then-is_none : goal.returns-then-is_none
returns-then-is_none c P proc = (
  λ f. absurd cc,
  λ takes.
      (let at = (made_there (store_of c.args.before.now.store) (store_of c.args.after.now.store) c.args.before.now.heap
      c.args.after.now.heap c.args.target.now.name c.value_of-place.result c.value_of-place.ensures takes).1 in
      absurd (none_there c.get.result c.is_none.result at.0 c.is_none.ensures c.if-is_none.true
      (c.get.ensures ∙ at.1))),
)

pub returns-then-not-keeps : goal.returns-then-not-keeps
returns-then-not-keeps c P proc =
    let s = store_of c.args.before.now.store in
    let t = store_of c.args.after.now.store in (
      λ f. absurd cc,
      λ takes.
          (let kept = (made_there s t c.args.before.now.heap c.args.after.now.heap c.args.target.now.name
          c.value_of-place.result c.value_of-place.ensures takes).2 in
          let holds = c.keeps.ensures.1 (subst (λ os. Kept (names os) s t) (sym c.from_ref.ensures.value) kept) in
          absurd cc),
    )

pub returns : goal.returns
returns c =
    let s = store_of c.args.before.now.store in
    let t = store_of c.args.after.now.store in
    let h = c.args.before.now.heap in
    let k = c.args.after.now.heap in
    let at =
    there_at k c.value_of-place.result c.value_of-place.result c.get.result c.is_none.result refl c.get.ensures
    c.is_none.ensures c.if-is_none.false in
    let kept : Kept (names (c.args.target.now ∷ [])) s t =
    subst (λ os. Kept (names os) s t) c.from_ref.ensures.value (c.keeps.ensures.0 c.if-not-keeps.false) in
    let r =
    makes_where s t h k c.args.target.now.name c.value_of-place.result c.value_of-place.ensures c.if-place-eq0.false
    at kept in
    IfOk-weaker c.is_same_outside.result _ _ (λ b w P proc. (λ is. r.0 (w.0 is), λ takes. w.1 (r.1 takes)))
    c.is_same_outside.ensures
