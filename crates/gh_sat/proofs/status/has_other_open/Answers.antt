use Rattle.std.proofs.Common.{◌≡◌, ◌⊎◌, inl, inr}
use Rattle.gh_base.specs.declared.atom.Lit.{Lit}
use Rattle.std.proofs.lemmas.List.Elements.{All-more}
use Rattle.gh_sat.specs.Trail.{IsLitFalse}
use Rattle.gh_sat.proofs.StatusLemmas.{nothing}
use Rattle.gh_sat.proofs.NeededLemmas.{all_taken}
use Rattle.gh_sat.proofs.status.has_other_open.Goals as goal
use Rattle.gh_sat.proofs.status.has_other_open.Goals.{then-not-is_same+else-not-is_false, else-not-is_same}

pub loop-lit-preserved : goal.loop-lit-preserved
loop-lit-preserved c =
    let P : Lit → Type 0 = λ m. (m ≡ c.args.one) ⊎ IsLitFalse c.args.trail.now.steps m in
    All-more P c.args.clause.now c.loop-lit.lit-index nothing c.loop-lit-test.true c.loop-lit.invariant
    (elim c.if-not-is_same.branch [
      | then-not-is_same+else-not-is_false w ↦ inr (w.is_false.ensures.yes w.if-not-is_false.false)
      | else-not-is_same w ↦ inl (c.is_same.ensures.0 w.if-not-is_same.false)
    ])

pub returns-clause-no : goal.returns-clause-no
returns-clause-no c = λ _.
    all_taken (λ (m : Lit). (m ≡ c.args.one) ⊎ IsLitFalse c.args.trail.now.steps m) c.args.clause.now
    c.loop-lit.lit-index c.loop-lit-test.false c.loop-lit.invariant
