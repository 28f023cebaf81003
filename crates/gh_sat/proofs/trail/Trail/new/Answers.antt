use Rattle.std.proofs.Common.{◌≡◌, ◌∙◌, ℕ, Some, arith, ap, [], refl}
use Rattle.std.specs.Prelude.{slice_get}
use Rattle.gh_base.specs.Assignments.{Partial}
use Rattle.gh_base.specs.Atoms.{count_of}
use Rattle.gh_sat.specs.declared.trail.Step.{Step}
use Rattle.gh_sat.proofs.ListLemmas.{le_along}
use Rattle.gh_sat.proofs.TrailLemmas.{values_none}
use Rattle.gh_sat.proofs.trail.Trail.new.Goals as goal

pub invariant_of-result : goal.invariant_of-result
invariant_of-result c =
    let p : Partial = c.in_ok-values.values in
    let valid = c.sizes.ensures.valid in
    let count : c.count-count.result ≡ count_of p.sizes = c.count-count.ensures ∙ ap count_of c.sizes.ensures.sizes in
    let e = c.in_ok-places.ensures in (
      rw e.steps (values_none p c.in_ok-values.ensures.none valid.all valid.room),
      rw e.steps (λ (i : ℕ) (x : Step) (at : slice_get [] i ≡ Some x). cc),
      e.places ∙ count,
      le_along count refl e.room,
    )
