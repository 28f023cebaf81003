use Rattle.std.proofs.Common.{◌≡◌, ◌∙◌, ◌++◌, ◌∷◌, [], ◌-◌, ◌+◌, ℕ, Some, arith, ap, refl, length}
use Rattle.std.proofs.lemmas.List.{length_push}
use Rattle.gh_sat.specs.declared.trail.Step.{Step}
use Rattle.gh_sat.specs.Trail.{Line}
use Rattle.gh_sat.proofs.WatchLemmas.{last_at}
use Rattle.gh_sat.proofs.PropagationLemmas.{propagates_not}
use Rattle.gh_sat.proofs.propagation.look_at_last.Goals as goal
use Rattle.gh_sat.proofs.propagation.look_at_last.Goals.{else-count-gt0-via-then-count-gt0+else-look}
use Rattle.gh_sat.proofs.propagation.look_at_last.Goals.{else-count-gt0-via-else-count-gt0}

pub returns-clause-propagates : goal.returns-clause-propagates
returns-clause-propagates c =
    let d = c.args.database.now in
    elim c.else-count-gt0.branch [
      | else-count-gt0-via-then-count-gt0+else-look w ↦ rw w.trail-is w.look.ensures.propagates
      | else-count-gt0-via-else-count-gt0 w ↦
          rw w.trail-is (propagates_not d c.args.level c.args.trail.now c.requires.ready.valid)
    ]

pub returns-clause-last : goal.returns-clause-last
returns-clause-last c = λ before d u e i. elim c.else-count-gt0.branch [
  | else-count-gt0-via-then-count-gt0+else-look w ↦
      let r = last_at c.args.database.now.clauses.now before d (length c.args.database.now.clauses.now - 1) e refl in
      ap (λ (t : Line). t.steps) w.trail-is ∙ w.look.ensures.unit d u r.1 i
      ∙ ap (λ (n : ℕ). c.args.trail.now.steps
      ++ (let x : Step = record { lit = u; level = c.args.level; reason = Some n } in x) ∷ []) r.0
  | else-count-gt0-via-else-count-gt0 w ↦
      let long : length c.args.database.now.clauses.now ≡ length before + 1 = ap length e ∙ length_push before d in
      absurd (omega (arith, w.if-count-gt0.false))
]
