use Rattle.std.proofs.Common.{◌≡◌, ◌∙◌, ◌+◌, ◌<◌, ◌++◌, ◌∷◌, [], ℕ, List, Bool, length, true, false, Some, ap, arith}
use Rattle.std.proofs.Common.{refl, subst, sym}
use Rattle.std.specs.Prelude.{slice_get}
use Rattle.std.proofs.lemmas.List.{length_push}
use Rattle.std.proofs.lemmas.Option.{slice_get-get_or}
use Rattle.gh_base.specs.Grounds.{Problem}
use Rattle.gh_log.specs.Lines.{LogLine}
use Rattle.gh_log.specs.Tables.{line_of}
use Rattle.gh_ground.specs.declared.trim.Trimmed.{Trimmed}
use Rattle.gh_ground.specs.Trimming.{AreNeeded, IsShifted}
use Rattle.gh_ground.proofs.TrimLemmas.{IsGood, IsRenumbered, trim_kept, trim_passed, trimmed_refutes}
use Rattle.gh_ground.proofs.trim.shorten.Goals as goal
use Rattle.gh_ground.proofs.trim.shorten.Goals.{then-kept-place+in_ok-take, else-kept-place+in_ok-pass}

-- a line more was kept
turn_kept : (p : Problem) (lines : List LogLine) (kept : List Bool) (place : ℕ) (old new : List LogLine)
    (positions moved : List ℕ) (l : LogLine) → AreNeeded lines kept 0 → slice_get lines place ≡ Some l
    → slice_get kept place ≡ Some true
    → (w : (m : LogLine) × IsShifted positions l m × (new ≡ old ++ m ∷ [])) → moved ≡ positions ++ (length old + 1) ∷ []
    → IsGood p lines → IsRenumbered p lines kept place old positions
    → IsRenumbered p lines kept (place + 1) new moved
turn_kept p lines kept place old new positions moved l needed at is w e good h =
    subst (λ (ls : List LogLine). IsRenumbered p lines kept (place + 1) ls moved) (sym w.2)
    (subst (λ (ks : List ℕ). IsRenumbered p lines kept (place + 1) (old ++ w.0 ∷ []) ks) (sym e)
    (trim_kept p lines kept place old positions good h l w.0 needed at is w.1))

-- a line was left out
turn_passed : (p : Problem) (lines : List LogLine) (kept : List Bool) (place : ℕ) (old new : List LogLine)
    (positions moved : List ℕ) → slice_get kept place ≡ Some false
    → new ≡ old → moved ≡ positions ++ length old ∷ [] → IsGood p lines → IsRenumbered p lines kept place old positions
    → IsRenumbered p lines kept (place + 1) new moved
turn_passed p lines kept place old new positions moved out same e good h =
    subst (λ (ls : List LogLine). IsRenumbered p lines kept (place + 1) ls moved) (sym same)
    (subst (λ (ks : List ℕ). IsRenumbered p lines kept (place + 1) old ks) (sym e)
    (trim_passed p lines kept place old positions good h out))

pub loop-place-preserved : goal.loop-place-preserved
loop-place-preserved c =
    let lines = c.args.section.now.lines in
    let kept = c.args.kept.now in
    let place = c.loop-place.place in
    let old = c.loop-place.trimmed in
    let new = c.if-kept-place.trimmed in
    let i = c.loop-place.invariant in
    let within : place < length kept = omega (arith, c.requires.needed.long, c.loop-place-test.true) in
    elim c.if-kept-place.branch [
      | then-kept-place+in_ok-take w ↦
          let l = line_of w.line.result in
          let at = w.line.ensures in
          let is = slice_get-get_or kept place false within ∙ ap Some w.if-kept-place.true in
          let e = w.in_ok-take.ensures in
          let lines_is : new.lines ≡ old.lines ++ e.line.0 ∷ [] =
          ap (λ (t : Trimmed). t.lines) w.trimmed-is ∙ e.line.2 in
          let positions_is : new.positions.items ≡ old.positions.items ++ (length old.lines + 1) ∷ [] =
          ap (λ (t : Trimmed). t.positions.items) w.trimmed-is ∙ e.positions in
          record {
            few = omega (arith, i.few, ap length lines_is, length_push old.lines e.line.0);
            trimmed =
                λ p good. turn_kept p lines kept place old.lines new.lines old.positions.items new.positions.items l
                c.requires.needed at is (e.line.0, e.line.1, lines_is) positions_is good (i.trimmed p good);
          }
      | else-kept-place+in_ok-pass w ↦
          let out = slice_get-get_or kept place false within ∙ ap Some w.if-kept-place.false in
          let e = w.in_ok-pass.ensures in
          let lines_is : new.lines ≡ old.lines = ap (λ (t : Trimmed). t.lines) w.trimmed-is ∙ e.lines in
          let positions_is : new.positions.items ≡ old.positions.items ++ length old.lines ∷ [] =
          ap (λ (t : Trimmed). t.positions.items) w.trimmed-is ∙ e.positions in
          record {
            few = omega (arith, i.few, ap length lines_is);
            trimmed =
                λ p good. turn_passed p lines kept place old.lines new.lines old.positions.items new.positions.items out
                lines_is positions_is good (i.trimmed p good);
          }
    ]

pub returns : goal.returns
returns c =
    let kept = c.args.kept.now in
    let place = c.loop-place.place in
    let new = c.loop-place.trimmed in
    let i = c.loop-place.invariant in
    let end : place ≡ length c.args.section.now.lines =
    omega (arith, c.loop-place.auto.place-end, c.loop-place-test.false) in
    let p = c.args.ground.now in
    trimmed_refutes p c.args.section.now _ kept place new.positions.items c.fits_types.ensures c.requires.needed end
    (i.trimmed p) refl
    (omega (arith, i.few, end, c.requires.refutes.few)) c.requires.refutes
