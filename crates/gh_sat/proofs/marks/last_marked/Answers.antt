use Rattle.std.proofs.Common.{◌≡◌, ◌≢◌, ◌-◌, ◌∙◌, arith, sym, subst, get_or, Some, inl, inr}
use Rattle.std.specs.Prelude.{slice_get}
use Rattle.std.proofs.lemmas.Bool.{cases_eq}
use Rattle.std.proofs.lemmas.Option.{get_or_from_slice_get}
use Rattle.gh_sat.proofs.MarkLemmas.{step_down_is, step_down_not}
use Rattle.gh_sat.proofs.marks.last_marked.Goals as goal

pub returns-then-index-marks-clause-fewer : goal.returns-then-index-marks-clause-fewer
returns-then-index-marks-clause-fewer c =
    let m = c.args.marks.now in
    let inv = c.loop-i.invariant in
    let is : get_or m.stamps.items (c.loop-i.i - 1) c.index.result.now ≡ m.round =
    sym c.index.ensures ∙ c.if-index-marks.true in
    inv.waiting ∙ step_down_is m.round m.stamps.items m.start c.loop-i.i c.index.result.now (omega arith)
    (omega (arith, c.requires.end)) is

pub loop-i-preserved : goal.loop-i-preserved
loop-i-preserved c =
    let m = c.args.marks.now in
    let inv = c.loop-i.invariant in
    let not : get_or m.stamps.items (c.loop-i.i - 1) c.index.result.now ≢ m.round =
    λ e. c.if-index-marks.false (c.index.ensures ∙ e) in
    record {
      low = omega arith;
      high = omega arith;
      none = λ j ge below mark. elim (cases_eq j (c.loop-i.i - 1)) [
        | inl e ↦
            not (get_or_from_slice_get m.stamps.items (c.loop-i.i - 1) m.round c.index.result.now
            (subst (λ n. slice_get m.stamps.items n ≡ Some m.round) e mark))
        | inr n ↦ inv.none j (omega arith) below mark
      ];
      waiting = inv.waiting ∙ step_down_not m.round m.stamps.items m.start c.loop-i.i c.index.result.now (omega arith)
          (omega (arith, c.requires.end)) not;
    }
