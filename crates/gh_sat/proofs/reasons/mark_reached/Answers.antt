use Rattle.std.proofs.Common.{◌-◌, ◌∙◌, inl, inr, refl, arith}
use Rattle.std.proofs.lemmas.Bool.{cases_lt}
use Rattle.gh_sat.specs.Learn.{marks_of}
use Rattle.gh_base.proofs.ListLemmas.{get_some}
use Rattle.gh_sat.proofs.ListLemmas.{lt_le}
use Rattle.gh_sat.proofs.MarkLemmas.{marks_some}
use Rattle.gh_sat.proofs.ResolveLemmas.{HasReason, false_before, resolved_none, clause_read, resolved_turn}
use Rattle.gh_sat.proofs.ResolveLemmas.{reason_stands}
use Rattle.gh_sat.proofs.ReasonLemmas.{reason_read, reason_held}
use Rattle.gh_sat.proofs.reasons.mark_reached.Goals as goal
use Rattle.gh_sat.proofs.reasons.mark_reached.Goals.{In-Some}

pub mark_all-requires-clause-stands : goal.mark_all-requires-clause-stands
mark_all-requires-clause-stands c =
    false_before _ (marks_of c.args.marks.now) _ c.requires.all_false c.requires.end

pub loop-marks-init : goal.loop-marks-init
loop-marks-init c =
    let e = c.in_ok-mark_all.ensures in
    let none = resolved_none c.args.clauses.now c.args.trail.now.steps (marks_of c.mark_all.new.marks) in
    record {
      marks = e.marks;
      bounded = e.more.bounded;
      start = e.more.start ∙ c.requires.start;
      long = e.more.long;
      all = e.all;
      resolved = none (e.more.end ∙ c.requires.end);
    }

pub unreachable-requires : goal.unreachable-requires
unreachable-requires c =
    let t = c.args.trail.now.steps in
    let place = c.last_marked-place.result in
    let at = get_some t place (lt_le c.last_marked-place.ensures.within c.loop-marks.invariant.marks.end) in
    let r = reason_read c.args.clauses.now t c.steps.result.now place at.0 _ _ c.requires.reasons at.1
    c.steps.ensures.steps refl in
    c.in_default.not-Some r.0 r.1

-- the reason of the last marked step, as the code reads it
read_at : (c : In-Some) → HasReason c.args.clauses.now c.args.trail.now.steps c.last_marked-place.result c.in-Some.k
read_at c =
    reason_held c.args.clauses.now c.args.trail.now.steps c.steps.result.now (marks_of c.loop-marks.marks)
    c.last_marked-place.result _ c.in-Some.k c.requires.reasons c.loop-marks.invariant.marks
    c.last_marked-place.ensures.within c.steps.ensures.steps c.in-Some.is

pub bounds-clauses-k : goal.bounds-clauses-k
bounds-clauses-k c = let w = (read_at (goal.at.bounds-clauses-k c).In-Some).within in omega arith

pub mark_all-requires-in-loop-marks-clause-range : goal.mark_all-requires-in-loop-marks-clause-range
mark_all-requires-in-loop-marks-clause-range c =
    let r = read_at (goal.at.mark_all-requires-in-loop-marks-clause-range c).In-Some in
    rw (c.lits.ensures, c.index-clauses-k.is) (c.requires.range c.in-Some.k c.index-clauses-k.result r.within)

pub mark_all-requires-in-loop-marks-clause-stands : goal.mark_all-requires-in-loop-marks-clause-stands
mark_all-requires-in-loop-marks-clause-stands c =
    let r = read_at (goal.at.mark_all-requires-in-loop-marks-clause-stands c).In-Some in
    reason_stands c.args.clauses.now c.args.trail.now.steps (marks_of c.loop-marks.marks) c.last_marked-place.result
    c.in-Some.k c.lits.result.now r c.last_marked-place.ensures.is
    (clause_read c.args.clauses.now c.in-Some.k _ c.lits.result.now c.index-clauses-k.is c.lits.ensures r.within)

pub loop-marks-preserved : goal.loop-marks-preserved
loop-marks-preserved c =
    let i = c.loop-marks.invariant in
    let m = marks_of c.loop-marks.marks in
    let r = read_at (goal.at.loop-marks-preserved c).In-Some in
    let e = c.in_ok-mark_all-2.ensures in
    let cs = c.args.clauses.now in
    let has = clause_read cs c.in-Some.k _ c.lits.result.now c.index-clauses-k.is c.lits.ensures r.within in
    let turn = resolved_turn cs c.args.trail.now.steps c.args.conflict.now m
    (marks_of c.mark_all-in-loop-marks.new.marks) c.last_marked-place.result (m.waiting - 1) c.in-Some.k
    c.lits.result.now r has i.all i.resolved c.last_marked-place.ensures.between e.more
    e.all in
    record {
      marks = e.marks;
      bounded = e.more.bounded;
      start = e.more.start ∙ i.start;
      long = e.more.long ∙ i.long;
      all = turn.0;
      resolved = turn.1;
    }

pub returns-clause-resolved : goal.returns-clause-resolved
returns-clause-resolved c =
    let m = marks_of c.loop-marks.marks in
    let i = c.loop-marks.invariant in
    λ j x le at mark. elim (cases_lt j m.end) [
      | inl lt ↦
          let some = marks_some c.args.trail.now.steps m j i.marks (omega (arith, i.start)) lt mark in
          absurd (omega (arith, some, c.loop-marks-test.false))
      | inr ge ↦ i.resolved j x ge at mark
    ]
