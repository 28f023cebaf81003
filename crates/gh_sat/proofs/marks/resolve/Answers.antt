use Rattle.std.proofs.Common.{◌≡◌, ◌<◌, ◌-◌, ◌∙◌, ℕ, ◌≤◌, suc, inl, inr, refl, arith, sym, ap, subst, length}
use Rattle.std.proofs.Common.{None}
use Rattle.std.proofs.lemmas.List.Elements.{All-contains}
use Rattle.gh_base.specs.declared.atom.Lit.{Lit}
use Rattle.gh_sat.specs.Learn.{marks_of, HasRound, HasMark, AreReached, IsAlone}
use Rattle.gh_sat.specs.Learn.Reached.{by_conflict}
use Rattle.gh_base.proofs.ListLemmas.{get_within}
use Rattle.gh_sat.proofs.MarkLemmas.{marks_some}
use Rattle.gh_sat.proofs.ResolveLemmas.{HasReason, false_before, resolved_none, clause_read, mark_at, reached_within}
use Rattle.gh_sat.proofs.ResolveLemmas.{is_left, resolved_turn, reached_next, none_from, reason_is, reason_of}
use Rattle.gh_sat.proofs.ResolveLemmas.{reason_stands}
use Rattle.gh_sat.proofs.marks.resolve.Goals as goal
use Rattle.gh_sat.proofs.marks.resolve.Goals.{In-Some}

pub mark_all-requires-clause-stands : goal.mark_all-requires-clause-stands
mark_all-requires-clause-stands c =
    false_before _ (marks_of c.args.marks.now) _ c.requires.all_false c.requires.end

pub loop-marks-init : goal.loop-marks-init
loop-marks-init c =
    let p = c.requires.present in
    let e = c.in_ok-mark_all.ensures in
    let t = c.args.trail.now in
    let m = marks_of c.mark_all.new.marks in
    let end : m.end ≡ length t.steps = e.more.end ∙ c.requires.end in
    record {
      marks = e.marks;
      some =
          let there : HasMark t.steps m p.0 =
          All-contains (λ (l : Lit). HasMark t.steps m l) c.args.conflict.now p.0 e.all p.1 in
          let mark : HasRound m p.2 =
          mark_at t m p.0 p.2 p.3 c.requires.valid p.5 (ap (λ (l : Lit). l.atom) p.6) there in
          let below : p.2 < m.end = omega (arith, end, get_within t.steps p.2 p.3 p.5) in
          marks_some t.steps m p.2 e.marks (omega (arith, p.4, e.more.start)) below mark;
      bounded = e.more.bounded;
      round = e.more.round;
      start = e.more.start;
      long = e.more.long;
      all = e.all;
      resolved = resolved_none c.args.clauses.now t.steps m end;
      reached = λ j mark. elim (e.more.only j mark) [
        | inl old ↦ absurd (c.requires.unmarked j old)
        | inr w ↦ by_conflict j w.0 w.2 w.3
      ];
      first = λ q le a.
          let w = reached_within c.args.clauses.now t.steps c.args.conflict.now (suc q) q a.reached in
          absurd (omega arith);
    }

pub returns-then-marks-eq0-clause-point : goal.returns-then-marks-eq0-clause-point
returns-then-marks-eq0-clause-point c =
    let i = c.loop-marks.invariant in
    let p = c.last_marked-place.ensures in
    is_left c.args.trail.now c.args.clauses.now c.args.conflict.now (marks_of c.loop-marks.marks)
    c.last_marked-place.result (c.loop-marks.marks.waiting - 1) c.requires.valid
    i.marks i.all i.resolved i.reached i.first p.start p.within p.is p.between p.fewer refl c.if-marks-eq0.true

pub returns-in-None-clause-point : goal.returns-in-None-clause-point
returns-in-None-clause-point c =
    let i = c.loop-marks.invariant in
    let p = c.last_marked-place.ensures in
    let r = reason_is c.args.clauses.now c.args.trail.now.steps c.steps.result.now c.args.marks.now.start
    (marks_of c.loop-marks.marks) c.last_marked-place.result _ None c.requires.reasons
    i.start i.marks p.start p.within p.fewer c.if-marks-eq0.false c.steps.ensures.steps c.in-None.is in
    let none = r.1 in cc

-- the reason of the last marked step, as the code reads it
read_at : (c : In-Some) → HasReason c.args.clauses.now c.args.trail.now.steps c.last_marked-place.result c.in-Some.k
read_at c =
    let i = c.loop-marks.invariant in
    let p = c.last_marked-place.ensures in
    reason_of c.args.clauses.now c.args.trail.now.steps c.steps.result.now c.args.marks.now.start
    (marks_of c.loop-marks.marks) c.last_marked-place.result _ c.in-Some.k c.requires.reasons
    i.start i.marks p.start p.within p.fewer c.if-marks-eq0.false c.steps.ensures.steps c.in-Some.is

pub bounds-clauses-k : goal.bounds-clauses-k
bounds-clauses-k c = let w = (read_at (goal.at.bounds-clauses-k c).In-Some).within in omega arith

pub mark_all-requires-in-Some-clause-range : goal.mark_all-requires-in-Some-clause-range
mark_all-requires-in-Some-clause-range c =
    let r = read_at (goal.at.mark_all-requires-in-Some-clause-range c).In-Some in
    rw (c.lits.ensures, c.index-clauses-k.is) (c.requires.range c.in-Some.k c.index-clauses-k.result r.within)

pub mark_all-requires-in-Some-clause-stands : goal.mark_all-requires-in-Some-clause-stands
mark_all-requires-in-Some-clause-stands c =
    let r = read_at (goal.at.mark_all-requires-in-Some-clause-stands c).In-Some in
    reason_stands c.args.clauses.now c.args.trail.now.steps (marks_of c.loop-marks.marks) c.last_marked-place.result
    c.in-Some.k c.lits.result.now r c.last_marked-place.ensures.is
    (clause_read c.args.clauses.now c.in-Some.k _ c.lits.result.now c.index-clauses-k.is c.lits.ensures r.within)

pub loop-marks-preserved : goal.loop-marks-preserved
loop-marks-preserved c =
    let i = c.loop-marks.invariant in
    let p = c.last_marked-place.ensures in
    let place = c.last_marked-place.result in
    let r = read_at (goal.at.loop-marks-preserved c).In-Some in
    let cs = c.args.clauses.now in
    let t = c.args.trail.now.steps in
    let conflict = c.args.conflict.now in
    let m = marks_of c.loop-marks.marks in
    let n = marks_of c.mark_all-in-Some.new.marks in
    let e = c.in_ok-mark_all-in-Some.ensures in
    let lits = c.lits.result.now in
    let has = clause_read cs c.in-Some.k _ lits c.index-clauses-k.is c.lits.ensures r.within in
    let w = m.waiting - 1 in
    let turn = resolved_turn cs t conflict m n place w c.in-Some.k lits r has i.all i.resolved p.between e.more e.all in
    record {
      marks = e.marks;
      some = omega (arith, e.more.waiting, c.if-marks-eq0.false);
      bounded = e.more.bounded;
      round = e.more.round ∙ i.round;
      start = e.more.start ∙ i.start;
      long = e.more.long ∙ i.long;
      all = turn.0;
      resolved = turn.1;
      reached = subst (AreReached cs t conflict n) (sym e.more.end)
          (reached_next cs t conflict m n place w r.step c.in-Some.k lits i.reached p.within p.is e.more r.at r.why
          has);
      first = λ q le a.
          none_from c.args.trail.now cs conflict m place c.requires.valid i.all i.resolved p.between i.first i.reached
          p.within (omega (arith, p.fewer, c.if-marks-eq0.false)) q
          (subst (λ (z : ℕ). z ≤ q) e.more.end le) (subst (λ (z : ℕ). IsAlone cs t conflict z q) e.more.start a);
    }
