use Rattle.std.proofs.Common.{◌≡◌, ◌⊎◌, ◌≤◌, ◌<◌, ◌+◌, ℕ, List, get_or, inl, inr, length, arith, ap, sym, subst, ◌∙◌}
use Rattle.std.proofs.Common.{Some, take, drop, length-take-le, length-drop, max}
use Rattle.std.specs.Prelude.{slice_get}
use Rattle.std.proofs.lemmas.Bool.{cases_lt}
use Rattle.std.proofs.lemmas.Option.{get_or_from_slice_get, slice_get_read}
use Rattle.gh_base.specs.declared.atom.Lit.{Lit}
use Rattle.gh_base.specs.Atoms.{opposite}
use Rattle.gh_sat.specs.declared.trail.Step.{Step}
use Rattle.gh_sat.specs.Trail.{Stands}
use Rattle.gh_sat.specs.Learn.{Marking, marks_of, HasRound, HasMark, AreMarks}
use Rattle.gh_base.proofs.ListLemmas.{get_within}
use Rattle.gh_sat.proofs.MarkLemmas.{mark_high, mark_low, more_mark, has_mark, marked_few}
use Rattle.gh_sat.proofs.marks.mark.Goals.{Else-index-marks}
use Rattle.gh_sat.proofs.marks.mark.Goals as goal

-- the literal's place on the trail, which has no mark yet
record Found (trail : List Step) (m : Marking) (lit : Lit) (place stamp : ℕ) : Type 0 where
  step : Step
  at : slice_get trail place ≡ Some step
  before : place < m.end
  is : step.lit ≡ opposite lit
  here : slice_get m.stamps place ≡ Some stamp
  few : m.waiting ≤ length m.stamps

found : (trail : List Step) (m : Marking) (lit : Lit) (place stamp : ℕ) → AreMarks trail m
    → HasMark trail m lit ⊎ Stands trail m.end (opposite lit)
    → ((i : ℕ) (x : Step) → slice_get trail i ≡ Some x → x.lit.atom ≡ lit.atom → place ≡ i)
    → stamp ≡ get_or m.stamps place stamp → (stamp ≡ m.round → ⊥) → Found trail m lit place stamp
found trail m lit place stamp h (inl k) where_is read free =
    let e = where_is k.0 k.1 k.2 k.3 in
    absurd (free (read ∙ get_or_from_slice_get m.stamps place m.round stamp (subst (HasRound m) (sym e) k.4)))
found trail m lit place stamp h (inr s) where_is read free =
    let e = where_is s.0 s.1 s.3 (ap (λ (l : Lit). l.atom) s.4) in
    let lt : s.0 < length trail = get_within trail s.0 s.1 s.3 in
    let long = h.long in
    record {
      step = s.1;
      at = subst (λ i. slice_get trail i ≡ Some s.1) (sym e) s.3;
      before = omega (arith, s.2);
      is = s.4;
      here = slice_get_read m.stamps (length m.stamps) place stamp (λ _. length m.stamps) (omega arith) read;
      few = let f = marked_few m.round (drop m.start (take m.end m.stamps)) in
          omega (
            arith,
            h.waiting,
            length-drop m.start (take m.end m.stamps),
            length-take-le m.end m.stamps
                (omega (arith, h.end)),
            h.end,
          );
    }

-- the place of the literal, which has no mark yet
found_at : (c : Else-index-marks) → Found c.args.trail.now.steps (marks_of c.args.marks.now) c.args.lit
    c.place-place.result c.index.result.now
found_at c =
    found c.args.trail.now.steps (marks_of c.args.marks.now) c.args.lit c.place-place.result c.index.result.now
    c.requires.marks c.requires.stands c.place-place.ensures c.index.ensures c.if-index-marks.false

pub overflow_add-marks : goal.overflow_add-marks
overflow_add-marks c =
    let f = found_at (goal.at.overflow_add-marks c).Else-index-marks in
    omega (arith, f.few)

pub returns-in_err-push-clause-more : goal.returns-in_err-push-clause-more
returns-in_err-push-clause-more c =
    let m = marks_of c.args.marks.now in
    let f = found_at (goal.at.returns-in_err-push-clause-more c).Else-index-marks in
    more_mark c.args.trail.now.steps m c.args.lit c.place-place.result c.index.result.now f.step c.requires.marks f.here
    c.if-index-marks.false f.before f.at f.is _ _ _ c.requires.bounded (omega arith)

pub returns-then-place-marks-clause-marks : goal.returns-then-place-marks-clause-marks
returns-then-place-marks-clause-marks c =
    let m = marks_of c.args.marks.now in
    let f = found_at (goal.at.returns-then-place-marks-clause-marks c).Else-index-marks in
    mark_high c.args.trail.now.steps m c.args.lit c.place-place.result c.index.result.now f.step c.requires.marks f.here
    c.if-index-marks.false f.before f.at f.is c.if-place-marks.true

pub returns-then-place-marks-clause-is : goal.returns-then-place-marks-clause-is
returns-then-place-marks-clause-is c =
    let m = marks_of c.args.marks.now in
    let f = found_at (goal.at.returns-then-place-marks-clause-is c).Else-index-marks in
    has_mark c.args.trail.now.steps m c.args.lit c.place-place.result c.index.result.now f.step c.requires.marks f.here
    c.if-index-marks.false f.before f.at f.is m.lower m.level (m.waiting + 1)

pub returns-then-place-marks-clause-more : goal.returns-then-place-marks-clause-more
returns-then-place-marks-clause-more c =
    let m = marks_of c.args.marks.now in
    let f = found_at (goal.at.returns-then-place-marks-clause-more c).Else-index-marks in
    more_mark c.args.trail.now.steps m c.args.lit c.place-place.result c.index.result.now f.step c.requires.marks f.here
    c.if-index-marks.false f.before f.at f.is _ _ _ c.requires.bounded (omega arith)

pub returns-in_ok-push-clause-marks : goal.returns-in_ok-push-clause-marks
returns-in_ok-push-clause-marks c =
    let m = marks_of c.args.marks.now in
    let f = found_at (goal.at.returns-in_ok-push-clause-marks c).Else-index-marks in
    let steps : c.steps.result.now ≡ c.args.trail.now.steps = c.steps.ensures.steps in
    let level : c.max-marks.result ≡ max m.level f.step.level =
    c.max-marks.ensures ∙ ap (λ (x : Step). max m.level x.level)
    (ap (λ (t : List Step). get_or t c.place-place.result _) steps
    ∙ get_or_from_slice_get c.args.trail.now.steps c.place-place.result f.step _ f.at) in
    rw c.in_ok-push.ensures.items (mark_low c.args.trail.now.steps m c.args.lit c.place-place.result c.index.result.now
    f.step c.requires.marks f.here c.if-index-marks.false f.before f.at f.is c.max-marks.result
    (omega arith) (omega arith) (omega arith)
    (elim (cases_lt m.level f.step.level) [ inl lt ↦ inr (omega arith) | inr ge ↦ inl (omega arith) ]))

pub returns-in_ok-push-clause-is : goal.returns-in_ok-push-clause-is
returns-in_ok-push-clause-is c =
    let m = marks_of c.args.marks.now in
    let f = found_at (goal.at.returns-in_ok-push-clause-is c).Else-index-marks in
    has_mark c.args.trail.now.steps m c.args.lit c.place-place.result c.index.result.now f.step c.requires.marks f.here
    c.if-index-marks.false f.before f.at f.is m.lower m.level m.waiting

pub returns-in_ok-push-clause-more : goal.returns-in_ok-push-clause-more
returns-in_ok-push-clause-more c =
    let m = marks_of c.args.marks.now in
    let f = found_at (goal.at.returns-in_ok-push-clause-more c).Else-index-marks in
    more_mark c.args.trail.now.steps m c.args.lit c.place-place.result c.index.result.now f.step c.requires.marks f.here
    c.if-index-marks.false f.before f.at f.is _ _ _ c.requires.bounded (omega arith)
