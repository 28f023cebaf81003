use Rattle.std.proofs.Common.{◌≡◌, ◌∙◌, ◌+◌, ap, refl, sym, subst, length, List}
use Rattle.gh_base.specs.declared.atom.Lit.{Lit}
use Rattle.gh_sat.specs.declared.marks.Marks.{Marks}
use Rattle.gh_sat.specs.Learn.{marks_of, IsBounded, AreMarks}
use Rattle.gh_sat.proofs.ListLemmas.{le_along}
use Rattle.gh_sat.proofs.MarkLemmas.{marks_none, none_next}
use Rattle.gh_sat.proofs.marks.begin.Goals as goal
use Rattle.gh_sat.proofs.marks.begin.Goals.{then-marks, else-marks}

pub returns-clause-none : goal.returns-clause-none
returns-clause-none c =
    let b : IsBounded (marks_of c.if-marks.marks) = elim c.if-marks.branch [
      | then-marks w ↦ subst (λ (m : Marks). IsBounded (marks_of m)) (sym w.marks-is) w.wipe.ensures.zero
      | else-marks w ↦ subst (λ (m : Marks). IsBounded (marks_of m)) (sym w.marks-is) c.requires
    ] in
    let long : length c.if-marks.marks.stamps.items ≡ length c.args.marks.now.stamps.items = elim c.if-marks.branch [
      | then-marks w ↦ ap (λ (m : Marks). length m.stamps.items) w.marks-is ∙ w.wipe.ensures.long
      | else-marks w ↦ ap (λ (m : Marks). length m.stamps.items) w.marks-is
    ] in
    λ trail h k few. subst (λ (l : List Lit). AreMarks trail
    (record {
      stamps = c.if-marks.marks.stamps.items;
      round = c.if-marks.marks.round + 1;
      lower = l;
      level = 0;
      start = c.args.start;
      end = c.args.end;
      waiting = 0;
    }))
    (sym c.clear.ensures.items) (marks_none trail c.if-marks.marks.stamps.items c.if-marks.marks.round c.args.start
    c.args.end b h k (le_along refl (sym long) few))

pub returns-clause-unmarked : goal.returns-clause-unmarked
returns-clause-unmarked c =
    let b : IsBounded (marks_of c.if-marks.marks) = elim c.if-marks.branch [
      | then-marks w ↦ subst (λ (m : Marks). IsBounded (marks_of m)) (sym w.marks-is) w.wipe.ensures.zero
      | else-marks w ↦ subst (λ (m : Marks). IsBounded (marks_of m)) (sym w.marks-is) c.requires
    ] in
    λ j. none_next c.if-marks.marks.stamps.items c.if-marks.marks.round j b
