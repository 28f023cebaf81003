use Rattle.std.proofs.Common.{◌≡◌, List, take, refl, sym, subst, arith}
use Rattle.gh_base.specs.Grounds.{Problem}
use Rattle.gh_log.specs.Lines.{LogLine}
use Rattle.gh_log.specs.Tables.{line_of}
use Rattle.gh_check.specs.Kept.{Kept, AreLinesKept}
use Rattle.gh_check.specs.Lines.{IsChecked, IsTaken, IsKeptAfter, Answers, Leaves}
use Rattle.gh_check.specs.Answers.{IsSectionError}
use Rattle.gh_check.specs.declared.fault.LogFault.{LogFault}
use Rattle.gh_check.specs.declared.fault.CheckError.TheVariants.{Fault}
use Rattle.gh_check.specs.declared.lines.Outcome.{Outcome}
use Rattle.gh_check.specs.declared.lines.Outcome.TheVariants.{Holds}
use Rattle.gh_check.proofs.SectionLemmas.{line_refused, has_next, reads_more, all_read, end_refused}
use Rattle.gh_check.proofs.check.check_lines.Goals as goal

pub returns-in-Faulty-clause-refused : goal.returns-in-Faulty-clause-refused
returns-in-Faulty-clause-refused c =
    let p = c.args.ground.now in
    let lines = c.args.section.now.lines in
    let front = take c.loop-place.place lines in
    let l = line_of c.line.result in
    let r = c.loop-place.invariant in
    subst (λ (f : LogFault). IsSectionError p c.args.section.now.first lines (Fault f)) (sym c.new.ensures)
    (line_refused p c.args.section.now.first lines c.loop-place.place l c.loop-place.before c.loop-place.line
    c.in-Faulty.kind c.line.ensures r
    (subst (IsChecked p front l) c.in-Faulty.is (c.in_ok-check_line.ensures.checked front r.kept)))

-- a line that holds is taken, and this is kept after it
holds_taken : (p : Problem) (earlier : List LogLine) (l : LogLine) (o : Outcome) (old new : Kept) → o ≡ Holds
    → AreLinesKept p earlier old → Answers p old l o → Leaves p old l o new
    → IsTaken p earlier l × IsKeptAfter p earlier l Holds new
holds_taken p earlier l o old new is kept answers leaves = (
  subst (IsChecked p earlier l) is (answers earlier kept),
  subst (λ x. IsKeptAfter p earlier l x new) is (leaves earlier kept),
)

pub keep-requires : goal.keep-requires
keep-requires c =
    let p = c.args.ground.now in
    let lines = c.args.section.now.lines in
    let front = take c.loop-place.place lines in
    let l = line_of c.line.result in
    let r = c.loop-place.invariant in
    let h =
    holds_taken p front l c.in_ok-check_line.field-0 c.loop-place.before.kept c.check_line.new.before.kept
    c.in-Holds.is r.kept c.in_ok-check_line.ensures.checked c.in_ok-check_line.ensures.kept in
    has_next p c.args.section.now.first lines c.loop-place.place l c.loop-place.before c.check_line.new.before
    c.loop-place.line (omega arith) c.line.ensures r
    c.in_ok-check_line.ensures.problem c.in_ok-check_line.ensures.lines h.0 h.1

pub loop-place-preserved : goal.loop-place-preserved
loop-place-preserved c =
    let p = c.args.ground.now in
    let lines = c.args.section.now.lines in
    let front = take c.loop-place.place lines in
    let l = line_of c.line.result in
    let r = c.loop-place.invariant in
    let h =
    holds_taken p front l c.in_ok-check_line.field-0 c.loop-place.before.kept c.check_line.new.before.kept
    c.in-Holds.is r.kept c.in_ok-check_line.ensures.checked c.in_ok-check_line.ensures.kept in
    reads_more p c.args.section.now.first lines c.loop-place.place l c.loop-place.before c.check_line.new.before
    c.keep.new.before c.loop-place.line (omega arith) c.line.ensures r
    c.in_ok-check_line.ensures.problem c.in_ok-check_line.ensures.lines h.0 h.1 c.in_ok-check_line.ensures.ready
    c.keep.ensures.kept c.keep.ensures.ready

pub returns-then-ends_empty-clause-valid : goal.returns-then-ends_empty-clause-valid
returns-then-ends_empty-clause-valid c =
    all_read c.args.ground.now c.args.section.now.first c.args.section.now.lines c.loop-place.place c.loop-place.before
    c.loop-place.line (omega arith) c.loop-place.invariant (c.if-ends_empty.ensures.0 refl)

pub returns-else-ends_empty-clause-refused : goal.returns-else-ends_empty-clause-refused
returns-else-ends_empty-clause-refused c =
    let lines = c.args.section.now.lines in
    subst (λ (f : LogFault). IsSectionError c.args.ground.now c.args.section.now.first lines (Fault f))
    (sym c.new-fault.ensures)
    (end_refused c.args.ground.now c.args.section.now.first lines c.loop-place.place c.loop-place.before
    c.loop-place.line (omega arith) (omega arith) c.loop-place.invariant
    (λ empty. let f = c.if-ends_empty.ensures.1 empty in absurd (cc)))
