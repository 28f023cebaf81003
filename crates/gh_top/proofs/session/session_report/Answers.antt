use Rattle.std.proofs.Common.{◌∙◌, refl}
use Rattle.std.specs.Prelude.{codes, ◌++◌, Some}
use Rattle.std.specs.Fmt.{decimal}
use Rattle.gh_draw.specs.Drawings.{line}
use Rattle.gh_top.specs.Sessions.{bad_line, too_many}
use Rattle.gh_top.proofs.SessionLemmas.{is_answered, file_told}
use Rattle.gh_top.proofs.session.session_report.Goals as goal

pub returns-in_ok-answers-in-Ok : goal.returns-in_ok-answers-in-Ok
returns-in_ok-answers-in-Ok c =
    is_answered c.args.text.now c.in-Ok.edits _ _ c.requires.short c.in-Ok.ensures.read c.in_ok-answers-in-Ok.ensures
    refl

pub returns-in_ok-bad_line-in-Err-Line : goal.returns-in_ok-bad_line-in-Err-Line
returns-in_ok-bad_line-in-Err-Line c =
    let why = rw c.in-Err-Line.field-0-is at c.in-Err-Line.ensures.refused in
    file_told (Some c.args.text.now) _ (line (codes "refused: session line " ++ decimal c.in-Err-Line.line)) _
    (bad_line c.in-Err-Line.line c.requires.short why) c.file_refused.ensures.status
    (c.file_refused.ensures.text ∙ c.in_ok-bad_line-in-Err-Line.ensures)

pub returns-in_ok-many_line-in-Err-TooMany : goal.returns-in_ok-many_line-in-Err-TooMany
returns-in_ok-many_line-in-Err-TooMany c =
    let why = rw c.in-Err-TooMany.field-0-is at c.in-Err-TooMany.ensures.refused in
    file_told (Some c.args.text.now) _
    (line (codes "refused: session TooMany at line " ++ decimal c.in-Err-TooMany.line)) _
    (too_many c.in-Err-TooMany.line c.requires.short why) c.file_refused-in-Err-TooMany.ensures.status
    (c.file_refused-in-Err-TooMany.ensures.text ∙ c.in_ok-many_line-in-Err-TooMany.ensures)
