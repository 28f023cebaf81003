use Rattle.std.proofs.Common.{subst}
use Rattle.std.specs.Prelude.{option_map}
use Rattle.gh_ast.specs.Plain.{program_of}
use Rattle.gh_draw.specs.Reading.{IsFrontRead, IsOneOrNone, ShowsCondition, ShowsTrace}
use Rattle.gh_draw.proofs.Whole.{file_no_drawing, file_no_number, file_no_trace, file_whole}
use Rattle.gh_draw.proofs.reading.read_drawing.Goals as goal

pub returns-then-not-skip : goal.returns-then-not-skip
returns-then-not-skip c = file_no_drawing (program_of c.args.typed.now) c.args.text.now c.if-not-skip.ensures

pub returns-in_default : goal.returns-in_default
returns-in_default c =
    file_no_number (program_of c.args.typed.now) c.args.text.now c.skip.new.cursor.text.now
    c.read_number.new.cursor.text.now c.if-not-skip.ensures
    (subst (λ o. IsFrontRead ShowsCondition c.skip.new.cursor.text.now c.read_number.new.cursor.text.now o)
    c.in_default.is c.read_number.ensures)

pub returns-in_default-2 : goal.returns-in_default-2
returns-in_default-2 c =
    file_no_trace (program_of c.args.typed.now) c.args.text.now c.skip.new.cursor.text.now
    c.read_number.new.cursor.text.now c.in-Some.condition c.if-not-skip.ensures c.in-Some.ensures
    (subst (λ o. IsOneOrNone (ShowsTrace (program_of c.args.typed.now) c.in-Some.condition
    c.read_number.new.cursor.text.now) (option_map (λ t. t.states.items) o)) c.in_default-2.is
    c.in_ok-trace.ensures)

pub returns : goal.returns
returns c =
    file_whole (program_of c.args.typed.now) c.args.text.now c.skip.new.cursor.text.now
    c.read_number.new.cursor.text.now c.in-Some.condition c.in-Some-2.trace.states.items c.if-not-skip.ensures
    c.in-Some.ensures
    (subst (λ o. IsOneOrNone (ShowsTrace (program_of c.args.typed.now) c.in-Some.condition
    c.read_number.new.cursor.text.now) (option_map (λ t. t.states.items) o)) c.in-Some-2.is c.in_ok-trace.ensures)
