use Rattle.std.proofs.Common.{subst, codes}
use Rattle.std.specs.Prelude.{MatchOption, ℕ}
use Rattle.gh_ast.specs.Plain.{program_of}
use Rattle.gh_run.specs.Lines.{IsNumberOf}
use Rattle.gh_run.proofs.LineLemmas.{no_procedure, procedure_read, front_is}
use Rattle.gh_run.proofs.lines.read_procedure.Goals as goal

pub returns-in_err-line : goal.returns-in_err-line
returns-in_err-line c =
    rw c.from_residual.ensures
    (no_procedure (program_of c.args.typed.now) c.args.cursor.now.text.now c.take_line.new.cursor.text.now
    c.in_err-line.ensures)

pub returns : goal.returns
returns c =
    let P = program_of c.args.typed.now in
    let o = c.number_of.result in
    let name = c.in_ok-name.name.now in
    let found = subst (λ W. MatchOption o ((n : ℕ) → IsNumberOf (program_of W) name n → ⊥)
    (IsNumberOf (program_of W) name)) c.program.ensures.same c.number_of.ensures in
    procedure_read P c.args.cursor.now.text.now c.in_ok-line.line.now name c.take_line.new.cursor.text.now o
    c.in_ok-line.ensures (front_is 10 c.in_ok-line.line.now (codes "procedure ") name c.in_ok-name.ensures.cases.0
    c.in_ok-name.ensures.cases.1) found
