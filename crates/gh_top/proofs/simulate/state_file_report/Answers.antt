use Rattle.std.proofs.Common.{◌∙◌, subst, ap, List, ℕ, Some, arith}
use Rattle.std.specs.Prelude.{codes, ◌++◌}
use Rattle.std.specs.Fmt.{decimal}
use Rattle.gh_draw.specs.Drawings.{line}
use Rattle.std.proofs.lemmas.Result.{IfOk-weaker}
use Rattle.gh_ast.specs.Plain.{program_of}
use Rattle.gh_run.specs.StateFiles.{IsStateFile, IsFaultyLine}
use Rattle.gh_run.specs.Reports.{IsReport}
use Rattle.gh_top.specs.Replies.{RepliesOn}
use Rattle.gh_top.specs.declared.words.Request.TheVariants.{Run}
use Rattle.gh_top.proofs.HeadlineLemmas.{both_ok}
use Rattle.gh_top.proofs.RunLemmas.{state_faulty, run_told}
use Rattle.gh_top.proofs.simulate.state_file_report.Goals as goal

pub simulate-requires-clause-room : goal.simulate-requires-clause-room
simulate-requires-clause-room c = omega (arith, c.in-Ok.ensures.few, c.requires.short, c.requires.limit)

pub returns-in-Err-Line : goal.returns-in-Err-Line
returns-in-Err-Line c =
    let P = program_of c.args.admitted.now in
    let cause = rw c.in-Err-Line.field-0-is at c.in-Err-Line.ensures.refused in
    let why =
    subst (λ proc. IsFaultyLine (program_of proc) c.args.text.now c.in-Err-Line.line) c.typed-typed.ensures.same
    cause in
    both_ok c.faulty.result _ _
    (λ r. (file name : List ℕ) → RepliesOn (Run file name c.args.number) P (Some c.args.text.now) r.status r.text)
    c.faulty.ensures.status c.faulty.ensures.text
    (λ r s t. state_faulty P c.args.text.now c.in-Err-Line.line r.status r.text c.args.number c.requires.short why s
    (t ∙ ap (λ k. line (codes "refused: state line " ++ decimal k)) c.in-Err-Line.line-is))

pub returns : goal.returns
returns c =
    let P = program_of c.args.admitted.now in
    let file =
    subst (λ proc. IsStateFile (program_of proc) c.args.text.now c.in-Ok.begin) c.typed-typed.ensures.same
    c.in-Ok.ensures.read in
    let comes =
    subst (λ proc. IsReport (program_of proc) c.in-Ok.begin c.args.number c.in_ok-report.report)
    c.typed-typed.ensures.same c.in_ok-report.ensures in
    IfOk-weaker c.run_report.result _ _
    (λ r tells. run_told P c.args.text.now c.in-Ok.begin c.args.number c.in_ok-report.report r.status r.text
    c.requires.short file comes tells) c.run_report.ensures
