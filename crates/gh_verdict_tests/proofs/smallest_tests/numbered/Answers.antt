use Rattle.std.proofs.Common.{Some, subst}
use Rattle.gh_ast.specs.Plain.{program_of}
use Rattle.gh_path.specs.Answers.{IsNumbered}
use Rattle.gh_trace.proofs.FirstRefuted.{numbered_one}
use Rattle.gh_verdict_tests.proofs.smallest_tests.numbered.Goals as goal

pub bounds-requires-clause-one : goal.bounds-requires-clause-one
bounds-requires-clause-one c =
    let P = program_of c.args.typed.now in
    let found : IsNumbered P c.args.number (Some c.in-Some.condition) =
    subst (λ Q. IsNumbered Q c.args.number (Some c.in-Some.condition)) c.requires.same
    (rw c.in-Some.is at c.in_ok-condition.ensures) in
    numbered_one P c.args.number c.in-Some.condition found
