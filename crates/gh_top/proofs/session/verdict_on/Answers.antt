use Rattle.gh_ast.specs.Plain.{program_of}
use Rattle.gh_top.proofs.SessionLemmas.{verdict_on}
use Rattle.gh_top.proofs.session.verdict_on.Goals as goal

pub verdict-requires : goal.verdict-requires
verdict-requires c = record { outcome = rw c.typed.ensures.same at c.in_ok-outcome.ensures.outcome }

pub returns : goal.returns
returns c =
    verdict_on (program_of c.args.admitted.now) _ _ c.in_ok-outcome.outcome c.in_ok-report.report.status
    c.in_ok-report.report.text (rw c.typed.ensures.same at c.in_ok-outcome.ensures.outcome)
    (rw c.typed.ensures.same at c.in_ok-outcome.ensures.decided) c.in_ok-report.ensures
