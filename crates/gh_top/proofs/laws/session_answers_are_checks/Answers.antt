use Rattle.gh_top.proofs.SessionLaws.{session_answers_are_checks}
use Rattle.gh_top.proofs.laws.session_answers_are_checks.Goals as goal

pub returns : goal.returns
returns c = session_answers_are_checks
