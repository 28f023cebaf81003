use Rattle.std.proofs.Common.{All}
use Rattle.gh_log.specs.Spelled.{IsOfVersion}
use Rattle.gh_solver_tests.proofs.log_text_tests.ground.Given as goal

abbrev pub invariant-loop-number : goal.invariant-loop-number
invariant-loop-number l = All (IsOfVersion 1) l.lines
