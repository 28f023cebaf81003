use Rattle.gh_ast.specs.Plain.{program_of}
use Rattle.gh_machine.specs.Configs.{IsMadeFor}
use Rattle.gh_verdict_tests.proofs.machine_tests.stepped.Given as goal

abbrev pub invariant-loop-choice : goal.invariant-loop-choice
invariant-loop-choice l = IsMadeFor (program_of l.typed) l.config
