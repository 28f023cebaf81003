use Rattle.std.proofs.Common.{subst, sym}
use Rattle.gh_ast.specs.declared.Program.{Program}
use Rattle.gh_ast.specs.Plain.{program_of}
use Rattle.gh_ast.specs.Rules.{IsTyped}
use Rattle.gh_verdict_tests.proofs.decide_tests.found_in.Goals as goal

pub found_of-requires-clause-typed : goal.found_of-requires-clause-typed
found_of-requires-clause-typed c =
    subst (λ (p : Program). IsTyped (program_of p)) (sym c.in-Ok-check.ensures.ok) c.in-Ok-check.ensures.rules
