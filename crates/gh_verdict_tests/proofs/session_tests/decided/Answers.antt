use Rattle.std.proofs.Common.{subst, sym}
use Rattle.gh_ast.specs.declared.Program.{Program}
use Rattle.gh_ast.specs.Plain.{program_of}
use Rattle.gh_ast.specs.Rules.{IsTyped}
use Rattle.gh_verdict_tests.proofs.session_tests.decided.Goals as goal

pub told_of-requires-clause-typed : goal.told_of-requires-clause-typed
told_of-requires-clause-typed c =
    subst (λ (p : Program). IsTyped (program_of p)) (sym c.in-Ok-check.ensures.ok) c.in-Ok-check.ensures.rules
