use Rattle.std.proofs.Common.{subst, sym}
use Rattle.gh_ast.specs.declared.Program.{Program}
use Rattle.gh_ast.specs.Plain.{program_of}
use Rattle.gh_ast.specs.Rules.{IsTyped}
use Rattle.gh_verdict_tests.proofs.smallest_tests.bounds_in.Goals as goal

pub bounds_of-requires-clause-typed : goal.bounds_of-requires-clause-typed
bounds_of-requires-clause-typed c =
    subst (λ (p : Program). IsTyped (program_of p)) (sym c.in-Ok-check.ensures.ok) c.in-Ok-check.ensures.rules
