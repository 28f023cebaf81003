use Rattle.std.proofs.Common.{subst}
use Rattle.gh_symb.specs.Passing.{MeetsState}
use Rattle.gh_symb.proofs.passed.PathSoFar.ask_check.Goals as goal

pub returns-clause-met : goal.returns-clause-met
returns-clause-met c =
    subst (λ es. MeetsState es c.ask_check.new.self.scope c.args.self.now c.meet.new.self) c.in_ok-before.ensures
    c.in_ok-meet.ensures
