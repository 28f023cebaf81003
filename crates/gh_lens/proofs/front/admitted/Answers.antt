use Rattle.gh_lens.proofs.front.admitted.Goals as goal

pub returns-clause-admitted : goal.returns-clause-admitted
returns-clause-admitted c = record {
  typed = rw c.program-program.ensures.same at c.program-program.ensures.typed;
  limits = rw c.program-program.ensures.same at c.program-program.ensures.limits;
  paths = c.in_ok-conditions.ensures.paths;
  steps = c.in_ok-conditions.ensures.steps;
  terms = c.in_ok-admit.ensures.terms;
  versions = c.in_ok-admit.ensures.versions;
}
