use Rattle.std.proofs.Common.{◌≡◌, ◌+◌, ◌≤◌, drop}
use Rattle.gh_ast.specs.Limits.{reported}
use Rattle.gh_ast.specs.Questions.{claims_view}
use Rattle.gh_entail.specs.Limits.{claims_atoms}
use Rattle.gh_entail.proofs.occurrences.+count.Given as goal

abbrev pub invariant-count_in_claims-loop-claim : goal.invariant-count_in_claims-loop-claim
invariant-count_in_claims-loop-claim l = record {
  total : reported (l.sum + claims_atoms (claims_view (drop l.claim-index l.claims)))
      ≡ reported (claims_atoms (claims_view l.claims));
  within : l.sum ≤ 4294967295;
}
