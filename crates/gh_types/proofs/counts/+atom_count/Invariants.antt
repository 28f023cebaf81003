use Rattle.std.proofs.Common.{◌≡◌, ◌+◌, ◌≤◌, drop}
use Rattle.gh_ast.specs.Plain.{assertions_view}
use Rattle.gh_ast.specs.Limits.{reported, all_atoms}
use Rattle.gh_types.proofs.counts.+atom_count.Given as goal

abbrev pub invariant-count_all_atoms-loop-assertion : goal.invariant-count_all_atoms-loop-assertion
invariant-count_all_atoms-loop-assertion l = record {
  total : reported (l.sum + all_atoms (assertions_view (drop l.assertion-index l.assertions)))
      ≡ reported (all_atoms (assertions_view l.assertions));
  within : l.sum ≤ 4294967295;
}
