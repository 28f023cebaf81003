use Rattle.std.proofs.Common.{◌≡◌, ◌∷◌}
use Rattle.gh_grass.specs.Claims.{ground_formula_list, negation_of}
use Rattle.gh_symb.specs.Formulas.{allocated, hops, each}
use Rattle.gh_reduce.proofs.statements.leads.Given as goal

abbrev pub invariant-loop-v : goal.invariant-loop-v
invariant-loop-v l =
    ground_formula_list l.members.items ≡ negation_of (allocated l.version l.x) ∷ each l.v (hops l.version l.x)
