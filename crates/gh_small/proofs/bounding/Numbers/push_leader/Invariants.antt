use Rattle.std.proofs.Common.{◌≡◌, ◌∷◌, []}
use Rattle.gh_base.specs.declared.atom.Atom.TheVariants.{Eq}
use Rattle.gh_base.specs.Atoms.{term, positive, negative}
use Rattle.gh_small.specs.Fewer.{leader, is_allocated, each}
use Rattle.gh_small.proofs.bounding.Numbers.push_leader.Given as goal

abbrev pub invariant-loop-u : goal.invariant-loop-u
invariant-loop-u l = record {
  clause : l.clause ≡ positive (leader l.fn.self.first l.t) ∷ negative (is_allocated l.t)
      ∷ each l.u (λ u. positive (Eq (term u) (term l.t)) ∷ []);
}
