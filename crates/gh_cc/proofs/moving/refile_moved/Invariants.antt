use Rattle.std.proofs.Common.{◌≡◌, ℕ, ◌<◌, Some}
use Rattle.std.specs.Prelude.{slice_get}
use Rattle.gh_base.specs.declared.atom.Term.{Term}
use Rattle.gh_base.specs.declared.atom.Lit.{Lit}
use Rattle.gh_cc.specs.Kept.{AreTied, Grows, IsFiled}
use Rattle.gh_cc.specs.Uses.{Mentions, IsMoved}
use Rattle.gh_cc.proofs.moving.refile_moved.Given as goal

abbrev pub invariant-loop-t : goal.invariant-loop-t
invariant-loop-t l = record {
  tied : AreTied l.indexed.sizes l.indexed.lits.now l.partition l.signatures;
  grows : Grows l.initial.signatures l.signatures;
  filed : (i : ℕ) (k : Lit) (u : Term) → slice_get l.indexed.lits.now i ≡ Some k → Mentions k.atom u → u.0 < l.t
      → IsMoved l.partition.links u
      → IsFiled l.indexed.sizes l.indexed.lits.now l.partition.links l.signatures.entries k;
}
