use Rattle.std.proofs.Common.{◌≡◌, ℕ, suc, ◌≤◌, ◌/◌, Some, length}
use Rattle.std.specs.Prelude.{slice_get}
use Rattle.gh_base.specs.declared.atom.Lit.{Lit}
use Rattle.gh_cc.specs.Kept.{AreTied, Grows, IsFiled}
use Rattle.gh_cc.proofs.moving.refile_term.Given as goal

abbrev pub invariant-loop-next : goal.invariant-loop-next
invariant-loop-next l = record {
  tied : AreTied l.indexed.sizes l.indexed.lits.now l.partition l.signatures;
  grows : Grows l.initial.signatures l.signatures;
  within : l.next ≤ length l.indexed.uses.now.list;
  here : (n : ℕ) → l.next ≡ suc n → slice_get l.indexed.uses.now.list n ≡ Some (Some l.term);
  filed : (j : ℕ) (k : Lit) → l.next ≤ j → slice_get l.indexed.uses.now.list j ≡ Some (Some l.term)
      → slice_get l.indexed.lits.now (j / 3) ≡ Some k
      → IsFiled l.indexed.sizes l.indexed.lits.now l.partition.links l.signatures.entries k;
}

abbrev pub decreases-loop-next : goal.decreases-loop-next
decreases-loop-next l = l.next
