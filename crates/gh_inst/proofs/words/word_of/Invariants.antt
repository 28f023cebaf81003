use Rattle.std.proofs.Common.{◌≡◌, ◌<◌, ◌≤◌, ℕ}
use Rattle.std.specs.Int.{bit_at}
use Rattle.gh_base.specs.Meaning.{atom_truth}
use Rattle.gh_base.specs.Structures.{interpretation_of}
use Rattle.gh_inst.specs.Words.{atom_in, bit_of}
use Rattle.gh_inst.proofs.words.word_of.Given as goal

abbrev pub invariant-loop-z : goal.invariant-loop-z
invariant-loop-z l = record {
  done : (i : ℕ) → i < l.z
      → bit_at l.word i ≡ bit_of (atom_truth (interpretation_of l.structure) (atom_in l.version l.of i));
  left : (i : ℕ) → l.z ≤ i → bit_at l.word i ≡ 0;
}
