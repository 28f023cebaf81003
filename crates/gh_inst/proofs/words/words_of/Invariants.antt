use Rattle.std.proofs.Common.{◌≡◌, ◌<◌, ◌+◌, ◌*◌, ℕ, Some, length}
use Rattle.std.specs.Prelude.{slice_get}
use Rattle.std.specs.Int.{bit_at}
use Rattle.gh_base.specs.Structures.{interpretation_of}
use Rattle.gh_inst.specs.Words.{bit_of, is_between, is_hop}
use Rattle.gh_inst.proofs.words.words_of.Given as goal

abbrev pub invariant-loop-place : goal.invariant-loop-place
invariant-loop-place l = record {
  long : length l.words ≡ 1088;
  done : (x y z word : ℕ) → x < l.structure.sizes.terms → y < l.structure.sizes.terms → z < l.structure.sizes.terms
      → x * 32 + y < l.place → slice_get l.words (x * 32 + y) ≡ Some word
      → bit_at word z ≡ bit_of (is_between (interpretation_of l.structure) l.version x y z);
  reach : (x y word : ℕ) → x < l.structure.sizes.terms → y < l.structure.sizes.terms → 1024 + x < l.place
      → slice_get l.words (1024 + x) ≡ Some word
      → bit_at word y ≡ bit_of (is_between (interpretation_of l.structure) l.version x y y);
  hops : (x y word : ℕ) → x < l.structure.sizes.terms → y < l.structure.sizes.terms → 1056 + x < l.place
      → slice_get l.words (1056 + x) ≡ Some word
      → bit_at word y ≡ bit_of (is_hop (interpretation_of l.structure) l.version x y);
}
