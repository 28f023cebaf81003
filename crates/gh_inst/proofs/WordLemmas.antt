-- What words say of literals.
use Rattle.std.proofs.Common.{◌≡◌, ◌≢◌, ◌^◌, w32, ◌⊎◌, inl, inr, ℕ, zero, suc, ◌<◌, ◌≤◌, List, [], ◌∷◌, ◌++◌, length}
use Rattle.std.proofs.Common.{Some, Bool, true, false, refl, sym, ap, subst, ◌+◌, ◌∙◌, arith, take, All}
use Rattle.std.specs.Prelude.{slice_get, slice_index_or, slice_set, bit_and, min, nat_eq}
use Rattle.std.specs.Int.{bit_at, bit_not}
use Rattle.std.proofs.lemmas.Nat.Bits.{bit_at_and, bit_at_ones, bit_at_not, bit_at-lt}
use Rattle.gh_base.specs.declared.atom.Term.{Term}
use Rattle.gh_base.specs.declared.atom.Atom.TheVariants.{Btwn, Hop}
use Rattle.gh_inst.specs.declared.schema.Shape.TheVariants.{Btwn as Between, Hop as Step}
use Rattle.gh_base.specs.Meaning.{Interpretation, under, atom_truth, lit_truth}
use Rattle.gh_base.specs.declared.sizes.Sizes.{Sizes}
use Rattle.gh_base.specs.Atoms.{IsInRange, term}
use Rattle.gh_inst.specs.declared.schema.Pattern.{Pattern}
use Rattle.gh_inst.specs.declared.words.WordOf.{WordOf}
use Rattle.gh_inst.specs.declared.words.WordOf.TheVariants.{Pair, Reach, Cell}
use Rattle.gh_inst.specs.Schemas.{places_of, term_at, atom_of, lit_over}
use Rattle.gh_inst.specs.Words.{bit_of, is_between, is_hop, atom_in, AreThere, AreWords, IsPair, AreTruths, AreFalse}
use Rattle.gh_inst.proofs.SearchLemmas.{index_front, index_below}

pub bit_zero : (b : Bool) → bit_of b ≡ 0 → b ≡ false
bit_zero true e = absurd (omega arith)
bit_zero false e = refl

not_true : (b : Bool) → under false b ≡ true → b ≡ false
not_true true e = cc
not_true false e = refl

pub bit_one : (b : Bool) → bit_of b ≡ 1 → b ≡ true
bit_one true e = refl
bit_one false e = absurd (omega arith)

-- the atoms of a word are in range
pub atom_there : (s : Sizes) (version z : ℕ) (of : WordOf) → version < s.versions → AreThere s.terms of → z < s.terms
    → IsInRange s (atom_in version of z)
atom_there s version z (Pair x y) there h below = (there, h.0, h.1, below)
atom_there s version z (Reach x) there h below = (there, h, below, below)
atom_there s version z (Cell x) there h below = (there, h, below)

-- the truth of a literal on a pair
pub pair_truth : (m : Interpretation) (version first place z : ℕ) (tuple rest : List Term) (p : Pattern)
    → IsPair p tuple first place → first ≤ length tuple
    → slice_index_or (take first tuple ++ rest) (slice_index_or p.places 2 0) (term 0) ≡ term z
    → lit_truth m (lit_over version (take first tuple ++ rest) p)
    ≡ under p.positive
    (is_between m version (slice_index_or tuple (slice_index_or p.places 0 0) (term 0)).0
    (slice_index_or tuple (slice_index_or p.places 1 0) (term 0)).0 z)
pair_truth m version first place z tuple rest p pair long end =
    let at : ℕ → Term = term_at (take first tuple ++ rest) p.places in
    let x : at 0 ≡ slice_index_or tuple (slice_index_or p.places 0 0) (term 0) =
    index_front first tuple rest (slice_index_or p.places 0 0) pair.x_known long in
    let y : at 1 ≡ slice_index_or tuple (slice_index_or p.places 1 0) (term 0) =
    index_front first tuple rest (slice_index_or p.places 1 0) pair.y_known long in
    let third : at 2 ≡ term z = end in
    ap (λ s. under p.positive (atom_truth m (atom_of s version at))) pair.shape
    ∙ ap (λ t. under p.positive (m.table (Btwn version t (at 1) (at 2)))) x
    ∙ ap (λ t. under p.positive
    (m.table (Btwn version (slice_index_or tuple (slice_index_or p.places 0 0) (term 0)) t (at 2)))) y
    ∙ ap (λ t. under p.positive
    (m.table (Btwn version (slice_index_or tuple (slice_index_or p.places 0 0) (term 0))
    (slice_index_or tuple (slice_index_or p.places 1 0) (term 0)) t))) third

-- the bit of a pair's word
pub pair_bit : (m : Interpretation) (version n first place z word : ℕ) (words : List ℕ) (tuple : List Term)
    (p : Pattern) → AreWords m version n words → IsPair p tuple first place
    → first ≤ length tuple → All (λ t. t.0 < n) (take first tuple) → z < n → slice_get words place ≡ Some word
    → bit_at word z
    ≡ bit_of (is_between m version (slice_index_or tuple (slice_index_or p.places 0 0) (term 0)).0
    (slice_index_or tuple (slice_index_or p.places 1 0) (term 0)).0 z)
pair_bit m version n first place z word words tuple p w pair long below h got_word =
    w.bits _ _ z word
    (index_below first n tuple (slice_index_or p.places 0 0) pair.x_known long below)
    (index_below first n tuple (slice_index_or p.places 1 0) pair.y_known long below)
    h (ap (slice_get words) (sym pair.place_is) ∙ got_word)

min_zero : (a b : ℕ) → min a b ≡ 0 → (a ≡ 0) ⊎ (b ≡ 0)
min_zero zero b e = inl refl
min_zero (suc a) zero e = inr refl
min_zero (suc a) (suc b) e = absurd (omega (arith, e))

-- a bit that a conjunction doesn't have is one that either doesn't have
pub and_zero : (a b i : ℕ) → bit_at (bit_and a b) i ≡ 0 → (bit_at a i ≡ 0) ⊎ (bit_at b i ≡ 0)
and_zero a b i e = min_zero (bit_at a i) (bit_at b i) (sym (bit_at_and a b i) ∙ e)

-- the words at places
pub set_words : (words : List ℕ) (place k v word : ℕ) → slice_get (slice_set words place v) k ≡ Some word
    → ((k ≡ place) × (word ≡ v)) ⊎ ((k ≢ place) × (slice_get words k ≡ Some word))
set_words [] place k v word e = cc
set_words (x ∷ xs) zero zero v word e = inl (refl, cc)
set_words (x ∷ xs) zero (suc k) v word e = inr ((λ q. absurd (omega (arith, q))), e)
set_words (x ∷ xs) (suc place) zero v word e = inr ((λ q. absurd (omega (arith, q))), e)
set_words (x ∷ xs) (suc place) (suc k) v word e =
    elim (set_words xs place k v word e) [
      | inl h ↦ inl (ap suc h.0, h.1)
      | inr h ↦
          inr ((λ q. h.0 (omega (arith, q))), h.1)
    ]

-- each bit of a word of ones is one
pub all_ones : (z : ℕ) → z < 32 → bit_at 4294967295 z ≢ 0
all_ones z h e = let one : bit_at 4294967295 z ≡ 1 = bit_at_ones 32 z h in absurd (omega (arith, sym e ∙ one))

-- a bit that the opposite of a word doesn't have
pub opposite_bit : (word z : ℕ) → word < 2 ^ 32 → z < 32 → bit_at (bit_not w32 word) z ≡ 0 → bit_at word z ≡ 1
opposite_bit word z a b e = let n = bit_at_not w32 word z a b in let two = bit_at-lt word z in
    omega (arith, sym n ∙ e, two)

pub some_words : (k : ℕ) (b : Bool) → b ≡ nat_eq k 0 → b ≡ false → 0 < k
some_words zero b e f = cc
some_words (suc k) b e f = omega arith

-- the truths of a literal on betweenness whose first two terms are known, by the third
pub pair_truths : (m : Interpretation) (version n first place word : ℕ) (words : List ℕ) (tuple : List Term)
    (p : Pattern) → AreWords m version n words → IsPair p tuple first place
    → first ≤ length tuple → All (λ t. t.0 < n) (take first tuple) → slice_get words place ≡ Some word
    → AreTruths m version n p tuple first 2 word
pair_truths m version n first place word words tuple p w pair long below got_word = record {
  truth = λ z. is_between m version (slice_index_or tuple (slice_index_or p.places 0 0) (term 0)).0
      (slice_index_or tuple (slice_index_or p.places 1 0) (term 0)).0 z;
  used = subst (λ s. 2 < places_of s) (sym pair.shape) (omega arith);
  says = λ z rest h end. pair_truth m version first place z tuple rest p pair long end;
  bits = λ z h. pair_bit m version n first place z word words tuple p w pair long below h got_word;
}

-- of one whose second and third term are the same, by these
pub reach_truths : (m : Interpretation) (version n first word : ℕ) (words : List ℕ) (tuple : List Term) (p : Pattern)
    → AreWords m version n words → p.shape ≡ Between
    → slice_index_or p.places 1 0 ≡ slice_index_or p.places 2 0 → slice_index_or p.places 0 0 < first
    → first ≤ length tuple → All (λ t. t.0 < n) (take first tuple)
    → slice_get words (1024 + (slice_index_or tuple (slice_index_or p.places 0 0) (term 0)).0) ≡ Some word
    → AreTruths m version n p tuple first 2 word
reach_truths m version n first word words tuple p w shape same known long below got_word =
    let x : Term = slice_index_or tuple (slice_index_or p.places 0 0) (term 0) in
    record {
      truth = λ z. is_between m version x.0 z z;
      used = subst (λ s. 2 < places_of s) (sym shape) (omega arith);
      says = λ z rest h end.
          let at : ℕ → Term = term_at (take first tuple ++ rest) p.places in
          let front : at 0 ≡ x = index_front first tuple rest (slice_index_or p.places 0 0) known long in
          let third : at 2 ≡ term z = end in
          let second : at 1 ≡ term z = ap (λ k. slice_index_or (take first tuple ++ rest) k (term 0)) same ∙ end in
          ap (λ s. under p.positive (atom_truth m (atom_of s version at))) shape
          ∙ ap (λ t. under p.positive (m.table (Btwn version t (at 1) (at 2)))) front
          ∙ ap (λ t. under p.positive (m.table (Btwn version x t (at 2)))) second
          ∙ ap (λ t. under p.positive (m.table (Btwn version x (term z) t))) third;
      bits = λ z h. w.reach x.0 z word (index_below first n tuple (slice_index_or p.places 0 0) known long below) h
          got_word;
    }

-- of one on a cell, by the term that it leads to
pub hop_truths : (m : Interpretation) (version n first word : ℕ) (words : List ℕ) (tuple : List Term) (p : Pattern)
    → AreWords m version n words → p.shape ≡ Step
    → slice_index_or p.places 0 0 < first → first ≤ length tuple → All (λ t. t.0 < n) (take first tuple)
    → slice_get words (1056 + (slice_index_or tuple (slice_index_or p.places 0 0) (term 0)).0) ≡ Some word
    → AreTruths m version n p tuple first 1 word
hop_truths m version n first word words tuple p w shape known long below got_word =
    let x : Term = slice_index_or tuple (slice_index_or p.places 0 0) (term 0) in
    record {
      truth = λ z. is_hop m version x.0 z;
      used = subst (λ s. 1 < places_of s) (sym shape) (omega arith);
      says = λ z rest h end.
          let at : ℕ → Term = term_at (take first tuple ++ rest) p.places in
          let front : at 0 ≡ x = index_front first tuple rest (slice_index_or p.places 0 0) known long in
          let second : at 1 ≡ term z = end in
          ap (λ s. under p.positive (atom_truth m (atom_of s version at))) shape
          ∙ ap (λ t. under p.positive (m.table (Hop version t (at 1)))) front
          ∙ ap (λ t. under p.positive (m.table (Hop version x t))) second;
      bits = λ z h. w.hops x.0 z word (index_below first n tuple (slice_index_or p.places 0 0) known long below) h
          got_word;
    }

-- a negative literal is false where its atom is true
pub negative_false : (m : Interpretation) (version n first place word : ℕ) (tuple : List Term) (p : Pattern)
    → AreTruths m version n p tuple first place word → p.positive ≡ false
    → AreFalse m version n p tuple first place word
negative_false m version n first place word tuple p t negative = record {
  used = t.used;
  holds = λ z rest h end bit.
      let is : t.truth z ≡ false = bit_zero (t.truth z) (sym (t.bits z h) ∙ bit) in
      t.says z rest h end ∙ ap (λ b. under b (t.truth z)) negative ∙ ap (under false) is;
  fails = λ z rest h end bit holds.
      let is : under false (t.truth z) ≡ true = sym (ap (λ b. under b (t.truth z)) negative) ∙ sym (t.says z rest h end)
      ∙ holds in
      bit (t.bits z h ∙ ap bit_of (not_true (t.truth z) is));
}

-- and a positive one where it is not
pub positive_false : (m : Interpretation) (version n first place word : ℕ) (tuple : List Term) (p : Pattern)
    → AreTruths m version n p tuple first place word → p.positive ≡ true → n ≤ 32 → word < 2 ^ 32
    → AreFalse m version n p tuple first place (bit_not w32 word)
positive_false m version n first place word tuple p t positive few small = record {
  used = t.used;
  holds = λ z rest h end bit.
      let one : bit_at word z ≡ 1 = opposite_bit word z small (omega (arith, h, few)) bit in
      let is : t.truth z ≡ true = bit_one (t.truth z) (sym (t.bits z h) ∙ one) in
      t.says z rest h end ∙ ap (λ b. under b (t.truth z)) positive ∙ ap (under true) is;
  fails = λ z rest h end bit holds.
      let is : under true (t.truth z) ≡ true = sym (ap (λ b. under b (t.truth z)) positive) ∙ sym (t.says z rest h end)
      ∙ holds in
      let one : bit_at word z ≡ 1 = t.bits z h ∙ ap bit_of is in
      let opposite = bit_at_not w32 word z small (omega (arith, h, few)) in
      bit (omega (arith, opposite, one));
}
