-- The keys of literals of a sign.
use Rattle.std.proofs.Common.{◌≡◌, ℕ, ◌+◌, ◌<◌, ◌∷◌, ◌++◌, [], Bool, List, All, length, take, Some, refl, subst}
use Rattle.std.specs.Prelude.{Contains, slice_get}
use Rattle.std.specs.List.Sorted.{IsPermutation, IsNonDecreasing}
use Rattle.std.proofs.lemmas.List.Elements.{All-more, All-weaker, All-push, Contains-append_left, Contains-push}
use Rattle.std.proofs.lemmas.Option.{get_or_from_slice_get}
use Rattle.std.proofs.lemmas.List.Sorted.{All-permutation, Contains-permutation}
use Rattle.gh_base.specs.declared.atom.Lit.{Lit}
use Rattle.gh_base.specs.declared.sizes.Sizes.{Sizes}
use Rattle.gh_base.specs.Atoms.{number_of}
use Rattle.gh_cc.specs.declared.partition.Link.{Link}
use Rattle.gh_cc.specs.Kept.{normal, reps}
use Rattle.gh_cc.specs.Lemma.{HasKey, AreListed, AreKeys}

abbrev pub key_of : Sizes → List Link → Lit → ℕ
key_of s links l = number_of s (normal (reps links) l.atom)

-- the keys of those of the first literals that have the sign
pub record AreFirst (s : Sizes) (links : List Link) (lits : List Lit) (sign : Bool) (keys : List ℕ)
    (i : ℕ) : Type 0 where
  pub each : All (HasKey s links lits sign) keys
  pub all : All (λ l. l.positive ≡ sign → Contains keys (key_of s links l)) (take i lits)

pub first_none : (s : Sizes) (links : List Link) (lits : List Lit) (sign : Bool) (keys : List ℕ) (i : ℕ) (x : Lit)
    → i < length lits → AreFirst s links lits sign keys i → slice_get lits i ≡ Some x → (x.positive ≡ sign → ⊥)
    → AreFirst s links lits sign keys (i + 1)
first_none s links lits sign keys i x within h at off = record {
  each = h.each;
  all = All-more (λ (l : Lit). l.positive ≡ sign → Contains keys (key_of s links l)) lits i x within h.all
      (rw (get_or_from_slice_get lits i x x at) (λ e. absurd (off e)));
}

pub first_one : (s : Sizes) (links : List Link) (lits : List Lit) (sign : Bool) (keys : List ℕ) (i : ℕ) (x : Lit)
    → i < length lits → AreFirst s links lits sign keys i → slice_get lits i ≡ Some x → Contains lits x
    → x.positive ≡ sign
    → AreFirst s links lits sign (keys ++ key_of s links x ∷ []) (i + 1)
first_one s links lits sign keys i x within h at there on =
    let new = keys ++ key_of s links x ∷ [] in
    record {
      each = All-push (HasKey s links lits sign) keys (key_of s links x) h.each
          (record { lit = x; there = there; signed = on; is = refl });
      all = All-more (λ (l : Lit). l.positive ≡ sign → Contains new (key_of s links l)) lits i x within
          (All-weaker (λ (l : Lit). l.positive ≡ sign → Contains keys (key_of s links l))
          (λ (l : Lit). l.positive ≡ sign → Contains new (key_of s links l))
          (λ l f e. Contains-append_left keys (key_of s links x ∷ []) (key_of s links l) (f e)) (take i lits) h.all)
          (rw (get_or_from_slice_get lits i x x at) (λ e. Contains-push keys (key_of s links x)));
    }

pub first_all : (s : Sizes) (links : List Link) (lits : List Lit) (sign : Bool) (keys : List ℕ) (i : ℕ)
    → take i lits ≡ lits → AreFirst s links lits sign keys i → AreListed s links lits sign keys
first_all s links lits sign keys i whole h = record {
  each = h.each;
  all = subst (λ (ls : List Lit). All (λ l. l.positive ≡ sign → Contains keys (key_of s links l)) ls) whole h.all;
}

-- in another order
pub listed_sorted : (s : Sizes) (links : List Link) (lits : List Lit) (sign : Bool) (keys new : List ℕ)
    → IsPermutation keys new → IsNonDecreasing new → AreListed s links lits sign keys → AreKeys s links lits sign new
listed_sorted s links lits sign keys new moved ascending h = record {
  listed = record {
    each = All-permutation (HasKey s links lits sign) keys new moved h.each;
    all = All-weaker (λ (l : Lit). l.positive ≡ sign → Contains keys (key_of s links l)) (λ (l : Lit). l.positive ≡ sign
        → Contains new (key_of s links l)) (λ l f e. Contains-permutation keys new (key_of s links l) moved (f e)) lits
        h.all;
  };
  ascending = ascending;
}
