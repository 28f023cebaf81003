-- How heaps split.
use Rattle.std.specs.Prelude.{◌≡◌, ◌⊎◌, ℕ, Option, Some, None}
use Rattle.std.specs.FinMap.{get}
use Rattle.std.proofs.Common.{sym, ◌∙◌, subst, inl, inr}
use Rattle.gh_assert.specs.Heaps.{Heap, Splits, or_else}
use Rattle.gh_assert.specs.Laws.{SplitsCompose}
use Rattle.gh_assert.proofs.Cells.{by_look_ups}
use Rattle.gh_assert.proofs.Frames.{taken_back}
use Rattle.gh_assert.proofs.Unions.{union, get_union}

turned : (o a b : Option ℕ) → (a ≡ None) ⊎ (b ≡ None) → o ≡ or_else a b → o ≡ or_else b a
turned o None None d e = e
turned o None (Some w) d e = e
turned o (Some v) None d e = e
turned o (Some v) (Some w) d e = elim d [ inl n ↦ absurd cc | inr n ↦ absurd cc ]

pub symmetric : (h a b : Heap) → Splits h a b → Splits h b a
symmetric h a b split = record {
  disjoint = λ q. elim (split.disjoint q) [ inl n ↦ inr n | inr n ↦ inl n ];
  union = λ q. turned (get h q) (get a q) (get b q) (split.disjoint q) (split.union q);
}

one_rest : (o a b c : Option ℕ) → (a ≡ None) ⊎ (b ≡ None) → (a ≡ None) ⊎ (c ≡ None) → o ≡ or_else a b → o ≡ or_else a c
    → b ≡ c
one_rest o None b c d e p q = sym p ∙ q
one_rest o (Some v) b c d e p q = elim d [
  | inl n ↦ absurd cc
  | inr n ↦ elim e [ inl m ↦ absurd cc | inr m ↦ n ∙ sym m ]
]

pub rest : (h a b c : Heap) → Splits h a b → Splits h a c → b ≡ c
rest h a b c one two =
    by_look_ups b c (λ q. one_rest (get h q) (get a q) (get b q) (get c q) (one.disjoint q) (two.disjoint q)
    (one.union q) (two.union q))

pub whole : (h k a b : Heap) → Splits h a b → Splits k a b → h ≡ k
whole h k a b one two = by_look_ups h k (λ q. one.union q ∙ sym (two.union q))

pub associative : (h a b c d : Heap) → Splits h a b → Splits b c d → (k : Heap) × Splits h k d × Splits k a c
associative h a b c d one two =
    let same : b ≡ union c d =
    whole b (union c d) c d two (record { disjoint = two.disjoint; union = λ q. get_union c d q }) in
    let back = taken_back h a c d (subst (Splits h a) same one) two.disjoint in
    (union a c, back.0, back.1)

pub splits_compose : SplitsCompose
splits_compose = record { symmetric = symmetric; associative = associative; whole = whole; rest = rest }
