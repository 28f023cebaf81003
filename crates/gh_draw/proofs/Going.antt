-- A list that is read from the front: what is still to come of it, against the whole.
use Rattle.std.specs.Prelude.{◌≡◌, ℕ, List, [], ◌∷◌, ◌++◌}
use Rattle.std.proofs.Common.{refl, sym, ◌∙◌, ap, subst}
use Rattle.std.proofs.lemmas.List.{append_assoc}

-- after `done`, P reads what is still to come, and Q the whole
pub record Goes {X : Type 0} (P Q : List X → List ℕ → Type 0) (done : List X) : Type 0 where
  pub sound : (es : List X) (rest : List ℕ) → P es rest → Q (done ++ es) rest
  pub whole : (fs : List X) (rest : List ℕ) → Q fs rest → (es : List X) × (fs ≡ done ++ es) × P es rest

-- R reads what comes after one more
pub record Turns {X : Type 0} (P R : List X → List ℕ → Type 0) (x : X) : Type 0 where
  pub sound : (es : List X) (rest : List ℕ) → R es rest → P (x ∷ es) rest
  pub whole : (fs : List X) (rest : List ℕ) → P fs rest → (es : List X) × (fs ≡ x ∷ es) × R es rest

pub goes_begin : {X : Type 0} (P : List X → List ℕ → Type 0) → Goes P P []
goes_begin P = record { sound = λ es rest holds. holds; whole = λ fs rest holds. (fs, refl, holds) }

one_more : {X : Type 0} (done : List X) (x : X) (es : List X) → (done ++ x ∷ []) ++ es ≡ done ++ x ∷ es
one_more done x es = append_assoc done (x ∷ []) es

pub goes_more : {X : Type 0} (P Q R : List X → List ℕ → Type 0) (done : List X) (x : X) → Goes P Q done → Turns P R x
    → Goes R Q (done ++ x ∷ [])
goes_more {X} P Q R done x g t = record {
  sound =
      λ es rest r. subst (λ (l : List X). Q l rest) (sym (one_more done x es))
      (g.sound (x ∷ es) rest (t.sound es rest r));
  whole = λ fs rest q. after fs rest (g.whole fs rest q);
}
  where
    at_turn : (fs : List X) (rest : List ℕ) (es : List X) → fs ≡ done ++ es → (ds : List X) × (es ≡ x ∷ ds) × R ds rest
        → (es : List X) × (fs ≡ (done ++ x ∷ []) ++ es) × R es rest
    at_turn fs rest es is (ds, turn, r) = (ds, is ∙ ap (λ l. done ++ l) turn ∙ sym (one_more done x ds), r)

    after : (fs : List X) (rest : List ℕ) → (es : List X) × (fs ≡ done ++ es) × P es rest
        → (es : List X) × (fs ≡ (done ++ x ∷ []) ++ es) × R es rest
    after fs rest (es, is, holds) = at_turn fs rest es is (t.whole es rest holds)
