-- From a heap to an owned one that looks like it: what holds of positive claims stays, and what fails of negative ones
-- whose witnesses have names.
use Rattle.std.specs.Prelude.{◌≡◌, ◌⊎◌, ℕ, List, Bool, true, false, not, None}
use Rattle.std.specs.FinMap.{get}
use Rattle.std.proofs.Common.{inl, inr}
use Rattle.gh_ast.specs.Plain.{Assertion}
use Rattle.gh_assert.specs.Heaps.{Heap}
use Rattle.gh_assert.specs.Meaning.{Store, Meaning}
use Rattle.gh_assert.specs.Ownership.{Owned}
use Rattle.gh_assert.specs.Reading.{HasNames}
use Rattle.gh_path.specs.Terms.{Kind, Terms, walked}
use Rattle.gh_model.proofs.terms.Extension.{Grows, onto}
use Rattle.gh_model.proofs.terms.Denotation.{Sound, before, formula_named}
use Rattle.gh_ast.specs.Questions.{Claim, leaf, denial, every, either, Claims, no_claims, claim_first}
use Rattle.gh_entail.specs.Meaning.{Holds, AllHold, SomeHolds}
use Rattle.gh_entail.specs.Terms.{witnessed, claim_walked, claims_walked}
use Rattle.gh_entail.specs.Alike.{LooksLike, IsShown}
use Rattle.gh_entail.proofs.Walking.{leaf_grows, claims_grow}
use Rattle.gh_entail.proofs.Looking.{kept, back}

-- the witnesses of negative leaves are in V
abbrev mutual
  pub AreShown : Bool → Claim → List ℕ → Store → Heap → Type 0
  AreShown true (leaf f) V s h = IsShown V f s h
  AreShown false (leaf f) V s h = Unit {0}
  AreShown n (denial c) V s h = AreShown (not n) c V s h
  AreShown n (every cs) V s h = AllShown n cs V s h
  AreShown n (either cs) V s h = AllShown n cs V s h

  pub AllShown : Bool → Claims → List ℕ → Store → Heap → Type 0
  AllShown n no_claims V s h = Unit {0}
  AllShown n (claim_first c cs) V s h = AreShown n c V s h × AllShown n cs V s h

-- k is owned and looks like h, in which the terms t have the values V
pub record Looks (K : List Kind) (V : List ℕ) (st : Store) (h k : Heap) (t : Terms) : Type 0 where
  pub like : LooksLike V h k
  pub null : get k 0 ≡ None
  pub owned : Owned V k
  pub sound : Sound K V st h t

abbrev pub Moves : Bool → Type 0 → Type 0 → Type 0
Moves true A B = B → A
Moves false A B = A → B

denied : (n : Bool) (A B : Type 0) → Moves (not n) A B → Moves n (A → ⊥) (B → ⊥)
denied true A B f = λ u a. u (f a)
denied false A B f = λ u b. u (f b)

both : (n : Bool) (A B A' B' : Type 0) → Moves n A B → Moves n A' B' → Moves n (A × A') (B × B')
both true A B A' B' f g = λ u. (f u.0, g u.1)
both false A B A' B' f g = λ u. (f u.0, g u.1)

one_of : (n : Bool) (A B A' B' : Type 0) → Moves n A B → Moves n A' B' → Moves n (A ⊎ A') (B ⊎ B')
one_of true A B A' B' f g = λ u. elim u [ inl a ↦ inl (f a) | inr b ↦ inr (g b) ]
one_of false A B A' B' f g = λ u. elim u [ inl a ↦ inl (f a) | inr b ↦ inr (g b) ]

all_same : (n : Bool) (A : Type 0) → Moves n A A
all_same true A = λ u. u
all_same false A = λ u. u

leaf_named : (K : List Kind) (V : List ℕ) (st : Store) (h k : Heap) (t : Terms) → Looks K V st h k t
    → (n : Bool) (f : Assertion) (s : Terms) → Grows (witnessed n (walked f s)) t → HasNames f st h V
leaf_named K V st h k t L n f s g =
    formula_named K V st h f s (before K V st h (walked f s) t (leaf_grows n (walked f s) t g) L.sound)

leaf_moved : (K : List Kind) (V : List ℕ) (st : Store) (h k : Heap) (t : Terms) → Looks K V st h k t
    → (n : Bool) (f : Assertion) (s : Terms) → Grows (witnessed n (walked f s)) t → AreShown n (leaf f) V st h
    → Moves n (Meaning f st h) (Meaning f st k)
leaf_moved K V st h k t L true f s g shown =
    back f st V h k L.like L.null L.owned (leaf_named K V st h k t L true f s g) shown
leaf_moved K V st h k t L false f s g shown =
    kept f st V h k L.like L.null L.owned (leaf_named K V st h k t L false f s g)

mutual
  pub moved : (K : List Kind) (V : List ℕ) (st : Store) (h k : Heap) (t : Terms) → Looks K V st h k t
      → (c : Claim) (n : Bool) (s : Terms) → Grows (claim_walked n c s) t → AreShown n c V st h
      → Moves n (Holds c st h) (Holds c st k)
  moved K V st h k t L (leaf f) n s g shown = leaf_moved K V st h k t L n f s g shown
  moved K V st h k t L (denial c) n s g shown =
      denied n (Holds c st h) (Holds c st k) (moved K V st h k t L c (not n) s g shown)
  moved K V st h k t L (every cs) n s g shown = all_moved K V st h k t L cs n s g shown
  moved K V st h k t L (either cs) n s g shown = some_moved K V st h k t L cs n s g shown

  all_moved : (K : List Kind) (V : List ℕ) (st : Store) (h k : Heap) (t : Terms) → Looks K V st h k t
      → (cs : Claims) (n : Bool) (s : Terms) → Grows (claims_walked n cs s) t → AllShown n cs V st h
      → Moves n (AllHold cs st h) (AllHold cs st k)
  all_moved K V st h k t L no_claims n s g shown = all_same n (Unit {0})
  all_moved K V st h k t L (claim_first c cs) n s g shown =
      both n (Holds c st h) (Holds c st k) (AllHold cs st h) (AllHold cs st k)
      (moved K V st h k t L c n s (onto (claims_grow cs n (claim_walked n c s)) g) shown.0)
      (all_moved K V st h k t L cs n (claim_walked n c s) g shown.1)

  some_moved : (K : List Kind) (V : List ℕ) (st : Store) (h k : Heap) (t : Terms) → Looks K V st h k t
      → (cs : Claims) (n : Bool) (s : Terms) → Grows (claims_walked n cs s) t → AllShown n cs V st h
      → Moves n (SomeHolds cs st h) (SomeHolds cs st k)
  some_moved K V st h k t L no_claims n s g shown = all_same n ⊥
  some_moved K V st h k t L (claim_first c cs) n s g shown =
      one_of n (Holds c st h) (Holds c st k) (SomeHolds cs st h) (SomeHolds cs st k)
      (moved K V st h k t L c n s (onto (claims_grow cs n (claim_walked n c s)) g) shown.0)
      (some_moved K V st h k t L cs n (claim_walked n c s) g shown.1)
