-- Numbers in the order in which they first appear.
use Rattle.std.specs.Prelude.{◌≡◌, ℕ, suc, List, [], ◌∷◌, ◌++◌, ◌==◌, true, cond, Contains, Some, slice_get}
use Rattle.std.specs.List.{list_any}
use Rattle.std.proofs.Common.{refl, sym, ◌∙◌, ap, subst, inl, inr, append_assoc, flat_map}
use Rattle.std.proofs.lemmas.Bool.{cases_Bool, false≢true}
use Rattle.std.proofs.lemmas.Bool.Decides.{Decides-eqb}
use Rattle.std.proofs.lemmas.List.Elements.{Contains-append_left, Contains-append_right}
use Rattle.gh_base.proofs.ListLemmas.{either_holds}
use Rattle.gh_ast.proofs.Lists.{member_first, member_later, member_cases, no_member}
use Rattle.gh_session.specs.Numbering.{added, listed, place}

test : (n m : ℕ) → (n == m) ≡ true → n ≡ m
test n m e = (Decides-eqb n m).0 e

tested : (n m : ℕ) → n ≡ m → (n == m) ≡ true
tested n m e = (Decides-eqb n m).1 e

has : (n : ℕ) (ns : List ℕ) → list_any (λ m. n == m) ns ≡ true → Contains ns n
has n [] e = absurd (false≢true e)
has n (m ∷ ms) e = elim (either_holds (n == m) (list_any (λ m. n == m) ms) e) [
  | inl here ↦ subst (λ k. Contains (k ∷ ms) n) (test n m here) (member_first n ms)
  | inr more ↦ member_later m n ms (has n ms more)
]

added_has : (ns : List ℕ) (n : ℕ) → Contains (added ns n) n
added_has ns n = elim (cases_Bool (list_any (λ m. n == m) ns)) [
  | inl held ↦ subst (λ b. Contains (cond b ns (ns ++ n ∷ [])) n) (sym held) (has n ns held)
  | inr off ↦ subst (λ b. Contains (cond b ns (ns ++ n ∷ [])) n) (sym off)
      (Contains-append_right ns (n ∷ []) n (member_first n []))
]

added_keeps : (ns : List ℕ) (n m : ℕ) → Contains ns m → Contains (added ns n) m
added_keeps ns n m there = elim (cases_Bool (list_any (λ k. n == k) ns)) [
  | inl held ↦ subst (λ b. Contains (cond b ns (ns ++ n ∷ [])) m) (sym held) there
  | inr off ↦ subst (λ b. Contains (cond b ns (ns ++ n ∷ [])) m) (sym off) (Contains-append_left ns (n ∷ []) m there)
]

pub listed_keeps : (ns ms : List ℕ) (n : ℕ) → Contains ns n → Contains (listed ns ms) n
listed_keeps ns [] n there = there
listed_keeps ns (m ∷ ms) n there = listed_keeps (added ns m) ms n (added_keeps ns m n there)

pub listed_has : (ns ms : List ℕ) (n : ℕ) → Contains ms n → Contains (listed ns ms) n
listed_has ns [] n there = absurd (no_member n there)
listed_has ns (m ∷ ms) n there = elim (member_cases m ms n there) [
  | inl same ↦ subst (λ k. Contains (listed (added ns m) ms) k) same (listed_keeps (added ns m) ms m (added_has ns m))
  | inr more ↦ listed_has (added ns m) ms n more
]

-- the first stays the first
front_added : (k : ℕ) (ns : List ℕ) (n : ℕ) → slice_get ns 0 ≡ Some k → slice_get (added ns n) 0 ≡ Some k
front_added k [] n is = absurd cc
front_added k (m ∷ ms) n is = elim (cases_Bool (list_any (λ j. n == j) (m ∷ ms))) [
  | inl held ↦ subst (λ b. slice_get (cond b (m ∷ ms) (m ∷ ms ++ n ∷ [])) 0 ≡ Some k) (sym held) is
  | inr off ↦ subst (λ b. slice_get (cond b (m ∷ ms) (m ∷ ms ++ n ∷ [])) 0 ≡ Some k) (sym off) is
]

pub front : (k : ℕ) (ns ms : List ℕ) → slice_get ns 0 ≡ Some k → slice_get (listed ns ms) 0 ≡ Some k
front k ns [] is = is
front k ns (m ∷ ms) is = front k (added ns m) ms (front_added k ns m is)

-- a listed number stands at its place
pub at_place : (n : ℕ) (ns : List ℕ) → Contains ns n → slice_get ns (place n ns) ≡ Some n
at_place n [] there = absurd (no_member n there)
at_place n (m ∷ ms) there = elim (cases_Bool (n == m)) [
  | inl held ↦ subst (λ b. slice_get (m ∷ ms) (cond b 0 (suc (place n ms))) ≡ Some n) (sym held)
      (ap Some (sym (test n m held)))
  | inr off ↦ subst (λ b. slice_get (m ∷ ms) (cond b 0 (suc (place n ms))) ≡ Some n) (sym off)
      (elim (member_cases m ms n there) [
        | inl same ↦ absurd (false≢true (sym off ∙ tested n m (sym same)))
        | inr more ↦ at_place n ms more
      ])
]

-- what is added in two parts is added at once
pub listed_append : (ns ms ks : List ℕ) → listed (listed ns ms) ks ≡ listed ns (ms ++ ks)
listed_append ns [] ks = refl
listed_append ns (m ∷ ms) ks = listed_append (added ns m) ms ks

pub turn : {X : Type 0} (f : X → List ℕ) (xs : List X) (x : X) (rest : List X) (last ns ms whole : List ℕ)
    → xs ≡ x ∷ rest → ms ≡ listed ns (f x) → listed ns (flat_map f xs ++ last) ≡ whole
    → listed ms (flat_map f rest ++ last) ≡ whole
turn f xs x rest last ns ms whole is added' before =
    ap (λ ks. listed ks (flat_map f rest ++ last)) added' ∙ listed_append ns (f x) (flat_map f rest ++ last)
    ∙ ap (listed ns) (sym (append_assoc (f x) (flat_map f rest) last))
    ∙ ap (λ ys. listed ns (flat_map f ys ++ last)) (sym is) ∙ before
