-- Conjuncts that take their parts in turn, and ways that break.
use Rattle.std.specs.Prelude.{◌≡◌, ◌≢◌, ℕ, zero, suc, ◌+◌, ◌<◌, ◌≤◌, List, length, drop, Some, None}
use Rattle.std.specs.FinMap.{get, remove}
use Rattle.std.proofs.Common.{refl, sym, ◌∙◌, ap, subst, inl, inr, get_or}
use Rattle.std.proofs.lemmas.List.{drop_all}
use Rattle.gh_ast.specs.declared.Assertion.{Assertion as CodeAssertion}
use Rattle.gh_ast.specs.Plain.{Assertion, Assertions, assertion_first, assertion_of, assertions_view}
use Rattle.gh_assert.specs.Heaps.{Heap}
use Rattle.gh_assert.specs.Meaning.{Store, HasPart}
use Rattle.gh_assert.specs.Footprints.{IsFootprint}
use Rattle.gh_grass.proofs.ClaimLemmas.{formulas_from}
use Rattle.gh_trace.specs.Left.{left}
use Rattle.gh_trace.proofs.Lefts.{left_is_rest}
use Rattle.gh_lens.specs.Takings.{IsBlockedAt, LeavesOver, BreaksAfter, IsBrokenAt}

-- what comes of the later conjuncts on what is left comes of all of them
pub record GoesOn (fs : Assertions) (s : Store) (h : Heap) (later : Assertions) (rest : Heap) : Type 0 where
  pub blocks : (g : Assertion) (r : Heap) → IsBlockedAt later s rest g r → IsBlockedAt fs s h g r
  pub leaves : (r : Heap) → LeavesOver later s rest r → LeavesOver fs s h r

pub taking_begins : (xs : List CodeAssertion) (s : Store) (h rest : Heap) → rest ≡ h
    → GoesOn (assertions_view xs) s h (assertions_view (drop 0 xs)) rest
taking_begins xs s h rest e =
    subst (GoesOn (assertions_view xs) s h (assertions_view (drop 0 xs))) (sym e)
    (record { blocks = λ g r st. st; leaves = λ r l. l })

turn : (fs later : Assertions) (f : Assertion) (s : Store) (h rest rest' : Heap) (places : List ℕ)
    → IsFootprint f s rest places → rest' ≡ left rest places
    → GoesOn fs s h (assertion_first f later) rest → GoesOn fs s h later rest'
turn fs later f s h rest rest' places a e so =
    let is : rest' ≡ a.rest = e ∙ ap (left rest) a.places_are ∙ left_is_rest rest a.part a.rest a.splits in
    record {
      blocks =
          λ g r st. so.blocks g r (inr
          (a.part, a.rest, a.splits, a.meets, subst (λ z. IsBlockedAt later s z g r) is st));
      leaves = λ r l. so.leaves r (a.part, a.rest, a.splits, a.meets, subst (λ z. LeavesOver later s z r) is l);
    }

pub taking_goes : (xs : List CodeAssertion) (s : Store) (h rest rest' : Heap) (i : ℕ) (x : CodeAssertion)
    (places : List ℕ) → i < length xs → x ≡ get_or xs i x
    → IsFootprint (assertion_of x) s rest places → rest' ≡ left rest places
    → GoesOn (assertions_view xs) s h (assertions_view (drop i xs)) rest
    → GoesOn (assertions_view xs) s h (assertions_view (drop (i + 1) xs)) rest'
taking_goes xs s h rest rest' i x places within is a e so =
    turn (assertions_view xs) (assertions_view (drop (i + 1) xs)) (assertion_of x) s h rest rest' places a e
    (subst (λ fs. GoesOn (assertions_view xs) s h fs rest) (formulas_from xs i x within is) so)

pub taking_blocked : (xs : List CodeAssertion) (s : Store) (h rest : Heap) (i : ℕ) (x : CodeAssertion) → i < length xs
    → x ≡ get_or xs i x → (HasPart (assertion_of x) s rest → ⊥)
    → GoesOn (assertions_view xs) s h (assertions_view (drop i xs)) rest
    → IsBlockedAt (assertions_view xs) s h (assertion_of x) rest
taking_blocked xs s h rest i x within is none so =
    let here = subst (λ fs. GoesOn (assertions_view xs) s h fs rest) (formulas_from xs i x within is) so in
    here.blocks (assertion_of x) rest (inl (refl, refl, none))

pub taking_ends : (xs : List CodeAssertion) (s : Store) (h rest : Heap) (i : ℕ) → length xs ≤ i
    → GoesOn (assertions_view xs) s h (assertions_view (drop i xs)) rest → LeavesOver (assertions_view xs) s h rest
taking_ends xs s h rest i past so =
    let here = subst (λ ys. GoesOn (assertions_view xs) s h (assertions_view ys) rest) (drop_all i xs past) so in
    here.leaves rest refl

-- a way breaks where what is left of it does
pub record Continues (x y : ℕ) (h : Heap) (at : ℕ) (rest : Heap) : Type 0 where
  pub on : (v : ℕ) → IsBrokenAt at y rest v → IsBrokenAt x y h v
  pub back : (v : ℕ) → IsBrokenAt x y h v → IsBrokenAt at y rest v

pub way_begins : (x y : ℕ) (h rest : Heap) → rest ≡ h → Continues x y h x rest
way_begins x y h rest e = subst (Continues x y h x) (sym e) (record { on = λ v st. st; back = λ v st. st })

pub way_goes : (x y : ℕ) (h rest rest' : Heap) (at z : ℕ) → at ≢ y → Some z ≡ get rest at → rest' ≡ remove rest at
    → Continues x y h at rest → Continues x y h z rest'
way_goes x y h rest rest' at z differ there e so =
    subst (Continues x y h z) (sym e)
    (record { on = λ v st. so.on v (suc st.0, (differ, z, sym there, st.1)); back = λ v st. behind v (so.back v st) })
  where
    behind : (v : ℕ) → IsBrokenAt at y rest v → IsBrokenAt z y (remove rest at) v
    behind v (zero, (d, none, is)) = absurd cc
    behind v (suc n, (d, w, some, st)) = let same : w ≡ z = cc in
        (n, subst (λ u. BreaksAfter n u y (remove rest at) v) same st)

pub way_breaks : (x y : ℕ) (h rest : Heap) (at : ℕ) → at ≢ y → None ≡ get rest at → Continues x y h at rest
    → IsBrokenAt x y h at
way_breaks x y h rest at differ none so = so.on at (0, (differ, sym none, refl))

pub way_ends : (x y : ℕ) (h rest : Heap) (at : ℕ) → at ≡ y → Continues x y h at rest → (v : ℕ) → IsBrokenAt x y h v → ⊥
way_ends x y h rest at is so v st = never v (so.back v st)
  where
    never : (v : ℕ) → IsBrokenAt at y rest v → ⊥
    never v (zero, (d, none, e)) = d is
    never v (suc n, (d, w, some, st)) = d is
