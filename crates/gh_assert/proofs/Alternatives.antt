-- What holds of heaps that meet one of some alternatives.
use Rattle.std.specs.Prelude.{◌≡◌, List, [], ◌∷◌, None, All}
use Rattle.std.specs.FinMap.{get}
use Rattle.std.proofs.lemmas.List.Elements.{All-contains}
use Rattle.std.proofs.Common.{sym, subst, inl, inr}
use Rattle.gh_ast.specs.Plain.{Assertion}
use Rattle.gh_ast.specs.Names.{AssertionIn}
use Rattle.gh_ast.specs.Programs.{Name}
use Rattle.gh_ast.proofs.Lists.{member_first, member_later, member_cases, no_member}
use Rattle.gh_assert.specs.Heaps.{Heap, IsProper}
use Rattle.gh_assert.specs.Meaning.{Store, Meaning, MeetsOneOf}
use Rattle.gh_assert.proofs.Agree.{Agree, same_meaning}
use Rattle.gh_assert.proofs.Decide.{Decided, meaning_decided}
use Rattle.gh_assert.proofs.Proper.{met_proper}

-- the alternatives depend on the names in them alone
pub one_met_agrees : (fs : List Assertion) (xs : List Name) (s t : Store) (h : Heap) → Agree xs s t
    → All (λ f. AssertionIn f xs) fs → MeetsOneOf fs s h → MeetsOneOf fs t h
one_met_agrees fs xs s t h agree within (f, there, met) =
    (f, there, same_meaning f xs s t h agree (All-contains (λ g. AssertionIn g xs) fs f within there) met)

pub one_met_proper : (fs : List Assertion) (s : Store) (h : Heap) → MeetsOneOf fs s h → IsProper h
one_met_proper fs s h (f, there, met) = met_proper f s h met

-- the first alternative is met, or one of the others
pub first_met : (f : Assertion) (fs : List Assertion) (s : Store) (h : Heap) → Meaning f s h → MeetsOneOf (f ∷ fs) s h
first_met f fs s h met = (f, member_first f fs, met)

pub other_met : (f : Assertion) (fs : List Assertion) (s : Store) (h : Heap) → MeetsOneOf fs s h
    → MeetsOneOf (f ∷ fs) s h
other_met f fs s h (g, there, met) = (g, member_later f g fs there, met)

none_met : (f : Assertion) (fs : List Assertion) (s : Store) (h : Heap) → (Meaning f s h → ⊥) → (MeetsOneOf fs s h → ⊥)
    → MeetsOneOf (f ∷ fs) s h → ⊥
none_met f fs s h first others (g, there, met) = elim (member_cases f fs g there) [
  | inl same ↦ first (subst (λ k. Meaning k s h) (sym same) met)
  | inr later ↦ others (g, later, met)
]

pub one_met_decided : (fs : List Assertion) (s : Store) (h : Heap) → get h 0 ≡ None → Decided (MeetsOneOf fs s h)
one_met_decided [] s h proper = inr (λ (f, there, met). no_member f there)
one_met_decided (f ∷ fs) s h proper = elim (meaning_decided f s h proper) [
  | inl met ↦ inl (first_met f fs s h met)
  | inr first ↦ elim (one_met_decided fs s h proper) [
    | inl met ↦ inl (other_met f fs s h met)
    | inr others ↦ inr (none_met f fs s h first others)
  ]
]
