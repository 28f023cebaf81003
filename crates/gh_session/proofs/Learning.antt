-- What a session learns of one condition.
use Rattle.std.specs.Prelude.{◌≡◌, ◌⊎◌, ℕ, zero, suc, List, [], ◌∷◌, ◌++◌, length, slice_get, Option, Some, None, Vec}
use Rattle.std.specs.Prelude.{IfSome, IfNone, MatchOption, Contains}
use Rattle.std.specs.Option.{option_map}
use Rattle.std.specs.Global.{Global}
use Rattle.std.specs.HashMap as hash
use Rattle.std.proofs.Common.{refl, sym, ◌∙◌, ap, subst, inl, inr}
use Rattle.std.proofs.lemmas.List.{map-append}
use Rattle.std.proofs.lemmas.List.Elements.{Contains-append_cases}
use Rattle.gh_ast.specs.Plain.{Program}
use Rattle.gh_ast.proofs.Lists.{member_first, member_later, member_cases, no_member, only_member}
use Rattle.gh_path.specs.declared.condition.Condition as kept_condition
use Rattle.gh_path.specs.Kept.{condition_of}
use Rattle.gh_trace.specs.Kept.{drawn_of, HasNoCounterexample}
use Rattle.gh_trace.specs.Replay.{IsDrawnCounterexample}
use Rattle.gh_trace.specs.declared.state.Trace.{Trace}
use Rattle.gh_session.specs.Essences.{Essence}
use Rattle.gh_session.specs.Meaning.{RefutesEssence, IsValid}
use Rattle.gh_session.specs.Laws.{HasEssence}
use Rattle.gh_session.specs.Fingerprint.{fingerprint}
use Rattle.gh_session.specs.Views.{essence_view}
use Rattle.gh_session.specs.Known.{known, essences, IsRight}
use Rattle.gh_session.specs.Places.{known_of, knowledge, filed, IsFiled}
use Rattle.gh_session.specs.declared.kept.Kept.{Kept}
use Rattle.gh_session.proofs.Alike.{essences_decide}

-- the last place of a list that grew
at_last : {A : Type 0} (xs : List A) (x : A) (n : ℕ) (y : A) → slice_get (xs ++ x ∷ []) n ≡ Some y
    → (slice_get xs n ≡ Some y) ⊎ ((n ≡ length xs) × (y ≡ x))
at_last [] x zero y e = inr (refl, cc)
at_last [] x (suc n) y e = absurd cc
at_last (w ∷ xs) x zero y e = inl e
at_last (w ∷ xs) x (suc n) y e = elim (at_last xs x n y e) [
  | inl earlier ↦ inl earlier
  | inr last ↦ inr (ap suc last.0, last.1)
]

pub filed_more : {S : Type 0} (kept : List Kept) (k : Kept) (new : List Kept) (t u : hash.HashMap ℕ (Vec ℕ Global) S)
    → IsFiled kept t → new ≡ kept ++ k ∷ [] →
    ((q n : ℕ) → Contains (filed t q) n → Contains (filed u q) n)
    → Contains (filed u (fingerprint (essence_view k.essence))) (length kept) → IsRight (known_of k) → IsFiled new u
filed_more kept k new t u before pushed stays here right = record {
  places = λ n j at. elim (at_last kept k n j (subst (λ (ks : List Kept). slice_get ks n ≡ Some j) pushed at)) [
    | inl earlier ↦ stays (fingerprint (essence_view j.essence)) n (before.places n j earlier)
    | inr last ↦
        subst (λ m. Contains (filed u (fingerprint (essence_view j.essence))) m) (sym last.0)
        (subst (λ (i : Kept). Contains (filed u (fingerprint (essence_view i.essence))) (length kept)) (sym last.1)
        here)
  ];
  right = λ i there. elim (Contains-append_cases (knowledge kept) (known_of k ∷ []) i
      (subst (λ xs. Contains xs i) (ap knowledge pushed ∙ map-append known_of kept (k ∷ [])) there)) [
        | inl earlier ↦ before.right i earlier
        | inr last ↦ subst IsRight (sym (only_member (known_of k) i last)) right
      ];
}

found_at : (ks : List Kept) (E : Essence) → Contains (essences (knowledge ks)) E
    → (n : ℕ) × (k : Kept) × (slice_get ks n ≡ Some k) × (essence_view k.essence ≡ E)
found_at [] E there = absurd (no_member E there)
found_at (k ∷ ks) E there = elim (member_cases (essence_view k.essence) (essences (knowledge ks)) E there) [
  | inl is ↦ (0, k, refl, is)
  | inr more ↦ let (n, j, at, is) = found_at ks E more in (suc n, j, at, is)
]

pub none_then : {A : Type 0} {P Q : Type 0} (o : Option A) → IfNone o P → (P → Q) → IfNone o Q
none_then None p f = f p
none_then (Some x) p f = record {}

-- what isn't filed under its fingerprint isn't known
pub absent : {S : Type 0} (ks : List Kept) (t : hash.HashMap ℕ (Vec ℕ Global) S) (E : Essence) → IsFiled ks t →
    ((n : ℕ) (k : Kept) → Contains (filed t (fingerprint E)) n → slice_get ks n ≡ Some k → essence_view k.essence ≡ E
    → ⊥) → Contains (essences (knowledge ks)) E → ⊥
absent ks t E before none there =
    let (n, k, at, is) = found_at ks E there in
    none n k (subst (λ F. Contains (filed t (fingerprint F)) n) is (before.places n k at)) at is

pub is_among : (ks : List Kept) (k : Kept) → Contains ks k → Contains (knowledge ks) (known_of k)
is_among [] k there = absurd (no_member k there)
is_among (j ∷ ks) k there = elim (member_cases j ks k there) [
  | inl is ↦ subst (λ (i : Kept). Contains (knowledge (j ∷ ks)) (known_of i)) is
      (member_first (known_of j) (knowledge ks))
  | inr more ↦ member_later (known_of j) (known_of k) (knowledge ks) (is_among ks k more)
]

pub has_essence : (ks : List Kept) (k : Kept) → Contains ks k
    → Contains (essences (knowledge ks)) (essence_view k.essence)
has_essence [] k there = absurd (no_member k there)
has_essence (j ∷ ks) k there = elim (member_cases j ks k there) [
  | inl is ↦ subst (λ (i : Kept). Contains (essences (knowledge (j ∷ ks))) (essence_view i.essence)) is
      (member_first (essence_view j.essence) (essences (knowledge ks)))
  | inr more ↦ member_later (essence_view j.essence) (essence_view k.essence) (essences (knowledge ks))
      (has_essence ks k more)
]

-- a right answer to an essence answers its conditions
pub record Answers (P : Program) (r : kept_condition.Condition) (answer : Option Trace) : Type 0 where
  pub none : IfNone answer (HasNoCounterexample P r)
  pub some : IfSome answer (λ t. IsDrawnCounterexample P (condition_of r) (drawn_of t))

answered_by : (P : Program) (r : kept_condition.Condition) (E : Essence) (a : Option Trace)
    → HasEssence P (condition_of r) E → IsRight (known E a) → Answers P r a
answered_by P r E None has right =
    record { none = (essences_decide P (condition_of r) E has).valid.1 right; some = record {} }
answered_by P r E (Some t) has right =
    record { none = record {}; some = ((essences_decide P (condition_of r) E has).drawn (drawn_of t)).1 right }

pub answered : (P : Program) (r : kept_condition.Condition) (E F : Essence) (a b : Option Trace)
    → HasEssence P (condition_of r) E → F ≡ E → IsRight (known F b) → option_map drawn_of a ≡ option_map drawn_of b
    → Answers P r a
answered P r E F a b has same right copied =
    let one : IsRight (known E b) = subst (λ G. IsRight (known G b)) same right in
    answered_by P r E a has (subst (λ o. MatchOption o (IsValid E) (RefutesEssence E)) (sym copied) one)

pub right_of : (P : Program) (r : kept_condition.Condition) (E : Essence) (a : Option Trace)
    → HasEssence P (condition_of r) E → IfNone a (HasNoCounterexample P r)
    → IfSome a (λ t. IsDrawnCounterexample P (condition_of r) (drawn_of t)) → IsRight (known E a)
right_of P r E None has none some = (essences_decide P (condition_of r) E has).valid.0 none
right_of P r E (Some t) has none some = ((essences_decide P (condition_of r) E has).drawn (drawn_of t)).0 some
