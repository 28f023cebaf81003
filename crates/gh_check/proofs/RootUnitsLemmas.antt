-- What stands from line to line, and what hints show beside it.
use Rattle.std.proofs.Common.{◌≡◌, ◌↔◌, ◌∙◌, ◌&&◌, inl, inr, ◌<◌, ℕ, zero, suc, List, [], ◌∷◌, ◌++◌, length, map, take}
use Rattle.std.proofs.Common.{drop, get_or, Bool, true, false, not, Option, Some, None, All, IsTrue, refl, sym, ap}
use Rattle.std.proofs.Common.{subst, arith, append_assoc}
use Rattle.std.specs.Prelude.{slice_index_or, unwrap_or, is_some, Contains}
use Rattle.std.proofs.lemmas.List.{map-append, take-append-drop}
use Rattle.std.proofs.lemmas.List.Elements.{All-head, All-tail, All-cons, Contains-push_cases, Contains-append_left}
use Rattle.std.proofs.lemmas.List.Elements.{Contains-append_right, Contains-append_cases, Contains-get_or, All-contains}
use Rattle.gh_base.specs.declared.atom.Lit.{Lit}
use Rattle.gh_base.specs.Atoms.{opposite}
use Rattle.gh_base.specs.Propagation.{Propagated, given, forced, IsRefutedByUnits, FollowsByUnits}
use Rattle.gh_base.specs.Hints.{HasAllButOne, IsRefutedByHints, refuted, joined}
use Rattle.gh_check.specs.Kept.{Kept, clause_at, named, present, stands_in}
use Rattle.gh_check.specs.Truths.{IsConsistent, IsMetBy}
use Rattle.gh_check.specs.RootUnits.{AreGivenBy, AreRootUnits, AreRootUnitsOf, IsConfirmedBy}
use Rattle.gh_check.specs.declared.root_units.RootUnits.{RootUnits}
use Rattle.gh_base.specs.declared.sizes.Sizes.{Sizes}
use Rattle.gh_check.proofs.AssumingLemmas.{in_opposites}
use Rattle.gh_check.proofs.TruthLemmas.{twice, first_or_other}
use Rattle.gh_check.proofs.UnitsLemmas.{present_append}

-- hints out of the clauses
refuted_by : (clauses hints : List (List Lit)) (assumed set : List Lit) → All (Contains clauses) hints
    → IsRefutedByHints hints set
    → ((l : Lit) → Contains set l → Propagated clauses assumed l) → IsRefutedByUnits clauses assumed
refuted_by clauses _ assumed _ among (refuted c hints set all) has =
    inr (c, All-head (Contains clauses) c hints among, λ k d less. has (opposite (get_or c k d)) (all k d less))
refuted_by clauses _ assumed _ among (joined c hints set l one more) has =
    let forced_one : Propagated clauses assumed l =
    forced c l (All-head (Contains clauses) c hints among) one.there
    (λ m in_c ne. has (opposite m) (one.others m in_c ne)) in
    refuted_by clauses hints assumed (l ∷ set) (All-tail (Contains clauses) c hints among) more (λ m there.
    elim (first_or_other l m set there) as (λ _. Propagated clauses assumed m) [
      | inl same ↦ subst (Propagated clauses assumed) same forced_one
      | inr before ↦ has m before
    ])

-- what stands, and the opposites of a line's literals
both_given : (clauses : List (List Lit)) (fixed lits : List Lit) → AreGivenBy clauses fixed → (l : Lit)
    → Contains (fixed ++ map opposite lits) l → Propagated clauses (map opposite lits) l
both_given clauses fixed lits h l w =
    elim (Contains-append_cases fixed (map opposite lits) l w) as (λ _. Propagated clauses (map opposite lits) l) [
      | inl q ↦ h (map opposite lits) l q
      | inr q ↦ given l q
    ]

opposite_there : (lits : List Lit) (l : Lit) → Contains lits l → Contains (map opposite lits) (opposite l)
opposite_there lits l w =
    subst (λ (x : Lit). Contains (map opposite lits) (opposite x)) w.2 (in_opposites lits w.0 l w.1)

met_shows : (clauses : List (List Lit)) (fixed lits : List Lit) → IsMetBy fixed lits → AreGivenBy clauses fixed
    → FollowsByUnits clauses lits
met_shows clauses fixed lits w h =
    inl (w.0, both_given clauses fixed lits h w.0 w.2, given (opposite w.0) (opposite_there lits w.0 w.1))

hints_show : (clauses hints : List (List Lit)) (fixed above lits : List Lit) → All (Contains clauses) hints
    → above ≡ map opposite lits → IsRefutedByHints hints (fixed ++ above) → AreGivenBy clauses fixed
    → FollowsByUnits clauses lits
hints_show clauses hints fixed above lits among is r h =
    refuted_by clauses hints (map opposite lits) (fixed ++ above) among r
    (λ l w. both_given clauses fixed lits h l (subst (λ (xs : List Lit). Contains (fixed ++ xs) l) is w))

-- positions that stand have clauses that are there
and_first : (a b : Bool) → (a && not b) ≡ true → a ≡ true
and_first true b e = refl
and_first false b e = absurd (cc)

in_first : {X : Type 0} (x : X) (xs : List X) → Contains (x ∷ xs) x
in_first x xs = (0, omega arith, refl)

in_rest : {X : Type 0} (x y : X) (xs : List X) → Contains xs y → Contains (x ∷ xs) y
in_rest x y xs w = (suc w.0, omega (arith, w.1), w.2)

present_at : (os : List (Option (List Lit))) (n : ℕ) → is_some (slice_index_or os n None) ≡ true
    → Contains (present os) (unwrap_or (slice_index_or os n None) [])
present_at [] n e = absurd (cc)
present_at (Some c ∷ os) zero e = in_first c (present os)
present_at (None ∷ os) zero e = absurd (cc)
present_at (Some c ∷ os) (suc n) e =
    in_rest c (unwrap_or (slice_index_or os n None) []) (present os) (present_at os n e)
present_at (None ∷ os) (suc n) e = present_at os n e

pub standing_in : (k : Kept) (n : ℕ) → IsTrue (stands_in k n) → Contains (present k.clauses) (clause_at k n)
standing_in k n t = present_at k.clauses n (and_first _ _ t)

none_named : (cs : List (List Lit)) → All (Contains cs) []
none_named cs i d lt = absurd (omega arith)

all_in : (k : Kept) (ns : List ℕ) → All (λ n. IsTrue (stands_in k n)) ns
    → All (Contains (present k.clauses)) (named k ns)
all_in k [] a = none_named (present k.clauses)
all_in k (n ∷ ns) a =
    All-cons (Contains (present k.clauses)) (clause_at k n) (named k ns)
    (standing_in k n (All-head (λ m. IsTrue (stands_in k m)) n ns a))
    (all_in k ns (All-tail (λ m. IsTrue (stands_in k m)) n ns a))

pub confirmed_follows : (k : Kept) (positions : List ℕ) (fixed lits : List Lit) → IsConfirmedBy k positions fixed lits
    → AreGivenBy (present k.clauses) fixed → FollowsByUnits (present k.clauses) lits
confirmed_follows k positions fixed lits h known = elim h.refuted as (λ _. FollowsByUnits (present k.clauses) lits) [
  | inl met ↦ met_shows (present k.clauses) fixed lits met known
  | inr r ↦ hints_show (present k.clauses) (named k positions) fixed (map opposite lits) lits
      (all_in k positions h.stand) refl r known
]

-- a literal that a clause forces where the others are given
pub given_more : (clauses : List (List Lit)) (c : List Lit) (fixed : List Lit) (l : Lit) → Contains clauses c
    → HasAllButOne fixed c l → AreGivenBy clauses fixed → AreGivenBy clauses (fixed ++ l ∷ [])
given_more clauses c fixed l among one h assumed m w =
    elim (Contains-push_cases fixed l m w) as (λ _. Propagated clauses assumed m) [
      | inl q ↦ h assumed m q
      | inr q ↦ subst (Propagated clauses assumed) q
          (forced c l among one.there (λ x in_c ne. h assumed (opposite x) (one.others x in_c ne)))
    ]

-- making literals false beside what stands
pub met_at : (fixed : List Lit) (lits : List Lit) (i : ℕ) (d l m : Lit) (set : List Lit) → i < length lits
    → l ≡ get_or lits i d → set ≡ map opposite (take i lits) → m ≡ opposite l → Contains (fixed ++ set) (opposite m)
    → IsMetBy fixed lits
met_at fixed lits i d l m set lt at is e w =
    let whole : map opposite lits ≡ map opposite (take i lits) ++ map opposite (drop i lits) =
    ap (map opposite) (sym (take-append-drop i lits)) ∙ map-append opposite (take i lits) (drop i lits) in
    let double : opposite m ≡ l = ap opposite e ∙ twice l in
    let early : Contains (fixed ++ map opposite (take i lits)) l =
    subst (λ (xs : List Lit). Contains (fixed ++ xs) l) is (subst (Contains (fixed ++ set)) double w) in
    let longer : Contains ((fixed ++ map opposite (take i lits)) ++ map opposite (drop i lits)) l =
    Contains-append_left (fixed ++ map opposite (take i lits)) (map opposite (drop i lits)) l early in
    let there : Contains (fixed ++ map opposite lits) l =
    subst (λ (xs : List Lit). Contains xs l)
    (append_assoc fixed (map opposite (take i lits)) (map opposite (drop i lits))
    ∙ ap (λ (xs : List Lit). fixed ++ xs) (sym whole)) longer in
    (l, subst (Contains lits) (sym at) (Contains-get_or lits i d lt), there)

pub none_consistent : IsConsistent []
none_consistent l w v = absurd (omega (arith, w.1))

pub not_first : (fixed above : List Lit) (l m : Lit) (b : Bool) → m ≡ opposite l
    → IsTrue b ↔ Contains (fixed ++ above) (opposite m) → (IsTrue b → ⊥) → Contains fixed l → ⊥
not_first fixed above l m b e exact fails w =
    fails (exact.1 (Contains-append_left fixed above (opposite m)
    (subst (Contains fixed) (sym (ap opposite e ∙ twice l)) w)))

pub never_met : (fixed above lits : List Lit) → above ≡ map opposite lits → IsConsistent above
    → All (λ m. Contains fixed m → ⊥) lits → IsMetBy fixed lits → ⊥
never_met fixed above lits is consistent apart met =
    elim (Contains-append_cases fixed (map opposite lits) met.0 met.2) as (λ _. ⊥) [
      | inl q ↦ All-contains (λ m. Contains fixed m → ⊥) lits met.0 apart met.1 q
      | inr q ↦
          let there : Contains above met.0 = subst (λ (xs : List Lit). Contains xs met.0) (sym is) q in
          consistent met.0 there (subst (λ (xs : List Lit). Contains xs (opposite met.0)) (sym is)
          (opposite_there lits met.0 met.1))
    ]

-- nothing is true above what stands
pub nothing_given : (clauses : List (List Lit)) → AreGivenBy clauses []
nothing_given clauses assumed l w = absurd (omega (arith, w.1))

-- with more clauses the same is given
more_propagated : (one other : List (List Lit)) (assumed : List Lit) (l : Lit)
    → ((c : List Lit) → Contains one c → Contains other c) → Propagated one assumed l → Propagated other assumed l
more_propagated one other assumed _ more (given l w) = given l w
more_propagated one other assumed _ more (forced c l among there rest) =
    forced c l (more c among) there (λ m in_c ne. more_propagated one other assumed (opposite m) more (rest m in_c ne))

pub given_push : (entries : List (Option (List Lit))) (e : Option (List Lit)) (fixed : List Lit)
    → AreGivenBy (present entries) fixed → AreGivenBy (present (entries ++ e ∷ [])) fixed
given_push entries e fixed h assumed l w =
    more_propagated (present entries) (present (entries ++ e ∷ [])) assumed l
    (λ c among. subst (λ (cs : List (List Lit)). Contains cs c) (sym (present_append entries (e ∷ [])))
    (Contains-append_left (present entries) (present (e ∷ [])) c among))
    (h assumed l w)

pub root_units_push : (sizes : Sizes) (entries : List (Option (List Lit))) (e : Option (List Lit)) (s : RootUnits)
    → AreRootUnits sizes entries s → AreRootUnits sizes (entries ++ e ∷ []) s
root_units_push sizes entries e s h =
    record { fixed = h.fixed; above = h.above; given = given_push entries e s.fixed.lits h.given }

pub may_push : (sizes : Sizes) (entries : List (Option (List Lit))) (e : Option (List Lit))
    (root_units : Option RootUnits) → AreRootUnitsOf sizes entries root_units
    → AreRootUnitsOf sizes (entries ++ e ∷ []) root_units
may_push sizes entries e None h = tt
may_push sizes entries e (Some s) h = root_units_push sizes entries e s h

-- a set that was lengthened last
pub beside : (fixed above new : List Lit) (l : Lit) → new ≡ above ++ l ∷ [] → fixed ++ new ≡ (fixed ++ above) ++ l ∷ []
beside fixed above new l e = ap (λ (xs : List Lit). fixed ++ xs) e ∙ sym (append_assoc fixed above (l ∷ []))

-- a literal that isn't false by both isn't false by the second
pub not_above : (fixed above clause : List Lit) (l : Lit) → HasAllButOne (fixed ++ above) clause l
    → Contains above (opposite l) → ⊥
not_above fixed above clause l one w = one.missing (Contains-append_right fixed above (opposite l) w)

-- what isn't in both isn't in the second
pub not_second : (fixed above : List Lit) (l : Lit) (b : Bool) → IsTrue b ↔ Contains (fixed ++ above) l → (IsTrue b → ⊥)
    → Contains above l → ⊥
not_second fixed above l b exact fails w = fails (exact.1 (Contains-append_right fixed above l w))
