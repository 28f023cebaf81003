-- Truths in a table and as a set, and what hints show.
use Rattle.std.proofs.Common.{◌≡◌, ◌≢◌, ◌↔◌, ◌∙◌, ◌⊎◌, inl, inr, ◌+◌, ◌<◌, ◌≤◌, ℕ, zero, suc, List, [], ◌∷◌, ◌++◌}
use Rattle.std.proofs.Common.{length, map, take, drop, get_or, Bool, true, false, not, Option, Some, None, All, IsTrue}
use Rattle.std.proofs.Common.{refl, sym, ap, subst, arith, add-one, drop-cons, length-drop, take_all}
use Rattle.std.specs.Prelude.{slice_index_or, unwrap_or, Contains, option_map}
use Rattle.std.proofs.lemmas.List.{map-append, take_more, take-append-drop, drop_all}
use Rattle.std.proofs.lemmas.List.Elements.{All-head, All-tail, All-push, All-contains, Contains-push}
use Rattle.std.proofs.lemmas.List.Elements.{Contains-push_cases, Contains-append_left, Contains-append_right}
use Rattle.std.proofs.lemmas.List.Elements.{Contains-append_cases, Contains-get_or}
use Rattle.std.proofs.lemmas.Bool.{cases_eq}
use Rattle.gh_base.specs.declared.atom.Atom.{Atom}
use Rattle.gh_base.specs.declared.atom.Lit.{Lit}
use Rattle.gh_base.specs.declared.sizes.Sizes.{Sizes}
use Rattle.gh_base.specs.Atoms.{opposite, IsInRange, AreInRange, number_of}
use Rattle.gh_base.specs.Meaning.{under}
use Rattle.gh_base.specs.Assignments.{Partial, value_at, value_of, ChangesAtom}
use Rattle.gh_base.specs.Hints.{HasAllButOne, IsRefutedByHints, refuted, joined, IsShownByHints}
use Rattle.gh_base.proofs.NumberLemmas.{apart}
use Rattle.gh_sat.specs.Theory.{IsRefutedBy}
use Rattle.gh_sat.proofs.TrailLemmas.{same_lit}
use Rattle.gh_check.specs.Kept.{Kept, clause_at, named, AreWithin}
use Rattle.gh_check.specs.Truths.{IsValueIn, IsTable, IsConsistent}
use Rattle.gh_check.proofs.AssumingLemmas.{lit_cases, in_opposites}

not_twice : (b : Bool) → not (not b) ≡ b
not_twice true = refl
not_twice false = refl

pub twice : (l : Lit) → opposite (opposite l) ≡ l
twice l = same_lit (opposite (opposite l)) l refl (not_twice l.positive)

-- an element is the first one, or one of the others
pub first_or_other : (x y : Lit) (xs : List Lit) → Contains (x ∷ xs) y → (x ≡ y) ⊎ Contains xs y
first_or_other x y xs at = by at.0 at.1 at.2
  where
    by : (k : ℕ) → k < length (x ∷ xs) → get_or (x ∷ xs) k y ≡ y → (x ≡ y) ⊎ Contains xs y
    by zero less is = inl is
    by (suc k) less is = inr (k, omega (arith, less), is)

first_there : (x : Lit) (xs : List Lit) → Contains (x ∷ xs) x
first_there x xs = (0, omega arith, refl)

other_there : (x y : Lit) (xs : List Lit) → Contains xs y → Contains (x ∷ xs) y
other_there x y xs w = (suc w.0, omega (arith, w.1), w.2)

-- a loop over all members
pub all_more : {X : Type 0} (P : X → Type 0) (xs : List X) (i : ℕ) (d : X) → i < length xs → All P (take i xs)
    → P (get_or xs i d) → All P (take (i + 1) xs)
all_more P xs i d lt a h = subst (All P) (sym (take_more xs i d lt)) (All-push P (take i xs) (get_or xs i d) a h)

pub all_done : {X : Type 0} (P : X → Type 0) (xs : List X) (n : ℕ) → length xs ≤ n → All P (take n xs) → All P xs
all_done P xs n long a = subst (All P) (take_all n xs long) a

-- tables
pub told_none : (a : Partial) (set : List Lit) (l : Lit) → IsTable a set → IsInRange a.sizes l.atom
    → value_of a l ≡ None → IsTrue false ↔ Contains set (opposite l)
told_none a set l h r e =
    let told : IsValueIn set l None = subst (IsValueIn set l) e (h.tells l r) in
    ((λ t. absurd (cc)), λ w. absurd (told.1 w))

pub told_some : (a : Partial) (set : List Lit) (l : Lit) (truth : Bool) → IsTable a set → IsInRange a.sizes l.atom
    → value_of a l ≡ Some truth → IsTrue (not truth) ↔ Contains set (opposite l)
told_some a set l true h r e =
    let told : IsValueIn set l (Some true) = subst (IsValueIn set l) e (h.tells l r) in
    ((λ t. absurd (cc)), λ w. absurd (h.apart l told w))
told_some a set l false h r e =
    let told : IsValueIn set l (Some false) = subst (IsValueIn set l) e (h.tells l r) in
    ((λ t. told), λ w. refl)

nothing_in : (l : Lit) → Contains [] l → ⊥
nothing_in l w = absurd (omega (arith, w.1))

-- false by one of two sets
pub false_first : (fixed above : List Lit) (l : Lit) (b : Bool) → IsTrue b ↔ Contains fixed l → IsTrue b
    → IsTrue true ↔ Contains (fixed ++ above) l
false_first fixed above l b exact t = ((λ _. Contains-append_left fixed above l (exact.0 t)), λ _. refl)

pub false_second : (fixed above : List Lit) (l : Lit) (a b : Bool) → IsTrue a ↔ Contains fixed l
    → IsTrue b ↔ Contains above l → (IsTrue a → ⊥) → IsTrue b ↔ Contains (fixed ++ above) l
false_second fixed above l a b one other fails = (
  (λ t. Contains-append_right fixed above l (other.0 t)),
  (λ w. elim (Contains-append_cases fixed above l w) as (λ _. IsTrue b) [
    | inl q ↦ absurd (fails (one.1 q))
    | inr q ↦ other.1 q
  ]),
)

pub table_none : (a : Partial) → ((l : Lit) → IsInRange a.sizes l.atom → value_of a l ≡ None) → IsTable a []
table_none a none =
    record {
      range = λ k d lt. absurd (omega arith);
      apart = λ l w v. nothing_in l w;
      tells = λ l r. subst (IsValueIn [] l) (sym (none l r)) (nothing_in l, nothing_in (opposite l));
    }

value_cases : (p q : Bool)
    → (option_map (under p) (Some q) ≡ Some true) × (p ≡ q) ⊎ (option_map (under p) (Some q) ≡ Some false) × (not p ≡ q)
value_cases true true = inl (refl, refl)
value_cases true false = inr (refl, refl)
value_cases false true = inr (refl, refl)
value_cases false false = inl (refl, refl)

old_value : (set : List Lit) (l m : Lit) (v : Option Bool) → m.atom ≢ l.atom → IsValueIn set m v
    → IsValueIn (set ++ l ∷ []) m v
old_value set l m (Some true) ne h = Contains-append_left set (l ∷ []) m h
old_value set l m (Some false) ne h = Contains-append_left set (l ∷ []) (opposite m) h
old_value set l m None ne h = (
  (λ w. elim (Contains-push_cases set l m w) as (λ _. ⊥)
      [ inl q ↦ h.0 q | inr q ↦ ne (sym (ap (λ (x : Lit). x.atom) q)) ]),
  (λ w. elim (Contains-push_cases set l (opposite m) w) as (λ _. ⊥)
      [ inl q ↦ h.1 q | inr q ↦ ne (sym (ap (λ (x : Lit). x.atom) q)) ]),
)

never_both : (l m : Lit) → l ≡ m → l ≡ opposite m → ⊥
never_both l m e f = not_itself m.positive (sym (ap (λ (x : Lit). x.positive) e) ∙ ap (λ (x : Lit). x.positive) f)
  where
    not_itself : (b : Bool) → b ≡ not b → ⊥
    not_itself true e = cc
    not_itself false e = cc

pub apart_add : (set : List Lit) (l : Lit) → IsConsistent set → (Contains set (opposite l) → ⊥)
    → IsConsistent (set ++ l ∷ [])
apart_add set l h none m w v =
    elim (Contains-push_cases set l m w) as (λ _. ⊥) [
      | inl a ↦ elim (Contains-push_cases set l (opposite m) v) as (λ _. ⊥) [
        | inl b ↦ h m a b
        | inr b ↦ none (subst (Contains set) (sym (ap opposite b ∙ twice m)) a)
      ]
      | inr a ↦ elim (Contains-push_cases set l (opposite m) v) as (λ _. ⊥) [
        | inl b ↦ none (subst (λ (x : Lit). Contains set (opposite x)) (sym a) b)
        | inr b ↦ never_both l m a b
      ]
    ]

pub table_add : (a new : Partial) (set : List Lit) (l : Lit) → IsTable a set
    → ChangesAtom a new l.atom (Some l.positive) → IsInRange a.sizes l.atom → (Contains set (opposite l) → ⊥)
    → IsTable new (set ++ l ∷ [])
table_add a new set l h change r none =
    record {
      range =
          subst (λ (s : Sizes). AreInRange s (set ++ l ∷ [])) (sym change.sizes)
          (All-push (λ (m : Lit). IsInRange a.sizes m.atom) set l h.range r);
      apart = apart_add set l h.apart none;
      tells = λ m in_new. told m (subst (λ (s : Sizes). IsInRange s m.atom) change.sizes in_new);
    }
  where
    told : (m : Lit) → IsInRange a.sizes m.atom → IsValueIn (set ++ l ∷ []) m (value_of new m)
    told m in_old =
        elim (cases_eq (number_of a.sizes m.atom) (number_of a.sizes l.atom)) as
        (λ _. IsValueIn (set ++ l ∷ []) m (value_of new m)) [
          | inl e ↦
              let same : m.atom ≡ l.atom = apart a.sizes m.atom l.atom in_old r e in
              let value : value_of new m ≡ option_map (under m.positive) (Some l.positive) =
              ap (λ (x : Atom). option_map (under m.positive) (value_at new x)) same
              ∙ ap (option_map (under m.positive)) change.changed in
              elim (value_cases m.positive l.positive) as (λ _. IsValueIn (set ++ l ∷ []) m (value_of new m)) [
                | inl w ↦ subst (IsValueIn (set ++ l ∷ []) m) (sym (value ∙ w.0))
                    (subst (Contains (set ++ l ∷ [])) (sym (same_lit m l same w.1)) (Contains-push set l))
                | inr w ↦ subst (IsValueIn (set ++ l ∷ []) m) (sym (value ∙ w.0))
                    (subst (Contains (set ++ l ∷ [])) (sym (same_lit (opposite m) l same w.1)) (Contains-push set l))
              ]
          | inr ne ↦
              let other : m.atom ≢ l.atom = λ q. ne (ap (number_of a.sizes) q) in
              let value : value_of new m ≡ value_of a m =
              ap (option_map (under m.positive)) (change.others m.atom in_old other) in
              subst (IsValueIn (set ++ l ∷ []) m) (sym value) (old_value set l m (value_of a m) other (h.tells m in_old))
        ]

-- a table that is cleared: each atom with a truth is among those that are left
pub record IsCleared (old new : Partial) (lits : List Lit) (i : ℕ) : Type 0 where
  pub sizes : new.sizes ≡ old.sizes
  pub left : (a : Atom) → IsInRange old.sizes a
      → (value_at new a ≡ None) ⊎ ((l : Lit) × Contains (drop i lits) l × (l.atom ≡ a))

pub cleared_first : (a : Partial) (set : List Lit) → IsTable a set → IsCleared a a set 0
cleared_first a set h = record { sizes = refl; left = λ x r. at x r (value_at a x) refl }
  where
    at : (x : Atom) → IsInRange a.sizes x → (v : Option Bool) → value_at a x ≡ v
        → (value_at a x ≡ None) ⊎ ((l : Lit) × Contains (drop 0 set) l × (l.atom ≡ x))
    at x r None e = inl e
    at x r (Some true) e =
        let l : Lit = record { atom = x; positive = true } in
        let told : IsValueIn set l (Some true) =
        subst (IsValueIn set l) (ap (option_map (under true)) e) (h.tells l r) in
        inr (l, told, refl)
    at x r (Some false) e =
        let l : Lit = record { atom = x; positive = true } in
        let told : IsValueIn set l (Some false) =
        subst (IsValueIn set l) (ap (option_map (under true)) e) (h.tells l r) in
        inr (opposite l, told, refl)

pub cleared_more : (old mid new : Partial) (lits : List Lit) (i : ℕ) (d l : Lit) → i < length lits → l ≡ get_or lits i d
    → AreInRange old.sizes lits → IsCleared old mid lits i → ChangesAtom mid new l.atom None
    → IsCleared old new lits (i + 1)
cleared_more old mid new lits i d l lt at ranged c change =
    record { sizes = change.sizes ∙ c.sizes; left = λ x r. left x r }
  where
    here : IsInRange old.sizes l.atom
    here = subst (λ (m : Lit). IsInRange old.sizes m.atom) (sym at) (ranged i d lt)

    front : drop i lits ≡ l ∷ drop (i + 1) lits
    front =
        drop-cons lits i d lt ∙ ap (λ (m : Lit). m ∷ drop (suc i) lits) (sym at)
        ∙ ap (λ n. l ∷ drop n lits) (sym (add-one i))

    left : (x : Atom) → IsInRange old.sizes x
        → (value_at new x ≡ None) ⊎ ((m : Lit) × Contains (drop (i + 1) lits) m × (m.atom ≡ x))
    left x r =
        elim (cases_eq (number_of old.sizes x) (number_of old.sizes l.atom)) as
        (λ _. (value_at new x ≡ None) ⊎ ((m : Lit) × Contains (drop (i + 1) lits) m × (m.atom ≡ x))) [
          | inl e ↦ let same : x ≡ l.atom = apart old.sizes x l.atom r here e in
              inl (ap (value_at new) same ∙ change.changed)
          | inr ne ↦
              let other : x ≢ l.atom = λ q. ne (ap (number_of old.sizes) q) in
              let kept : value_at new x ≡ value_at mid x =
              change.others x (subst (λ (s : Sizes). IsInRange s x) (sym c.sizes) r) other in
              elim (c.left x r) as (λ _. (value_at new x ≡ None)
              ⊎ ((m : Lit) × Contains (drop (i + 1) lits) m × (m.atom ≡ x))) [
                | inl none ↦ inl (kept ∙ none)
                | inr w ↦ elim (first_or_other l w.0 (drop (i + 1) lits)
                    (subst (λ (ms : List Lit). Contains ms w.0) front w.1)) as
                    (λ _. (value_at new x ≡ None) ⊎ ((m : Lit) × Contains (drop (i + 1) lits) m × (m.atom ≡ x))) [
                      | inl q ↦ absurd (other (sym w.2 ∙ sym (ap (λ (m : Lit). m.atom) q)))
                      | inr q ↦ inr (w.0, q, w.2)
                    ]
              ]
        ]

pub cleared_all : (old new : Partial) (lits : List Lit) (n : ℕ) → length lits ≤ n → IsCleared old new lits n → (l : Lit)
    → IsInRange old.sizes l.atom → value_of new l ≡ None
cleared_all old new lits n long c l r = elim (c.left l.atom r) as (λ _. value_of new l ≡ None) [
  | inl e ↦ ap (option_map (under l.positive)) e
  | inr w ↦ absurd (let none = w.1.1 in omega (arith, none, length-drop n lits, long))
]

-- looks at clauses
pub one_open : (set clause : List Lit) (l : Lit) → Contains clause l → (Contains set (opposite l) → ⊥)
    → All (λ m. (m ≡ l) ⊎ Contains set (opposite m)) clause → HasAllButOne set clause l
one_open set clause l there missing all =
    record {
      there = there;
      missing = missing;
      others =
          λ m in_c ne. elim (All-contains (λ m. (m ≡ l) ⊎ Contains set (opposite m)) clause m all in_c) as
          (λ _. Contains set (opposite m)) [ inl q ↦ absurd (ne q) | inr q ↦ q ];
    }

pub not_one_open : (s : Sizes) (set clause : List Lit) (l : Lit) → AreInRange s clause → Contains clause l
    → (Contains set (opposite l) → ⊥) → (All (λ m. (m ≡ l) ⊎ Contains set (opposite m)) clause → ⊥)
    → (IsRefutedBy set clause → ⊥) × ((m : Lit) → HasAllButOne set clause m → ⊥)
not_one_open s set clause l ranged there missing fails = (
  (λ all. missing (All-contains (λ m. Contains set (opposite m)) clause l all there)),
  (λ k one. elim (lit_cases s l k (in_range l there) (in_range k one.there)) as (λ _. ⊥) [
    | inl e ↦ fails (λ i d lt.
        let m : Lit = get_or clause i d in
        let in_c = Contains-get_or clause i d lt in
        elim (lit_cases s m k (in_range m in_c) (in_range k one.there)) as (λ _. (m ≡ l) ⊎ Contains set (opposite m)) [
          | inl f ↦ inl (f ∙ sym e)
          | inr ne ↦ inr (one.others m in_c ne)
        ])
    | inr ne ↦ missing (one.others l there ne)
  ]),
)
  where
    in_range : (m : Lit) → Contains clause m → IsInRange s m.atom
    in_range m in_c = All-contains (λ (x : Lit). IsInRange s x.atom) clause m ranged in_c

-- hints
cons_in : (x : Lit) (s t : List Lit) → ((l : Lit) → Contains s l → Contains t l) → (m : Lit) → Contains (x ∷ s) m
    → Contains (x ∷ t) m
cons_in x s t f m w = elim (first_or_other x m s w) as (λ _. Contains (x ∷ t) m) [
  | inl q ↦ subst (Contains (x ∷ t)) q (first_there x t)
  | inr q ↦ other_there x m t (f m q)
]

-- sets with the same literals come to the same
same_set : (hints : List (List Lit)) (s t : List Lit) → ((l : Lit) → Contains s l → Contains t l)
    → ((l : Lit) → Contains t l → Contains s l) → IsRefutedByHints hints s → IsRefutedByHints hints t
same_set _ _ t f g (refuted c hints set all) = refuted c hints t (λ k d lt. f (opposite (get_or c k d)) (all k d lt))
same_set _ _ t f g (joined c hints set l one more) =
    joined c hints t l (record {
      there = one.there;
      missing = λ w. one.missing (g (opposite l) w);
      others = λ m a ne. f (opposite m) (one.others m a ne);
    })
    (same_set hints (l ∷ set) (l ∷ t) (cons_in l set t f) (cons_in l t set g) more)

to_front : (set : List Lit) (l m : Lit) → Contains (set ++ l ∷ []) m → Contains (l ∷ set) m
to_front set l m w = elim (Contains-push_cases set l m w) as (λ _. Contains (l ∷ set) m) [
  | inl q ↦ other_there l m set q
  | inr q ↦ subst (Contains (l ∷ set)) q (first_there l set)
]

to_back : (set : List Lit) (l m : Lit) → Contains (l ∷ set) m → Contains (set ++ l ∷ []) m
to_back set l m w = elim (first_or_other l m set w) as (λ _. Contains (set ++ l ∷ []) m) [
  | inl q ↦ subst (Contains (set ++ l ∷ [])) q (Contains-push set l)
  | inr q ↦ Contains-append_left set (l ∷ []) m q
]

unit_forth : (c : List Lit) (hints : List (List Lit)) (set : List Lit) (l : Lit) → HasAllButOne set c l
    → IsRefutedByHints hints (set ++ l ∷ []) → IsRefutedByHints (c ∷ hints) set
unit_forth c hints set l one more =
    joined c hints set l one (same_set hints (set ++ l ∷ []) (l ∷ set) (to_front set l) (to_back set l) more)

unit_back : (s : Sizes) (c : List Lit) (hints : List (List Lit)) (set : List Lit) (l : Lit) → AreInRange s c
    → HasAllButOne set c l → IsRefutedByHints (c ∷ hints) set → IsRefutedByHints hints (set ++ l ∷ [])
unit_back s _ _ _ l ranged one (refuted c hints set all) =
    absurd (one.missing (All-contains (λ m. Contains set (opposite m)) c l all one.there))
unit_back s _ _ _ l ranged one (joined c hints set k other more) =
    let in_range = λ (m : Lit) (in_c : Contains c m). All-contains (λ (x : Lit). IsInRange s x.atom) c m ranged in_c in
    elim (lit_cases s k l (in_range k other.there) (in_range l one.there)) as
    (λ _. IsRefutedByHints hints (set ++ l ∷ [])) [
      | inl e ↦ same_set hints (l ∷ set) (set ++ l ∷ []) (to_back set l) (to_front set l)
          (subst (λ (x : Lit). IsRefutedByHints hints (x ∷ set)) e more)
      | inr ne ↦ absurd (other.missing (one.others k other.there ne))
    ]

never_open : (c : List Lit) (hints : List (List Lit)) (set : List Lit) → (IsRefutedBy set c → ⊥)
    → ((l : Lit) → HasAllButOne set c l → ⊥) → IsRefutedByHints (c ∷ hints) set → ⊥
never_open _ _ _ no_false no_one (refuted c hints set all) = no_false all
never_open _ _ _ no_false no_one (joined c hints set l one more) = no_one l one

none_left : (set : List Lit) → IsRefutedByHints [] set → ⊥
none_left set h = elim h [ ]

-- the hints from a place on, and what is true there, come to the same as all of them from the first truths
pub record WalksTo (k : Kept) (hints : List ℕ) (first : List Lit) (i : ℕ) (set : List Lit) : Type 0 where
  pub forth : IsRefutedByHints (named k (drop i hints)) set → IsRefutedByHints (named k hints) first
  pub back : IsRefutedByHints (named k hints) first → IsRefutedByHints (named k (drop i hints)) set

pub walks_first : (k : Kept) (hints : List ℕ) (first : List Lit) → WalksTo k hints first 0 first
walks_first k hints first = record { forth = λ h. h; back = λ h. h }

module _ (k : Kept) (hints : List ℕ) (first : List Lit) (i d n : ℕ) (set : List Lit) (lt : i < length hints)
    (at : n ≡ get_or hints i d) (f : WalksTo k hints first i set) where
  next_is : named k (drop i hints) ≡ clause_at k n ∷ named k (drop (i + 1) hints)
  next_is = ap (named k) (drop-cons hints i d lt ∙ ap (λ m. m ∷ drop (suc i) hints) (sym at)
      ∙ ap (λ m. n ∷ drop m hints) (sym (add-one i)))

  pub walks_false : IsRefutedBy set (clause_at k n) → IsRefutedByHints (named k hints) first
  walks_false all =
      f.forth (subst (λ cs. IsRefutedByHints cs set) (sym next_is)
      (refuted (clause_at k n) (named k (drop (i + 1) hints)) set all))

  pub walks_unit : (s : Sizes) (l : Lit) → AreInRange s (clause_at k n) → HasAllButOne set (clause_at k n) l
      → WalksTo k hints first (i + 1) (set ++ l ∷ [])
  walks_unit s l ranged one =
      record {
        forth = λ h. f.forth (subst (λ cs. IsRefutedByHints cs set) (sym next_is)
            (unit_forth (clause_at k n) (named k (drop (i + 1) hints)) set l one h));
        back = λ h. unit_back s (clause_at k n) (named k (drop (i + 1) hints)) set l ranged one
            (subst (λ cs. IsRefutedByHints cs set) next_is (f.back h));
      }

  pub walks_open : (IsRefutedBy set (clause_at k n) → ⊥) → ((l : Lit) → HasAllButOne set (clause_at k n) l → ⊥)
      → IsRefutedByHints (named k hints) first → ⊥
  walks_open no_false no_one h =
      never_open (clause_at k n) (named k (drop (i + 1) hints)) set no_false no_one
      (subst (λ cs. IsRefutedByHints cs set) next_is (f.back h))

pub walks_end : (k : Kept) (hints : List ℕ) (first : List Lit) (n : ℕ) (set : List Lit) → length hints ≤ n
    → WalksTo k hints first n set → IsRefutedByHints (named k hints) first → ⊥
walks_end k hints first n set long f h =
    none_left set (subst (λ ks. IsRefutedByHints (named k ks) set) (drop_all n hints long) (f.back h))

-- the clause at a position is in range
pub at_within : (s : Sizes) (k : Kept) (n : ℕ) → AreWithin s k.clauses → AreInRange s (clause_at k n)
at_within s k n all = by k.clauses n all
  where
    none_in : AreInRange s []
    none_in i d lt = absurd (omega arith)

    entry : (o : Option (List Lit)) → ((c : List Lit) → o ≡ Some c → AreInRange s c) → AreInRange s (unwrap_or o [])
    entry None h = none_in
    entry (Some c) h = h c refl

    by : (os : List (Option (List Lit))) (n : ℕ) → AreWithin s os
        → AreInRange s (unwrap_or (slice_index_or os n None) [])
    by [] n a = none_in
    by (o ∷ os) zero a = entry o (All-head (λ x. (c : List Lit) → x ≡ Some c → AreInRange s c) o os a)
    by (o ∷ os) (suc n) a = by os n (All-tail (λ x. (c : List Lit) → x ≡ Some c → AreInRange s c) o os a)

-- making literals false
pub falsified_more : (lits : List Lit) (i : ℕ) (d l m : Lit) (set new : List Lit) → i < length lits
    → l ≡ get_or lits i d → set ≡ map opposite (take i lits) → m ≡ opposite l → new ≡ set ++ m ∷ []
    → new ≡ map opposite (take (i + 1) lits)
falsified_more lits i d l m set new lt at is e added =
    let longer : take (i + 1) lits ≡ take i lits ++ l ∷ [] =
    take_more lits i d lt ∙ ap (λ (x : Lit). take i lits ++ x ∷ []) (sym at) in
    added ∙ ap (λ (xs : List Lit). xs ++ m ∷ []) is ∙ ap (λ (x : Lit). map opposite (take i lits) ++ x ∷ []) e
    ∙ sym (ap (map opposite) longer ∙ map-append opposite (take i lits) (l ∷ []))

pub falsified_clash : (lits : List Lit) (i : ℕ) (d l m : Lit) (set : List Lit) → i < length lits → l ≡ get_or lits i d
    → set ≡ map opposite (take i lits) → m ≡ opposite l → Contains set (opposite m)
    → (x : Lit) × Contains (map opposite lits) x × Contains (map opposite lits) (opposite x)
falsified_clash lits i d l m set lt at is e w =
    let whole : map opposite lits ≡ map opposite (take i lits) ++ map opposite (drop i lits) =
    ap (map opposite) (sym (take-append-drop i lits)) ∙ map-append opposite (take i lits) (drop i lits) in
    let early : Contains (map opposite (take i lits)) l =
    subst (λ (xs : List Lit). Contains xs l) is (subst (Contains set) (ap opposite e ∙ twice l) w) in (
      l,
      subst (λ (xs : List Lit). Contains xs l) (sym whole)
          (Contains-append_left (map opposite (take i lits)) (map opposite (drop i lits)) l early),
      subst (λ (x : Lit). Contains (map opposite lits) (opposite x)) (sym at) (in_opposites lits i d lt),
    )

-- both ways to be shown
pub shown_by : (hints : List (List Lit)) (lits set : List Lit) (b : Bool) → IsConsistent (map opposite lits)
    → set ≡ map opposite lits → IsTrue b ↔ IsRefutedByHints hints set → IsTrue b ↔ IsShownByHints hints lits
shown_by hints lits set b h is exact = (
  (λ t. inr (subst (IsRefutedByHints hints) is (exact.0 t))),
  (λ shown. by shown),
)
  where
    by : IsShownByHints hints lits → IsTrue b
    by (inl w) = absurd (h w.0 w.1 w.2)
    by (inr w) = exact.1 (subst (IsRefutedByHints hints) (sym is) w)
