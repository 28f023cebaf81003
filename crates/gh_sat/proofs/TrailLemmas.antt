-- The tables of a trail, as steps come and go.
use Rattle.std.proofs.Common.{◌≡◌, ◌≢◌, ℕ, suc, ◌+◌, ◌<◌, ◌≤◌, List, [], ◌∷◌, ◌++◌, length, take, Option, Some}
use Rattle.std.proofs.Common.{None, Bool, true, false, inl, inr, refl, sym, ap, ◌∙◌, subst, arith, All}
use Rattle.std.proofs.Common.{length-set}
use Rattle.std.specs.Prelude.{slice_get, slice_set, option_map, not}
use Rattle.std.proofs.lemmas.Bool.{cases_eq}
use Rattle.std.proofs.lemmas.List.{length_push}
use Rattle.std.proofs.lemmas.Option.{get_or_from_slice_get, slice_get-get_or}
use Rattle.gh_base.specs.declared.atom.Atom.{Atom}
use Rattle.gh_base.specs.declared.atom.Lit.{Lit}
use Rattle.gh_base.specs.declared.sizes.Sizes.{Sizes}
use Rattle.gh_base.specs.Atoms.{opposite, IsInRange, number_of, count_of}
use Rattle.gh_base.specs.Meaning.{under}
use Rattle.gh_base.specs.Assignments.{Partial, value_of, value_at, with_value}
use Rattle.gh_base.proofs.NumberLemmas.{number_below, apart}
use Rattle.gh_sat.specs.declared.trail.Step.{Step}
use Rattle.gh_sat.specs.Trail.{Stands, IsFree, IsTruth, AreSteps, AreValues, ArePlaces, IsPassed}
use Rattle.gh_sat.specs.Trail.{IsAssignmentOf, unassigned}
use Rattle.gh_base.proofs.ListLemmas.{get_within, get_front, get_push, get_last, take_get, get_set_same, get_set_other}
use Rattle.gh_sat.proofs.ListLemmas.{fewer_left, more_left, some_left}

pub same_lit : (l u : Lit) → l.atom ≡ u.atom → l.positive ≡ u.positive → l ≡ u
same_lit l u a b i = record { atom = a i; positive = b i }

not_twice : (b : Bool) → not (not b) ≡ b
not_twice true = refl
not_twice false = refl

pub opposite_twice : (l : Lit) → opposite (opposite l) ≡ l
opposite_twice l i = record { atom = l.atom; positive = not_twice l.positive i }

pub steps_of : (p : Partial) (trail : List Step) → AreValues p trail
    → AreSteps (record { sizes = p.sizes; steps = trail })
steps_of p trail v = record { range = v.range; apart = v.apart; few = omega (arith, v.count, v.long); small = v.small }

-- what the table has for an atom
table_read : (p : Partial) (a : Atom) → length p.values ≡ count_of p.sizes → IsInRange p.sizes a
    → slice_get p.values (number_of p.sizes a) ≡ Some (value_at p a)
table_read p a long r = slice_get-get_or p.values (number_of p.sizes a) None (omega (arith, number_below p.sizes a r))

-- a free atom has no entry in the table
pub free_is_none : (p : Partial) (trail : List Step) (a : Atom) → AreValues p trail → IsFree trail a
    → IsInRange p.sizes a → slice_get p.values (number_of p.sizes a) ≡ Some None
free_is_none p trail a v free h =
    let read = table_read p a v.long h in
    let none_of : (o : Option Bool) → value_at p a ≡ o → o ≡ None = λ o. elim o as (λ q. value_at p a ≡ q → q ≡ None) [
      | None ↦ λ e. refl
      | Some b ↦
          λ e. let s = v.back (record { atom = a; positive = b }) h (read ∙ ap Some e) in
          absurd (free s.0 s.1 s.3 (ap (λ (l : Lit). l.atom) s.4))
    ] in
    read ∙ ap Some (none_of (value_at p a) refl)

pub none_is_free : (p : Partial) (trail : List Step) (a : Atom) → AreValues p trail
    → slice_get p.values (number_of p.sizes a) ≡ Some None → IsFree trail a
none_is_free p trail a v none i x at e =
    let there : slice_get p.values (number_of p.sizes a) ≡ Some (Some x.lit.positive) =
    subst (λ b. slice_get p.values (number_of p.sizes b) ≡ Some (Some x.lit.positive)) e (v.on i x at) in cc

-- there is room for a free atom
pub room_for : (p : Partial) (trail : List Step) (a : Atom) → AreValues p trail → IsFree trail a → IsInRange p.sizes a
    → length trail + 1 ≤ length p.values
room_for p trail a v free h =
    let some = some_left p.values (number_of p.sizes a) (free_is_none p trail a v free h) in omega (arith, v.count)

pub stands_push : (trail : List Step) (y : Step) (i : ℕ) (l : Lit) → Stands trail i l → Stands (trail ++ y ∷ []) i l
stands_push trail y i l s = (s.0, s.1, s.2, get_front trail (y ∷ []) s.0 s.1 s.3, s.4)

pub stands_below : (trail : List Step) (i n : ℕ) (l : Lit) → i ≤ n → Stands trail i l → Stands trail n l
stands_below trail i n l h s = (s.0, s.1, omega (arith, s.2), s.3, s.4)

pub stands_take : (trail : List Step) (i n : ℕ) (l : Lit) → i ≤ n → Stands trail i l → Stands (take n trail) i l
stands_take trail i n l h s = (s.0, s.1, s.2, take_get n trail s.0 s.1 (omega (arith, s.2)) s.3, s.4)

under_itself : (b : Bool) → under b b ≡ true
under_itself true = refl
under_itself false = refl

under_true : (a b : Bool) → under a b ≡ true → b ≡ a
under_true true b e = e
under_true false true e = cc
under_true false false e = refl

under_false : (a b : Bool) → under a b ≡ false → b ≡ not a
under_false true b e = e
under_false false true e = refl
under_false false false e = cc

-- the truth that the table tells
value_by : (p : Partial) (trail : List Step) (l : Lit) (o : Option Bool) (r : Option Bool) → AreValues p trail
    → IsInRange p.sizes l.atom → value_at p l.atom ≡ o → option_map (under l.positive) o ≡ r → IsTruth trail l r
value_by p trail l None None v h e f = none_is_free p trail l.atom v (table_read p l.atom v.long h ∙ ap Some e)
value_by p trail l None (Some b) v h e f = cc
value_by p trail l (Some b) None v h e f = cc
value_by p trail l (Some b) (Some true) v h e f =
    let t : under l.positive b ≡ true = cc in
    v.back l h (table_read p l.atom v.long h ∙ ap Some (e ∙ ap Some (under_true l.positive b t)))
value_by p trail l (Some b) (Some false) v h e f =
    let t : under l.positive b ≡ false = cc in
    v.back (opposite l) h (table_read p l.atom v.long h ∙ ap Some (e ∙ ap Some (under_false l.positive b t)))

pub value_is : (p : Partial) (trail : List Step) (l : Lit) (r : Option Bool) → AreValues p trail
    → IsInRange p.sizes l.atom → r ≡ value_of p l → IsTruth trail l r
value_is p trail l r v h e = value_by p trail l (value_at p l.atom) r v h refl (sym e)

pub assignment_is : (p : Partial) (trail : List Step) → AreValues p trail
    → IsAssignmentOf p (record { sizes = p.sizes; steps = trail })
assignment_is p trail v = record { sizes = refl; tells = λ l h. value_is p trail l (value_of p l) v h refl }

-- two atoms of one number are one
one_number : (s : Sizes) (a b : Atom) → IsInRange s a → IsInRange s b → (a ≡ b → ⊥) → number_of s a ≢ number_of s b
one_number s a b h k n e = n (apart s a b h k e)

pub values_more : (p : Partial) (trail : List Step) (y : Step) → AreValues p trail → IsFree trail y.lit.atom
    → IsInRange p.sizes y.lit.atom
    → AreValues (with_value p y.lit.atom (Some y.lit.positive)) (trail ++ y ∷ [])
values_more p trail y v free h =
    let n : ℕ = number_of p.sizes y.lit.atom in
    let below : n < length p.values = omega (arith, number_below p.sizes y.lit.atom h, v.long) in
    record {
      range = λ i x at. elim (get_push trail y i x at) [
        | inl old ↦ v.range i x old
        | inr new ↦ subst (λ (z : Step). IsInRange p.sizes z.lit.atom) new.1 h
      ];
      on = λ i x at. elim (get_push trail y i x at) [
        | inl old ↦
            get_set_other p.values n (number_of p.sizes x.lit.atom) (Some y.lit.positive)
            (one_number p.sizes x.lit.atom y.lit.atom (v.range i x old) h (free i x old)) ∙ v.on i x old
        | inr new ↦
            subst (λ (z : Step). slice_get (slice_set p.values n (Some y.lit.positive)) (number_of p.sizes z.lit.atom)
            ≡ Some (Some z.lit.positive)) new.1 (get_set_same p.values n (Some y.lit.positive) below)
      ];
      back = λ l r at. elim (cases_eq (number_of p.sizes l.atom) n) [
        | inl e ↦
            let same : slice_get (slice_set p.values n (Some y.lit.positive)) (number_of p.sizes l.atom)
            ≡ Some (Some y.lit.positive) = subst
            (λ c. slice_get (slice_set p.values n (Some y.lit.positive)) c ≡ Some (Some y.lit.positive)) (sym e)
            (get_set_same p.values n (Some y.lit.positive) below) in
            let q : y.lit.positive ≡ l.positive = cc in (
              length trail,
              y,
              omega (arith, length_push trail y),
              get_last trail y,
              same_lit y.lit l
                  (sym (apart p.sizes l.atom y.lit.atom r h e)) q,
            )
        | inr ne ↦
            let s =
            v.back l r (sym (get_set_other p.values n (number_of p.sizes l.atom) (Some y.lit.positive) ne) ∙ at) in
            (s.0, s.1, omega (arith, s.2, length_push trail y), get_front trail (y ∷ []) s.0 s.1 s.3, s.4)
      ];
      apart = λ i x j z at at' e. elim (get_push trail y i x at) [
        | inl old ↦ elim (get_push trail y j z at') [
          | inl old' ↦ v.apart i x j z old old' e
          | inr new' ↦ absurd (free i x old (e ∙ ap (λ (t : Step). t.lit.atom) (sym new'.1)))
        ]
        | inr new ↦ elim (get_push trail y j z at') [
          | inl old' ↦ absurd (free j z old' (sym e ∙ ap (λ (t : Step). t.lit.atom) (sym new.1)))
          | inr new' ↦ new.0 ∙ sym new'.0
        ]
      ];
      count = let f = fewer_left p.values n y.lit.positive (free_is_none p trail y.lit.atom v free h) in
          omega (arith, v.count, length_push trail y, length-set p.values n (Some y.lit.positive));
      long = length-set p.values n (Some y.lit.positive) ∙ v.long;
      small = v.small;
    }

pub places_more : (s : Sizes) (places : List ℕ) (trail : List Step) (y : Step) → ArePlaces s places trail
    → ((i : ℕ) (x : Step) → slice_get trail i ≡ Some x → IsInRange s x.lit.atom)
    → IsFree trail y.lit.atom → IsInRange s y.lit.atom → length places ≡ count_of s
    → ArePlaces s (slice_set places (number_of s y.lit.atom) (length trail)) (trail ++ y ∷ [])
places_more s places trail y p r free h long i x at = elim (get_push trail y i x at) [
  | inl old ↦
      get_set_other places (number_of s y.lit.atom) (number_of s x.lit.atom) (length trail)
      (one_number s x.lit.atom y.lit.atom (r i x old) h (free i x old)) ∙ p i x old
  | inr new ↦
      subst (λ (z : Step). slice_get (slice_set places (number_of s y.lit.atom) (length trail)) (number_of s z.lit.atom)
      ≡ Some i) new.1
      (get_set_same places (number_of s y.lit.atom) (length trail) (omega (arith, number_below s y.lit.atom h))
      ∙ ap Some (sym new.0))
]

-- the last step leaves
pub values_less : (p : Partial) (trail : List Step) (y : Step) → AreValues p (trail ++ y ∷ [])
    → AreValues (with_value p y.lit.atom None) trail
values_less p trail y v =
    let n : ℕ = number_of p.sizes y.lit.atom in
    let mine = v.range (length trail) y (get_last trail y) in
    let last = v.on (length trail) y (get_last trail y) in
    let here = get_within p.values n (Some y.lit.positive) last in
    let away : (i : ℕ) (x : Step) → slice_get trail i ≡ Some x → x.lit.atom ≢ y.lit.atom = λ i x at e.
    let same = v.apart i x (length trail) y (get_front trail (y ∷ []) i x at) (get_last trail y) e in
    let lt = get_within trail i x at in absurd (omega arith) in
    record {
      range = λ i x at. v.range i x (get_front trail (y ∷ []) i x at);
      on = λ i x at. get_set_other p.values n (number_of p.sizes x.lit.atom) None
          (one_number p.sizes x.lit.atom y.lit.atom (v.range i x (get_front trail (y ∷ []) i x at)) mine (away i x at))
          ∙ v.on i x (get_front trail (y ∷ []) i x at);
      back = λ l r at. elim (cases_eq (number_of p.sizes l.atom) n) [
        | inl e ↦
            let none : slice_get (slice_set p.values n None) (number_of p.sizes l.atom) ≡ Some None =
            subst (λ c. slice_get (slice_set p.values n None) c ≡ Some None) (sym e)
            (get_set_same p.values n None here) in cc
        | inr ne ↦
            let s = v.back l r (sym (get_set_other p.values n (number_of p.sizes l.atom) None ne) ∙ at) in
            elim (get_push trail y s.0 s.1 s.3) [
              | inl old ↦ (s.0, s.1, get_within trail s.0 s.1 old, old, s.4)
              | inr new ↦
                  absurd (ne (ap (λ (m : Lit). number_of p.sizes m.atom) (sym s.4)
                  ∙ ap (λ (t : Step). number_of p.sizes t.lit.atom) (sym new.1)))
            ]
      ];
      apart = λ i x j z at at' e. v.apart i x j z (get_front trail (y ∷ []) i x at) (get_front trail (y ∷ []) j z at')
          e;
      count =
          omega (
            arith,
            v.count,
            length_push trail y,
            length-set p.values n None,
            more_left p.values n y.lit.positive
                last,
          );
      long = length-set p.values n None ∙ v.long;
      small = v.small;
    }

all_none : (values : List (Option Bool)) (a : ℕ) (b : Bool) → All (λ v. v ≡ None) values
    → slice_get values a ≡ Some (Some b) → ⊥
all_none values a b none e =
    let w = get_within values a (Some b) e in
    let r = get_or_from_slice_get values a (Some b) None e in
    let t = none a None w in cc

all_left : (values : List (Option Bool)) → All (λ v. v ≡ None) values → unassigned values ≡ length values
all_left [] h = refl
all_left (None ∷ vs) h = omega (arith, all_left vs (λ k d lt. h (suc k) d (omega arith)))
all_left (Some b ∷ vs) h = let e : Some b ≡ None = h 0 None (omega arith) in cc

-- at the beginning
pub values_none : (p : Partial) → All (λ v. v ≡ None) p.values → length p.values ≡ count_of p.sizes
    → count_of p.sizes ≤ 4294967294 → AreValues p []
values_none p none long small = record {
  range = λ i x at. cc;
  on = λ i x at. cc;
  back = λ l r at. absurd (all_none p.values (number_of p.sizes l.atom) l.positive none at);
  apart = λ i x j y at at' e. cc;
  count = omega (arith, all_left p.values none);
  long = long;
  small = small;
}

-- where no number's atom is free, no atom is
pub none_free : (p : Partial) (trail : List Step) → AreValues p trail → IsPassed p (count_of p.sizes)
    → (a : Atom) → IsInRange p.sizes a → IsFree trail a → ⊥
none_free p trail v passed a r free =
    passed (number_of p.sizes a) (number_below p.sizes a r) (free_is_none p trail a v free r)
