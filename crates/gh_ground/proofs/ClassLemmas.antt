-- Classes that asserted equalities make.
use Rattle.std.proofs.Common.{◌≡◌, ◌≢◌, inl, inr, ℕ, ◌+◌, ◌<◌, ◌≤◌, Bool, true, false, not, List, [], ◌∷◌, ◌++◌, length}
use Rattle.std.proofs.Common.{get_or, map, take, refl, sym, ap, ◌∙◌, subst, arith}
use Rattle.std.specs.Prelude.{nat_eq, if◌then◌else◌}
use Rattle.std.proofs.lemmas.Bool.{cases_eq, cases_lt, eq-eqb, ne_eqb}
use Rattle.std.proofs.lemmas.List.{get_or-map, get_or_past, get_or_default, length-map, length_push, take_more}
use Rattle.std.proofs.lemmas.List.Elements.{Contains-push_cases, Contains-append_left}
use Rattle.gh_base.specs.declared.atom.Term.{Term}
use Rattle.gh_base.specs.declared.atom.Atom.{Atom}
use Rattle.gh_base.specs.declared.atom.Atom.TheVariants.{Eq}
use Rattle.gh_base.specs.declared.atom.Lit.{Lit}
use Rattle.gh_base.specs.declared.sizes.Sizes.{Sizes}
use Rattle.gh_base.specs.Atoms.{IsInRange, AreInRange}
use Rattle.gh_base.specs.Meaning.{Interpretation}
use Rattle.gh_base.specs.Structures.{class_at}
use Rattle.gh_cc.specs.Asserted.{EqualitiesHold, AreEqual, equality}
use Rattle.gh_cc.specs.Partitions.{moved}
use Rattle.gh_ground.specs.Making.{AreClassesOf}

-- a table of the terms themselves
pub alone_is : (terms : ℕ) (cs : List Term) → length cs ≡ terms → ((t : ℕ) → t < length cs → class_at cs t ≡ t)
    → AreClassesOf terms [] cs
alone_is terms cs long each =
    let all : (t : ℕ) → class_at cs t ≡ t = λ t. elim (cases_lt t (length cs)) as (λ _. class_at cs t ≡ t) [
      | inl low ↦ each t low
      | inr high ↦ ap (λ (u : Term). u.0) (get_or_past cs t (record { 0 = t }) high)
    ] in
    record {
      long = long;
      classes = record { least = λ t lt. let e = all t in omega arith; own = λ t lt. all (class_at cs t) };
      sound = λ m h t. ap m.class (all t);
      joined = λ a b there. let lt = there.1 in absurd (omega arith);
    }

abbrev pub merged : ℕ → ℕ → ℕ → ℕ
merged from into n = if nat_eq n from then into else n

merged_at : (from into n : ℕ) → n ≡ from → merged from into n ≡ into
merged_at from into n e = ap (λ (b : Bool). if b then into else n) (eq-eqb n from e)

merged_other : (from into n : ℕ) → n ≢ from → merged from into n ≡ n
merged_other from into n e = ap (λ (b : Bool). if b then into else n) (ne_eqb n from e)

chosen : (b : Bool) (x y : Term) → (if b then x else y).0 ≡ if b then x.0 else y.0
chosen true x y = refl
chosen false x y = refl

module _ (terms : ℕ) (lits : List Lit) (cs : List Term) (h : AreClassesOf terms lits cs) (from into : Term)
    (low : into.0 ≤ from.0) (within : from.0 < length cs) where
  abbrev new : List Term
  new = map (moved from into) cs

  class_new : (t : ℕ) → class_at new t ≡ merged from.0 into.0 (class_at cs t)
  class_new t = elim (cases_lt t (length cs)) as (λ _. class_at new t ≡ merged from.0 into.0 (class_at cs t)) [
    | inl lt ↦
        ap (λ (u : Term). u.0) (get_or-map (moved from into) cs t (record { 0 = t }) (record { 0 = t }) lt)
        ∙ chosen (nat_eq (class_at cs t) from.0) into (get_or cs t (record { 0 = t }))
    | inr ge ↦
        let past : class_at cs t ≡ t = ap (λ (u : Term). u.0) (get_or_past cs t (record { 0 = t }) ge) in
        ap (λ (u : Term). u.0) (get_or_past new t (record { 0 = t })
        (let e : length new ≡ length cs = length-map cs (moved from into) in omega arith))
        ∙ sym (merged_other from.0 into.0 (class_at cs t) (λ e. omega arith) ∙ past)
  ]

  long_new : length new ≡ length cs
  long_new = length-map cs (moved from into)

  least_new : (t : ℕ) → t < length cs → class_at new t ≤ t
  least_new t lt = elim (cases_eq (class_at cs t) from.0) as (λ _. class_at new t ≤ t) [
    | inl e ↦ let f = class_new t ∙ merged_at from.0 into.0 (class_at cs t) e in let g = h.classes.least t lt in
        omega arith
    | inr n ↦ let f = class_new t ∙ merged_other from.0 into.0 (class_at cs t) n in let g = h.classes.least t lt in
        omega arith
  ]

  own_new : class_at cs into.0 ≡ into.0 → (t : ℕ) → t < length cs → class_at new (class_at new t) ≡ class_at new t
  own_new own t lt = elim (cases_eq (class_at cs t) from.0) as (λ _. class_at new (class_at new t) ≡ class_at new t) [
    | inl e ↦
        let f : class_at new t ≡ into.0 = class_new t ∙ merged_at from.0 into.0 (class_at cs t) e in
        let g : merged from.0 into.0 into.0 ≡ into.0 =
        elim (cases_eq into.0 from.0) as (λ _. merged from.0 into.0 into.0 ≡ into.0) [
          | inl same ↦ merged_at from.0 into.0 into.0 same
          | inr differ ↦ merged_other from.0 into.0 into.0 differ
        ] in
        ap (class_at new) f ∙ class_new into.0 ∙ ap (merged from.0 into.0) own ∙ g ∙ sym f
    | inr n ↦
        let f : class_at new t ≡ class_at cs t = class_new t ∙ merged_other from.0 into.0 (class_at cs t) n in
        ap (class_at new) f ∙ class_new (class_at cs t) ∙ ap (merged from.0 into.0) (h.classes.own t lt)
        ∙ merged_other from.0 into.0 (class_at cs t) n ∙ sym f
  ]

  sound_new : (m : Interpretation) → EqualitiesHold m lits → m.class into.0 ≡ m.class from.0 → (t : ℕ)
      → m.class (class_at new t) ≡ m.class t
  sound_new m holds same t = elim (cases_eq (class_at cs t) from.0) as (λ _. m.class (class_at new t) ≡ m.class t) [
    | inl e ↦ ap m.class (class_new t ∙ merged_at from.0 into.0 (class_at cs t) e) ∙ same ∙ ap m.class (sym e)
        ∙ h.sound m holds t
    | inr n ↦ ap m.class (class_new t ∙ merged_other from.0 into.0 (class_at cs t) n) ∙ h.sound m holds t
  ]

  same_new : (a b : ℕ) → class_at cs a ≡ class_at cs b → class_at new a ≡ class_at new b
  same_new a b e = class_new a ∙ ap (merged from.0 into.0) e ∙ sym (class_new b)

  both_new : (a b : ℕ) → class_at cs a ≡ from.0 → class_at cs b ≡ into.0 → class_at new a ≡ class_at new b
  both_new a b e f =
      let g : merged from.0 into.0 into.0 ≡ into.0 =
      elim (cases_eq into.0 from.0) as (λ _. merged from.0 into.0 into.0 ≡ into.0) [
        | inl same ↦ merged_at from.0 into.0 into.0 same
        | inr differ ↦ merged_other from.0 into.0 into.0 differ
      ] in
      class_new a ∙ merged_at from.0 into.0 (class_at cs a) e ∙ sym (class_new b ∙ ap (merged from.0 into.0) f ∙ g)

equality_apart : (a b p q : Term) → equality a b ≡ equality p q → (a ≡ p) × (b ≡ q)
equality_apart a b p q e = let f : Eq a b ≡ Eq p q = ap (λ (l : Lit). l.atom) e in (cc f, cc f)

-- one more equality: the class of one term is moved to that of the other
join_one : (terms : ℕ) (lits : List Lit) (cs : List Term) (a b from into : Term) (x y : ℕ) → AreClassesOf terms lits cs
    → x < length cs → y < length cs → class_at cs x ≡ from.0 → class_at cs y ≡ into.0
    → into.0 ≤ from.0 → ((m : Interpretation) → EqualitiesHold m (lits ++ equality a b ∷ []) → m.class y ≡ m.class x)
    → (class_at (map (moved from into) cs) a.0 ≡ class_at (map (moved from into) cs) b.0)
    → AreClassesOf terms (lits ++ equality a b ∷ []) (map (moved from into) cs)
join_one terms lits cs a b from into x y h hx hy ex ey low same both =
    let least_x = h.classes.least x hx in
    let within : from.0 < length cs = omega arith in
    let long = long_new terms lits cs h from into low within in
    let older : (m : Interpretation) → EqualitiesHold m (lits ++ equality a b ∷ []) → EqualitiesHold m lits =
    λ m holds p q there. holds p q (Contains-append_left lits (equality a b ∷ []) (equality p q) there) in
    let own : class_at cs into.0 ≡ into.0 = ap (class_at cs) (sym ey) ∙ h.classes.own y hy ∙ ey in
    record {
      long = long ∙ h.long;
      classes = record {
        least = λ t lt. least_new terms lits cs h from into low within t (omega arith);
        own = λ t lt. own_new terms lits cs h from into low within own t (omega arith);
      };
      sound = λ m holds t.
          let old = older m holds in
          let one : m.class into.0 ≡ m.class from.0 =
          ap m.class (sym ey) ∙ h.sound m old y ∙ same m holds ∙ sym (h.sound m old x) ∙ ap m.class ex in
          sound_new terms lits cs h from into low within m old one t;
      joined =
          λ p q there. elim (Contains-push_cases lits (equality a b) (equality p q) there) as
          (λ _. class_at (map (moved from into) cs) p.0 ≡ class_at (map (moved from into) cs) q.0) [
            | inl before ↦ same_new terms lits cs h from into low within p.0 q.0 (h.joined p q before)
            | inr last ↦
                let w = equality_apart a b p q last in
                ap (λ (u : Term). class_at (map (moved from into) cs) u.0) (sym w.0) ∙ both
                ∙ ap (λ (u : Term). class_at (map (moved from into) cs) u.0) w.1
          ];
    }

pub get_end : {X : Type 0} (xs : List X) (y d : X) → get_or (xs ++ y ∷ []) (length xs) d ≡ y
get_end [] y d = refl
get_end (x ∷ xs) y d = get_end xs y d

last_holds : (m : Interpretation) (lits : List Lit) (a b : Term) → EqualitiesHold m (lits ++ equality a b ∷ [])
    → m.class a.0 ≡ m.class b.0
last_holds m lits a b holds =
    holds a b (length lits, omega (arith, length_push lits (equality a b)), get_end lits (equality a b) (equality a b))

pub join_first : (terms : ℕ) (lits : List Lit) (cs : List Term) (a b from into : Term) → AreClassesOf terms lits cs
    → a.0 < length cs → b.0 < length cs → class_at cs a.0 ≡ from.0 → class_at cs b.0 ≡ into.0
    → into.0 ≤ from.0 → AreClassesOf terms (lits ++ equality a b ∷ []) (map (moved from into) cs)
join_first terms lits cs a b from into h ha hb ea eb low =
    let least_a = h.classes.least a.0 ha in
    join_one terms lits cs a b from into a.0 b.0 h ha hb ea eb low (λ m holds. sym (last_holds m lits a b holds))
    (both_new terms lits cs h from into low (omega arith) a.0 b.0 ea eb)

pub join_second : (terms : ℕ) (lits : List Lit) (cs : List Term) (a b from into : Term) → AreClassesOf terms lits cs
    → a.0 < length cs → b.0 < length cs → class_at cs b.0 ≡ from.0 → class_at cs a.0 ≡ into.0
    → into.0 ≤ from.0 → AreClassesOf terms (lits ++ equality a b ∷ []) (map (moved from into) cs)
join_second terms lits cs a b from into h ha hb eb ea low =
    let least_b = h.classes.least b.0 hb in
    join_one terms lits cs a b from into b.0 a.0 h hb ha eb ea low (λ m holds. last_holds m lits a b holds)
    (sym (both_new terms lits cs h from into low (omega arith) b.0 a.0 eb ea))

-- any other literal
pub join_none : (terms : ℕ) (lits : List Lit) (cs : List Term) (l : Lit) → AreClassesOf terms lits cs
    → ((a b : Term) → l ≡ equality a b → ⊥) → AreClassesOf terms (lits ++ l ∷ []) cs
join_none terms lits cs l h none = record {
  long = h.long;
  classes = h.classes;
  sound = λ m holds t. h.sound m (λ p q there. holds p q (Contains-append_left lits (l ∷ []) (equality p q) there)) t;
  joined =
      λ p q there. elim (Contains-push_cases lits l (equality p q) there) as (λ _. class_at cs p.0 ≡ class_at cs q.0) [
        | inl before ↦ h.joined p q before
        | inr last ↦ absurd (none p q last)
      ];
}

-- the classes are those that the equalities make
pub equal_is : (s : Sizes) (lits : List Lit) (cs : List Term) (a b : Term) → AreClassesOf s.terms lits cs
    → (class_at cs a.0 ≡ class_at cs b.0 → AreEqual (record { sizes = s; lits = lits }) a b)
    × (AreEqual (record { sizes = s; lits = lits }) a b → class_at cs a.0 ≡ class_at cs b.0)
equal_is s lits cs a b h = (
  λ e n congruence holds. sym (h.sound n holds a.0) ∙ ap n.class e ∙ h.sound n holds b.0,
  λ f. f (record { class = class_at cs; table = λ _. false })
      (record { btwn = λ _ _ _ _ _ _ _ _ _ _ _ _. refl; hop = λ _ _ _ _ _ _ _ _ _. refl; alloc = λ _ _ _ _ _ _. refl })
      (λ p q there. h.joined p q there),
)

-- what reads tell
pub class_read : (cs : List Term) (k : ℕ) (x : Term) → k < length cs → x ≡ get_or cs k x → class_at cs k ≡ x.0
class_read cs k x lt e = ap (λ (u : Term). u.0) (get_or_default cs k (record { 0 = k }) x lt ∙ sym e)

equality_is : (p : Bool) (at : Atom) (a b : Term) → at ≡ Eq a b → not p ≡ false
    → equality a b ≡ record { atom = at; positive = p }
equality_is true at a b e f = ap (λ (x : Atom). let l : Lit = record { atom = x; positive = true } in l) (sym e)
equality_is false at a b e f = cc

pub lit_is : (l : Lit) (a b : Term) → l.atom ≡ Eq a b → not l.positive ≡ false → equality a b ≡ l
lit_is l a b e f = equality_is l.positive l.atom a b e f

pub negative_none : (l : Lit) → not l.positive ≡ true → (a b : Term) → l ≡ equality a b → ⊥
negative_none l e a b is = let f : not l.positive ≡ false = ap (λ (k : Lit). not k.positive) is in cc
