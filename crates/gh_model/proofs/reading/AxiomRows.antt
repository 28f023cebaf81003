-- From true instances of the axioms to the axioms.
use Rattle.std.specs.Prelude.{◌≡◌, ◌⊎◌, ℕ, ◌<◌, min, max, List, [], ◌∷◌, Bool, true, false, not, ◌||◌, nat_eq, IsTrue}
use Rattle.std.specs.Prelude.{All, Some, option_map}
use Rattle.std.specs.List.{list_any}
use Rattle.std.proofs.lemmas.Bool.{cases_order, eqb-true, eq-eqb, false≢true}
use Rattle.std.proofs.lemmas.List.Folds.{list_any-from_Any}
use Rattle.std.proofs.lemmas.List.Elements.{All-contains, All-nil, All-cons}
use Rattle.std.proofs.Common.{refl, sym, ◌∙◌, ap, subst, inl, inr, arith}
use Rattle.gh_base.specs.declared.atom.Term.{Term}
use Rattle.gh_base.specs.declared.atom.Atom.TheVariants.{Btwn, Hop, Alloc}
use Rattle.gh_base.specs.declared.sizes.Sizes.{Sizes}
use Rattle.gh_base.specs.Meaning as congruence
use Rattle.gh_base.specs.Meaning.{Interpretation, lit_truth}
use Rattle.gh_base.specs.Atoms.{term}
use Rattle.gh_inst.specs.Table.{table, row_with}
use Rattle.gh_inst.specs.Instances.{name_of, clause_of, instances, IsInstance}
use Rattle.gh_inst.specs.Violations.{AreInstancesTrue, IsInstanceTrue}
use Rattle.gh_inst.specs.declared.naming.InstanceName.{InstanceName}
use Rattle.gh_inst.proofs.ListedLemmas.{all_are_listed}
use Rattle.gh_model.specs.Versions.{equal_in, version_of}
use Rattle.gh_model.specs.Classes.{IsCongruence}
use Rattle.gh_model.specs.Laws.{InstancesAreKept, VersionsAreModels, CongruencesAreOfVersions}
use Rattle.gh_model.proofs.reading.Classes.{classes_are_models}

-- the test of an instance's clause
abbrev instance_truth : Interpretation → InstanceName → Bool
instance_truth m name = list_any (lit_truth m) (clause_of name)

instance_true : (s : Sizes) (m : Interpretation) → AreInstancesTrue s m → (name : InstanceName)
    → IsInstance s.terms s.versions name → instance_truth m name ≡ true
instance_true s m A name here =
    list_any-from_Any (lit_truth m) (clause_of name)
    (All-contains (IsInstanceTrue m) (instances s.terms s.versions) name A
    ((all_are_listed s.terms s.versions name).1 here))

-- what a clause says, by its signs
one : (a : Bool) → (a || false) ≡ true → IsTrue a
one true e = refl
one false e = absurd (false≢true e)

next : (a b : Bool) → (not a || b) ≡ true → IsTrue a → b ≡ true
next true b e t = e
next false b e t = absurd (false≢true t)

either : (a b : Bool) → (a || b) ≡ true → IsTrue a ⊎ (b ≡ true)
either true b e = inl refl
either false b e = inr e

from_one : (a b : Bool) → (not a || (b || false)) ≡ true → IsTrue a → IsTrue b
from_one a b e t = one b (next a (b || false) e t)

from_two : (a b c : Bool) → (not a || (not b || (c || false))) ≡ true → IsTrue a → IsTrue b → IsTrue c
from_two a b c e t u = from_one b c (next a (not b || (c || false)) e t) u

one_of_two : (a b c d : Bool) → (not a || (not b || (c || (d || false)))) ≡ true → IsTrue a → IsTrue b
    → IsTrue c ⊎ IsTrue d
one_of_two a b c d e t u =
    elim (either c (d || false) (next b (c || (d || false)) (next a (not b || (c || (d || false))) e t) u))
    [ inl f ↦ inl f | inr f ↦ inr (one d f) ]

same_pair : (f : ℕ → ℕ) (x y : ℕ) → IsTrue (nat_eq (f (min x y)) (f (max x y))) → IsTrue (nat_eq (f x) (f y))
same_pair f x y e = elim (cases_order x y) [
  | inl same ↦ eq-eqb (f x) (f y) (ap f same)
  | inr other ↦ elim other [
    | inl l ↦ let a : min x y ≡ x = omega arith in let b : max x y ≡ y = omega arith in
        subst (λ u. IsTrue (nat_eq (f u) (f y))) a (subst (λ u. IsTrue (nat_eq (f (min x y)) (f u))) b e)
    | inr l ↦ let a : min x y ≡ y = omega arith in let b : max x y ≡ x = omega arith in
        eq-eqb (f x) (f y) (sym (sym (ap f a) ∙ eqb-true (f (min x y)) (f (max x y)) e ∙ ap f b))
  ]
]

-- the instances at terms below n
abbrev T : ℕ → List Term → Type 0
T n ts = All (λ t. t.0 < n) ts

on_1 : (n x : ℕ) → x < n → T n (term x ∷ [])
on_1 n x lx = All-cons (λ t. t.0 < n) (term x) [] lx (All-nil (λ t. t.0 < n))

on_2 : (n x y : ℕ) → x < n → y < n → T n (term x ∷ term y ∷ [])
on_2 n x y lx ly = All-cons (λ t. t.0 < n) (term x) (term y ∷ []) lx (on_1 n y ly)

on_3 : (n x y z : ℕ) → x < n → y < n → z < n → T n (term x ∷ term y ∷ term z ∷ [])
on_3 n x y z lx ly lz = All-cons (λ t. t.0 < n) (term x) (term y ∷ term z ∷ []) lx (on_2 n y z ly lz)

on_4 : (n x y u z : ℕ) → x < n → y < n → u < n → z < n → T n (term x ∷ term y ∷ term u ∷ term z ∷ [])
on_4 n x y u z lx ly lu lz = All-cons (λ t. t.0 < n) (term x) (term y ∷ term u ∷ term z ∷ []) lx (on_3 n y u z ly lu lz)

at_1 : (s : Sizes) (m : Interpretation) (i : ℕ) → i < s.versions → AreInstancesTrue s m → (number : ℕ)
    → option_map (λ r. r.variables) (row_with number table) ≡ Some 1 → (x : ℕ) → x < s.terms
    → instance_truth m (name_of number i (term x ∷ [])) ≡ true
at_1 s m i li A number row x lx =
    instance_true s m A (name_of number i (term x ∷ []))
    (record { row = row; version = li; terms = on_1 s.terms x lx; padded = refl })

at_2 : (s : Sizes) (m : Interpretation) (i : ℕ) → i < s.versions → AreInstancesTrue s m → (number : ℕ)
    → option_map (λ r. r.variables) (row_with number table) ≡ Some 2 → (x y : ℕ) → x < s.terms → y < s.terms
    → instance_truth m (name_of number i (term x ∷ term y ∷ [])) ≡ true
at_2 s m i li A number row x y lx ly =
    instance_true s m A (name_of number i (term x ∷ term y ∷ []))
    (record { row = row; version = li; terms = on_2 s.terms x y lx ly; padded = refl })

at_3 : (s : Sizes) (m : Interpretation) (i : ℕ) → i < s.versions → AreInstancesTrue s m → (number : ℕ)
    → option_map (λ r. r.variables) (row_with number table) ≡ Some 3 → (x y z : ℕ) → x < s.terms → y < s.terms
    → z < s.terms → instance_truth m (name_of number i (term x ∷ term y ∷ term z ∷ [])) ≡ true
at_3 s m i li A number row x y z lx ly lz =
    instance_true s m A (name_of number i (term x ∷ term y ∷ term z ∷ []))
    (record { row = row; version = li; terms = on_3 s.terms x y z lx ly lz; padded = refl })

at_4 : (s : Sizes) (m : Interpretation) (i : ℕ) → i < s.versions → AreInstancesTrue s m → (number : ℕ)
    → option_map (λ r. r.variables) (row_with number table) ≡ Some 4 → (x y u z : ℕ) → x < s.terms → y < s.terms
    → u < s.terms → z < s.terms → instance_truth m (name_of number i (term x ∷ term y ∷ term u ∷ term z ∷ [])) ≡ true
at_4 s m i li A number row x y u z lx ly lu lz =
    instance_true s m A (name_of number i (term x ∷ term y ∷ term u ∷ term z ∷ []))
    (record { row = row; version = li; terms = on_4 s.terms x y u z lx ly lu lz; padded = refl })

pub instances_are_kept : InstancesAreKept
instances_are_kept s m i li A H = record {
  ordered = record {
    row_1 = λ x lx. one (m.table (Btwn i (term x) (term x) (term x))) (at_1 s m i li A 1 refl x lx);
    row_2 =
        λ x y lx ly b. same_pair m.class x y
        (from_one (m.table (Btwn i (term x) (term y) (term x))) (nat_eq (m.class (min x y)) (m.class (max x y)))
        (at_2 s m i li A 2 refl x y lx ly) b);
    row_3 =
        λ x y z lx ly lz a b. one_of_two (m.table (Btwn i (term x) (term y) (term y)))
        (m.table (Btwn i (term x) (term z) (term z))) (m.table (Btwn i (term x) (term y) (term z)))
        (m.table (Btwn i (term x) (term z) (term y))) (at_3 s m i li A 3 refl x y z lx ly lz) a b;
    row_4 =
        λ x y z lx ly lz a. from_one (m.table (Btwn i (term x) (term y) (term z)))
        (m.table (Btwn i (term x) (term y) (term y))) (at_3 s m i li A 4 refl x y z lx ly lz) a;
    row_5 =
        λ x y z lx ly lz a. from_one (m.table (Btwn i (term x) (term y) (term z)))
        (m.table (Btwn i (term y) (term z) (term z))) (at_3 s m i li A 5 refl x y z lx ly lz) a;
    row_6 =
        λ x y z lx ly lz a b. from_two (m.table (Btwn i (term x) (term y) (term y)))
        (m.table (Btwn i (term y) (term z) (term z))) (m.table (Btwn i (term x) (term z) (term z)))
        (at_3 s m i li A 6 refl x y z lx ly lz) a b;
    row_7 =
        λ x y u z lx ly lu lz a b. from_two (m.table (Btwn i (term x) (term y) (term z)))
        (m.table (Btwn i (term y) (term u) (term z))) (m.table (Btwn i (term x) (term y) (term u)))
        (at_4 s m i li A 7 refl x y u z lx ly lu lz) a b;
    row_8 =
        λ x y u z lx ly lu lz a b. from_two (m.table (Btwn i (term x) (term y) (term z)))
        (m.table (Btwn i (term y) (term u) (term z))) (m.table (Btwn i (term x) (term u) (term z)))
        (at_4 s m i li A 8 refl x y u z lx ly lu lz) a b;
    row_9 =
        λ x y u z lx ly lu lz a b. from_two (m.table (Btwn i (term x) (term y) (term z)))
        (m.table (Btwn i (term x) (term u) (term y))) (m.table (Btwn i (term x) (term u) (term z)))
        (at_4 s m i li A 9 refl x y u z lx ly lu lz) a b;
    row_10 =
        λ x y u z lx ly lu lz a b. from_two (m.table (Btwn i (term x) (term y) (term z)))
        (m.table (Btwn i (term x) (term u) (term y))) (m.table (Btwn i (term u) (term y) (term z)))
        (at_4 s m i li A 10 refl x y u z lx ly lu lz) a b;
  };
  linked = record {
    row_11 =
        λ x v lx lv a. from_one (m.table (Hop i (term x) (term v))) (m.table (Btwn i (term x) (term v) (term v)))
        (at_2 s m i li A 11 refl x v lx lv) a;
    row_12 =
        λ x v w lx lv lw a b. elim
        (one_of_two (m.table (Hop i (term x) (term v))) (m.table (Btwn i (term x) (term w) (term w)))
        (nat_eq (m.class (min w x)) (m.class (max w x))) (m.table (Btwn i (term x) (term v) (term w)))
        (at_3 s m i li A 12 refl x v w lx lv lw) a b) [ inl e ↦ inl (same_pair m.class w x e) | inr c ↦ inr c ];
    row_13 =
        λ x y lx ly b. elim (either (m.table (Alloc i (term x)))
        (not (m.table (Btwn i (term x) (term y) (term y)))
        || ((nat_eq (m.class (min x y)) (m.class (max x y))) || false)) (at_2 s m i li A 13 refl x y lx ly)) [
          | inl a ↦ inl a
          | inr e ↦ inr
              (same_pair m.class x y (from_one (m.table (Btwn i (term x) (term y) (term y)))
              (nat_eq (m.class (min x y)) (m.class (max x y))) e b))
        ];
    row_14 =
        λ x w lx lw a b. same_pair m.class w x
        (from_two (m.table (Hop i (term x) (term x))) (m.table (Btwn i (term x) (term w) (term w)))
        (nat_eq (m.class (min w x)) (m.class (max w x))) (at_2 s m i li A 14 refl x w lx lw) a b);
    row_15 =
        λ x v lx lv a. from_one (m.table (Hop i (term x) (term v))) (m.table (Alloc i (term x)))
        (at_2 s m i li A 15 refl x v lx lv) a;
    null = H.null;
    hops = H.hops;
  };
}

-- a table's truth stays at terms of one class
same_true : (a b : Bool) → a ≡ b → IsTrue a → IsTrue b
same_true a b e t = sym e ∙ t

pub is_congruence : (s : Sizes) (m : Interpretation) (i : ℕ) → i < s.versions → congruence.IsCongruence s m
    → IsCongruence (equal_in m) s.terms (version_of m i)
is_congruence s m i li C =
    let same : (x y : ℕ) → IsTrue (equal_in m x y) → m.class x ≡ m.class y =
    λ x y e. eqb-true (m.class x) (m.class y) e in
    record {
      itself = λ x lx. eq-eqb (m.class x) (m.class x) refl;
      back = λ x y lx ly e. eq-eqb (m.class y) (m.class x) (sym (same x y e));
      on = λ x y z lx ly lz e f. eq-eqb (m.class x) (m.class z) (same x y e ∙ same y z f);
      alloc =
          λ x y lx ly e. same_true (m.table (Alloc i (term x))) (m.table (Alloc i (term y)))
          (C.alloc i (term x) (term y) (li, lx) (li, ly) (same x y e));
      hop = λ x y v w lx ly lv lw e f. same_true (m.table (Hop i (term x) (term v))) (m.table (Hop i (term y) (term w)))
          (C.hop i (term x) (term v) (term y) (term w) (li, lx, lv) (li, ly, lw) (same x y e) (same v w f));
      between =
          λ x x' y y' z z' lx lx' ly ly' lz lz' e f g. same_true (m.table (Btwn i (term x) (term y) (term z)))
          (m.table (Btwn i (term x') (term y') (term z')))
          (C.btwn i (term x) (term y) (term z) (term x') (term y') (term z') (li, lx, ly, lz) (li, lx', ly', lz')
          (same x x' e) (same y y' f) (same z z' g));
    }

pub versions_are_models : VersionsAreModels
versions_are_models s m i li some C A H =
    classes_are_models (equal_in m) s.terms (version_of m i) some (is_congruence s m i li C)
    (instances_are_kept s m i li A H)

-- and back: what is so in each version is so of the interpretation
both_true : (a b : Bool) → (IsTrue a → IsTrue b) → (IsTrue b → IsTrue a) → a ≡ b
both_true true b f g = sym (f refl)
both_true false true f g = g refl
both_true false false f g = refl

equal_true : (m : Interpretation) (x y : ℕ) → m.class x ≡ m.class y → IsTrue (equal_in m x y)
equal_true m x y e = eq-eqb (m.class x) (m.class y) e

of_versions : (s : Sizes) (m : Interpretation)
    → ((i : ℕ) → i < s.versions → IsCongruence (equal_in m) s.terms (version_of m i)) → congruence.IsCongruence s m
of_versions s m C = record {
  btwn = λ v x y z x' y' z' here there e f g.
      let c = C v here.0 in
      both_true (m.table (Btwn v x y z)) (m.table (Btwn v x' y' z'))
      (c.between x.0 x'.0 y.0 y'.0 z.0 z'.0 here.1 there.1 here.2 there.2 here.3 there.3 (equal_true m x.0 x'.0 e)
      (equal_true m y.0 y'.0 f) (equal_true m z.0 z'.0 g))
      (c.between x'.0 x.0 y'.0 y.0 z'.0 z.0 there.1 here.1 there.2 here.2 there.3 here.3 (equal_true m x'.0 x.0 (sym e))
      (equal_true m y'.0 y.0 (sym f)) (equal_true m z'.0 z.0 (sym g)));
  hop = λ v x y x' y' here there e f.
      let c = C v here.0 in
      both_true (m.table (Hop v x y)) (m.table (Hop v x' y'))
      (c.hop x.0 x'.0 y.0 y'.0 here.1 there.1 here.2 there.2 (equal_true m x.0 x'.0 e) (equal_true m y.0 y'.0 f))
      (c.hop x'.0 x.0 y'.0 y.0 there.1 here.1 there.2 here.2 (equal_true m x'.0 x.0 (sym e))
      (equal_true m y'.0 y.0 (sym f)));
  alloc = λ v x x' here there e.
      let c = C v here.0 in
      both_true (m.table (Alloc v x)) (m.table (Alloc v x')) (c.alloc x.0 x'.0 here.1 there.1 (equal_true m x.0 x'.0 e))
      (c.alloc x'.0 x.0 there.1 here.1 (equal_true m x'.0 x.0 (sym e)));
}

pub congruences_are_of_versions : CongruencesAreOfVersions
congruences_are_of_versions s m = (λ C i li. is_congruence s m i li C, of_versions s m)
