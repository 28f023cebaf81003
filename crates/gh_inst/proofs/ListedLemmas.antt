-- Which names are in the list of all instances.
use Rattle.std.proofs.Common.{◌≡◌, ◌⊎◌, inl, inr, ℕ, zero, suc, ◌+◌, ◌-◌, ◌<◌, ◌≤◌, List, [], ◌∷◌, ◌++◌, map, length}
use Rattle.std.proofs.Common.{Option, Some, None, option_map, refl, sym, ap, subst, ◌∙◌, arith, replicate, All}
use Rattle.std.specs.Prelude.{Contains, cond}
use Rattle.std.specs.List.{flat_map, range_with_len}
use Rattle.std.proofs.lemmas.List.{take_at, get_or_default}
use Rattle.std.proofs.lemmas.List.Elements.{All-map, All-weaker, All-contains, All-head, All-tail}
use Rattle.gh_base.specs.declared.atom.Term.{Term}
use Rattle.gh_inst.specs.declared.naming.InstanceName.{InstanceName}
use Rattle.gh_inst.specs.Table.{AxiomRow, row, table, row_with}
use Rattle.gh_inst.specs.Tuples.{tuples}
use Rattle.gh_inst.specs.Instances.{name_of, row_instances, instances, tuple_of, IsInstance}
use Rattle.gh_inst.specs.Laws.{AreAllInstances}
use Rattle.std.proofs.lemmas.Bool.Decides.{eqb_tells}
use Rattle.gh_base.specs.Atoms.{term, terms_below}
use Rattle.gh_inst.proofs.InstanceLemmas.{row_at, row_there, some_same}
use Rattle.gh_inst.proofs.SearchLemmas.{all_joined, range_below, tuples_are, IsTuple}

pub tuple_back : (number version : ℕ) (tuple : List Term) → tuple_of (name_of number version tuple) ≡ tuple
tuple_back number version tuple = take_at tuple (replicate (4 - length tuple) (term 0)) (length tuple) refl

pub one_listed : (n versions number version : ℕ) (r : AxiomRow) (tuple : List Term) → row_with number table ≡ Some r
    → version < versions → IsTuple r.variables n tuple
    → IsInstance n versions (name_of number version tuple)
one_listed n versions number version r tuple found below is = record {
  row = ap (option_map (λ r. r.variables)) found ∙ ap Some (sym is.0);
  version = below;
  terms = subst (All (λ t. t.0 < n)) (sym (tuple_back number version tuple)) is.1;
  padded = ap (name_of number version) (sym (tuple_back number version tuple));
}

row_listed : (n versions : ℕ) (r : AxiomRow) → row_with r.number table ≡ Some r
    → All (IsInstance n versions) (row_instances n versions r)
row_listed n versions r found =
    all_joined (IsInstance n versions) (λ version. map (name_of r.number version) (tuples r.variables n))
    (range_with_len 0 versions)
    (All-weaker (λ k. k < versions)
    (λ version. All (IsInstance n versions) (map (name_of r.number version) (tuples r.variables n)))
    (λ version below. All-map (IsInstance n versions) (name_of r.number version) (tuples r.variables n)
    (All-weaker (IsTuple r.variables n) (λ tuple. IsInstance n versions (name_of r.number version tuple))
    (λ tuple is. one_listed n versions r.number version r tuple found below is) (tuples r.variables n)
    (tuples_are r.variables n)))
    (range_with_len 0 versions) (range_below 0 versions versions (omega arith)))

found_at : (k : ℕ) → k < 15 → row_with (row_at k).number table ≡ Some (row_at k)
found_at k h = let t = row_there k h in subst (λ j. row_with j table ≡ Some (row_at k)) (sym t.number) t.found

all_listed : (n versions : ℕ) → All (IsInstance n versions) (instances n versions)
all_listed n versions =
    let each : All (λ r. All (IsInstance n versions) (row_instances n versions r)) table =
    λ k d l. subst (λ r. All (IsInstance n versions) (row_instances n versions r))
    (get_or_default table k (row 0 1 []) d l) (row_listed n versions (row_at k) (found_at k l)) in
    all_joined (IsInstance n versions) (row_instances n versions) table each

-- membership in joined lists
in_left : {X : Type 0} (xs ys : List X) (x : X) → Contains xs x → Contains (xs ++ ys) x
in_left [] ys x (k, below, at) = absurd (omega (arith, below))
in_left (z ∷ zs) ys x (zero, below, at) = (0, omega arith, at)
in_left (z ∷ zs) ys x (suc k, below, at) = let t = in_left zs ys x (k, omega (arith, below), at) in
    (suc t.0, omega (arith, t.1), t.2)

in_right : {X : Type 0} (xs ys : List X) (x : X) → Contains ys x → Contains (xs ++ ys) x
in_right [] ys x c = c
in_right (z ∷ zs) ys x c = let t = in_right zs ys x c in (suc t.0, omega (arith, t.1), t.2)

in_map : {X Y : Type 0} (f : X → Y) (xs : List X) (x : X) → Contains xs x → Contains (map f xs) (f x)
in_map f [] x (k, below, at) = absurd (omega (arith, below))
in_map f (z ∷ zs) x (zero, below, at) = (0, omega arith, ap f at)
in_map f (z ∷ zs) x (suc k, below, at) = let t = in_map f zs x (k, omega (arith, below), at) in
    (suc t.0, omega (arith, t.1), t.2)

in_joined : {X Y : Type 0} (f : X → List Y) (xs : List X) (x : X) (y : Y) → Contains xs x → Contains (f x) y
    → Contains (flat_map f xs) y
in_joined f [] x y (k, below, at) c = absurd (omega (arith, below))
in_joined f (z ∷ zs) x y (zero, below, at) c =
    in_left (f z) (flat_map f zs) y (subst (λ w. Contains (f w) y) (sym at) c)
in_joined f (z ∷ zs) x y (suc k, below, at) c =
    in_right (f z) (flat_map f zs) y (in_joined f zs x y (k, omega (arith, below), at) c)

here_or_later : (a k : ℕ) → a ≤ k → (a ≡ k) ⊎ (a + 1 ≤ k)
here_or_later a k h =
    elim (eqb_tells a k) as (λ _. (a ≡ k) ⊎ (a + 1 ≤ k)) [ inl e ↦ inl e.1 | inr e ↦ inr (omega (arith, h, e.1)) ]

in_range : (a n k : ℕ) → a ≤ k → k < a + n → Contains (range_with_len a n) k
in_range a zero k h l = absurd (omega (arith, h, l))
in_range a (suc n) k h l =
    elim (here_or_later a k h) as (λ _. Contains (range_with_len a (suc n)) k) [
      | inl e ↦ (0, omega arith, e)
      | inr later ↦ let t = in_range (a + 1) n k later (omega (arith, l)) in (suc t.0, omega (arith, t.1), t.2)
    ]

in_tuples : (n : ℕ) (tuple : List Term) → All (λ t. t.0 < n) tuple → Contains (tuples (length tuple) n) tuple
in_tuples n [] h = (0, omega arith, refl)
in_tuples n (t ∷ ts) h =
    in_joined (λ u. map (λ rest. u ∷ rest) (tuples (length ts) n)) (terms_below n) t (t ∷ ts)
    (in_map term (range_with_len 0 n) t.0
    (in_range 0 n t.0 (omega arith) (omega (arith, All-head (λ u. u.0 < n) t ts h))))
    (in_map (λ rest. t ∷ rest) (tuples (length ts) n) ts (in_tuples n ts (All-tail (λ u. u.0 < n) t ts h)))

-- the row that is found is in the table
pub row_in : (number : ℕ) (rs : List AxiomRow) (r : AxiomRow) → row_with number rs ≡ Some r
    → Contains rs r × (r.number ≡ number)
row_in number [] r e = cc
row_in number (q ∷ qs) r e =
    elim (eqb_tells q.number number) as (λ _. Contains (q ∷ qs) r × (r.number ≡ number)) [
      | inl same ↦
          let is : q ≡ r = some_same q r (sym (ap (λ b. cond b (Some q) (row_with number qs)) same.0) ∙ e) in
          ((0, omega arith, is), subst (λ s. s.number ≡ number) is same.1)
      | inr other ↦
          let t = row_in number qs r (sym (ap (λ b. cond b (Some q) (row_with number qs)) other.0) ∙ e) in
          ((suc t.0.0, omega (arith, t.0.1), t.0.2), t.1)
    ]

pub found_row : (o : Option AxiomRow) (arity : ℕ) → option_map (λ r. r.variables) o ≡ Some arity
    → (r : AxiomRow) × (o ≡ Some r) × (r.variables ≡ arity)
found_row None arity e = cc
found_row (Some r) arity e = (r, refl, some_same r.variables arity e)

listed : (n versions : ℕ) (name : InstanceName) → IsInstance n versions name → Contains (instances n versions) name
listed n versions name is =
    let padded = is.padded in
    let f = found_row (row_with name.row table) name.arity is.row in
    let r = f.0 in
    let t = row_in name.row table r f.1 in
    let tuple = tuple_of name in
    let long : length tuple ≡ r.variables = sym (ap (λ m. m.arity) padded) ∙ sym f.2 in
    let tuple_in : Contains (tuples r.variables n) tuple =
    subst (λ v. Contains (tuples v n) tuple) long (in_tuples n tuple is.terms) in
    let made : Contains (map (name_of r.number name.version) (tuples r.variables n)) name =
    subst (Contains (map (name_of r.number name.version) (tuples r.variables n)))
    (ap (λ k. name_of k name.version tuple) t.1 ∙ sym padded)
    (in_map (name_of r.number name.version) (tuples r.variables n) tuple tuple_in) in
    in_joined (row_instances n versions) table r name t.0
    (in_joined (λ version. map (name_of r.number version) (tuples r.variables n)) (range_with_len 0 versions)
    name.version name
    (in_range 0 versions name.version (omega arith) (omega (arith, is.version))) made)

pub all_are_listed : AreAllInstances
all_are_listed n versions name = (
  λ c. All-contains (IsInstance n versions) (instances n versions) name (all_listed n versions) c,
  λ is. listed n versions name is,
)
