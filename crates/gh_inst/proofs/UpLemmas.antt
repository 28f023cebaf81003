-- Names that are found in order.
use Rattle.std.specs.Prelude.{◌≡◌, ℕ, ◌+◌, ◌-◌, ◌<◌, ◌≤◌, List, [], ◌∷◌, ◌++◌, length, get_or, map, Contains}
use Rattle.std.proofs.Common.{refl, sym, ◌∙◌, ap, subst, inl, inr, arith}
use Rattle.std.proofs.lemmas.List.{nil_from_length, length-map, get_or-map, get_or_default}
use Rattle.std.proofs.lemmas.List.Elements.{All-nil, All-cons, All-append, All-contains}
use Rattle.std.proofs.lemmas.List.Quantifiers.{all_pairs_push}
use Rattle.gh_base.specs.declared.atom.Term.{Term}
use Rattle.gh_base.specs.Atoms.{term}
use Rattle.gh_inst.specs.Instances.{name_of}
use Rattle.gh_inst.specs.declared.collecting.Looked.{Looked}
use Rattle.gh_inst.specs.declared.naming.InstanceName.{InstanceName}
use Rattle.gh_inst.specs.Search.{tuples_with}
use Rattle.gh_inst.specs.Tuples.{tuples}
use Rattle.gh_inst.specs.Violations.{IsFirstWithout}
use Rattle.gh_inst.specs.Collecting.{AddsOneAt, AreDistinct, IsTrueAt, IsUpTo, GoesUp, place, place_of}
use Rattle.gh_inst.proofs.SearchLemmas.{IsTuple, among, tuples_are}

pub none_up : (high : ℕ) → IsUpTo high []
none_up high = record {
  ascending = λ i j d less low. absurd (omega (arith, less, low));
  below = All-nil (λ (a : InstanceName). place_of a < high);
}

pub still_up : (low high : ℕ) (names : List InstanceName) → low ≤ high → IsUpTo low names → IsUpTo high names
still_up low high names over up = record {
  ascending = up.ascending;
  below = λ k d there. omega (arith, over, up.below k d there);
}

pub one_up : (low high : ℕ) (names : List InstanceName) (name : InstanceName) → low ≤ place_of name
    → place_of name < high → IsUpTo low names → IsUpTo high (names ++ name ∷ [])
one_up low high names name from to up = record {
  ascending =
      all_pairs_push (λ a b. place_of a < place_of b) names name up.ascending
      (λ k d there. omega (arith, from, up.below k d there));
  below = All-append (λ (a : InstanceName). place_of a < high) names (name ∷ [])
      (λ k d there. omega (arith, from, to, up.below k d there))
      (All-cons (λ (a : InstanceName). place_of a < high) name [] to
      (All-nil (λ (a : InstanceName). place_of a < high)));
}

pub up_distinct : (high : ℕ) (names : List InstanceName) → IsUpTo high names → AreDistinct names
up_distinct high names up i j d less low same =
    let e : place_of (get_or names i d) ≡ place_of (get_or names j d) = ap place_of same in
    let f = up.ascending i j d less low in
    absurd (omega (arith, e, f))

-- one at two terms
pub second_up : (r : Looked) (x : Term) (y : ℕ) (old new : List InstanceName) → AddsOneAt r (x ∷ term y ∷ []) old new
    → GoesUp (place r.version r.number x.0 y) (place r.version r.number x.0 (y + 1)) old new
second_up r x y old new (inl same) up =
    subst (IsUpTo (place r.version r.number x.0 (y + 1))) (sym same)
    (still_up (place r.version r.number x.0 y) (place r.version r.number x.0 (y + 1)) old (omega arith) up)
second_up r x y old new (inr (rest, long, more)) up =
    let name : InstanceName = name_of r.number r.version (x ∷ term y ∷ rest) in
    let at : place_of name ≡ place r.version r.number x.0 y = refl in
    subst (IsUpTo (place r.version r.number x.0 (y + 1))) (sym more)
    (one_up (place r.version r.number x.0 y) (place r.version r.number x.0 (y + 1)) old name (omega (arith, at))
    (omega (arith, at)) up)

-- one at a term alone, of a row of one variable
pub first_up : (r : Looked) (x : Term) (old new : List InstanceName) → r.variables ≡ 1 → AddsOneAt r (x ∷ []) old new
    → GoesUp (place r.version r.number x.0 0) (place r.version r.number (x.0 + 1) 0) old new
first_up r x old new alone (inl same) up =
    subst (IsUpTo (place r.version r.number (x.0 + 1) 0)) (sym same)
    (still_up (place r.version r.number x.0 0) (place r.version r.number (x.0 + 1) 0) old (omega arith) up)
first_up r x old new alone (inr (rest, long, more)) up =
    let none : rest ≡ [] = nil_from_length rest (omega (arith, alone, long)) in
    let name : InstanceName = name_of r.number r.version (x ∷ []) in
    let at : place_of name ≡ place r.version r.number x.0 0 = refl in
    let added : new ≡ old ++ name ∷ [] = more ∙ ap (λ ts. old ++ name_of r.number r.version (x ∷ ts) ∷ []) none in
    subst (IsUpTo (place r.version r.number (x.0 + 1) 0)) (sym added)
    (one_up (place r.version r.number x.0 0) (place r.version r.number (x.0 + 1) 0) old name (omega (arith, at))
    (omega (arith, at)) up)

-- what is found among the tuples that begin with some terms
pub one_more : (r : Looked) (n first : ℕ) (start tuple : List Term) (old new : List InstanceName) → first ≤ r.variables
    → length start ≡ first → IsFirstWithout (IsTrueAt r) (tuples_with (r.variables - first) n start) tuple
    → new ≡ old ++ name_of r.number r.version tuple ∷ [] → AddsOneAt r start old new
one_more r n first start tuple old new few long f e =
    let there : Contains (map (λ rest. start ++ rest) (tuples (r.variables - first) n)) tuple =
    subst (λ l. Contains l tuple) (sym f.here) (among f.before tuple f.after) in
    let w = begins start (tuples (r.variables - first) n) tuple there in
    let is =
    All-contains (IsTuple (r.variables - first) n) (tuples (r.variables - first) n) w.0
    (tuples_are (r.variables - first) n) w.1 in
    inr (w.0, omega (arith, few, long, is.0), e ∙ ap (λ ts. old ++ name_of r.number r.version ts ∷ []) (sym w.2))
  where
    begins : (start : List Term) (all : List (List Term)) (tuple : List Term)
        → Contains (map (λ rest. start ++ rest) all) tuple
        → (rest : List Term) × Contains all rest × (start ++ rest ≡ tuple)
    begins start all tuple (k, low, at) =
        let within : k < length all = omega (arith, low, length-map all (λ rest. start ++ rest)) in (
          get_or all k tuple,
          (k, within, get_or_default all k (get_or all k tuple) tuple within),
          sym (get_or-map (λ rest. start ++ rest) all k tuple tuple within) ∙ at,
        )
