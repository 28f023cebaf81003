-- The atoms of instances are in range, and names that have term 0 past their terms.
use Rattle.std.proofs.Common.{◌≡◌, ℕ, ◌-◌, ◌<◌, ◌≤◌, List, [], ◌∷◌, ◌++◌, length, refl, sym, ap, subst, ◌∙◌, arith}
use Rattle.std.proofs.Common.{replicate, All, take, drop, take_all, true, get_or, Bool}
use Rattle.std.specs.Prelude.{Contains, nat_eq}
use Rattle.std.specs.List.{list_all}
use Rattle.std.proofs.Math.Dec.{ltb}
use Rattle.std.proofs.lemmas.Bool.{eqb-true, ltb-true}
use Rattle.std.proofs.lemmas.List.{take-append-drop, length-take-le, length-drop, drop_at}
use Rattle.std.proofs.lemmas.List.Elements.{All-map, All-weaker, All-contains, All-head, All-tail, All-replicate}
use Rattle.std.proofs.lemmas.List.Sums.{AllPass-from_list_all}
use Rattle.gh_base.specs.declared.atom.Term.{Term}
use Rattle.gh_base.specs.declared.sizes.Sizes.{Sizes}
use Rattle.gh_base.specs.Atoms.{IsInRange, AreInRange, term}
use Rattle.gh_inst.specs.declared.naming.InstanceName.{InstanceName}
use Rattle.gh_inst.specs.declared.schema.Shape.{Shape}
use Rattle.gh_inst.specs.declared.schema.Shape.TheVariants.{Equal, Btwn, Hop, Alloc}
use Rattle.gh_inst.specs.declared.schema.Pattern.{Pattern}
use Rattle.gh_inst.specs.Schemas.{places_of, term_at, atom_of, lit_over, clause_over}
use Rattle.gh_inst.specs.Search.{IsAmong}
use Rattle.gh_inst.specs.Table.{AxiomRow, table, row_with}
use Rattle.gh_inst.specs.Instances.{tuple_of, clause_of, clause_with, IsInstance, IsPadded}
use Rattle.gh_inst.proofs.SearchLemmas.{terms_there}
use Rattle.gh_inst.proofs.ListedLemmas.{found_row, row_in}

-- each row is over its variables
abbrev has_three : Pattern → Bool
has_three p = nat_eq (length p.places) 3

abbrev is_among : ℕ → Pattern → Bool
is_among variables p = list_all (λ x. ltb x variables) (take (places_of p.shape) p.places)

abbrev have_three : AxiomRow → Bool
have_three r = list_all has_three r.lits

abbrev are_among : AxiomRow → Bool
are_among r = list_all (is_among r.variables) r.lits

all_have_three : list_all have_three table ≡ true
all_have_three = refl

all_are_among : list_all are_among table ≡ true
all_are_among = refl

row_has_three : (r : AxiomRow) → Contains table r → All (λ p. length p.places ≡ 3) r.lits
row_has_three r c =
    All-weaker (λ p. has_three p ≡ true) (λ p. length p.places ≡ 3) (λ p h. eqb-true (length p.places) 3 h) r.lits
    (AllPass-from_list_all has_three r.lits
    (All-contains (λ q. have_three q ≡ true) table r (AllPass-from_list_all have_three table all_have_three) c))

row_is_among : (r : AxiomRow) → Contains table r → All (IsAmong r.variables) r.lits
row_is_among r c =
    All-weaker (λ p. is_among r.variables p ≡ true) (IsAmong r.variables)
    (λ p h. All-weaker (λ x. ltb x r.variables ≡ true) (λ x. x < r.variables) (λ x b. ltb-true x r.variables b)
    (take (places_of p.shape) p.places)
    (AllPass-from_list_all (λ x. ltb x r.variables) (take (places_of p.shape) p.places) h)) r.lits
    (AllPass-from_list_all (is_among r.variables) r.lits
    (All-contains (λ q. are_among q ≡ true) table r (AllPass-from_list_all are_among table all_are_among) c))

atom_in_range : (s : Sizes) (shape : Shape) (version : ℕ) (at : ℕ → Term) → version < s.versions
    → ((k : ℕ) → k < places_of shape → (at k).0 < s.terms)
    → IsInRange s (atom_of shape version at)
atom_in_range s Equal version at v h = let a = h 0 (omega arith) in let b = h 1 (omega arith) in
    (omega arith, omega (arith, a, b))
atom_in_range s Btwn version at v h = (v, h 0 (omega arith), h 1 (omega arith), h 2 (omega arith))
atom_in_range s Hop version at v h = (v, h 0 (omega arith), h 1 (omega arith))
atom_in_range s Alloc version at v h = (v, h 0 (omega arith))

row_in_range : (s : Sizes) (version : ℕ) (tuple : List Term) (r : AxiomRow) → Contains table r → version < s.versions
    → length tuple ≡ r.variables
    → All (λ t. t.0 < s.terms) tuple → AreInRange s (clause_over version tuple r.lits)
row_in_range s version tuple r c v long below =
    let front : All (λ t. t.0 < s.terms) (take r.variables tuple) =
    subst (All (λ t. t.0 < s.terms)) (sym (take_all r.variables tuple (omega (arith, long)))) below in
    All-map (λ l. IsInRange s l.atom) (lit_over version tuple) r.lits
    (λ k d l. atom_in_range s (get_or r.lits k d).shape version (term_at tuple (get_or r.lits k d).places) v
    (terms_there r.variables s.terms tuple (get_or r.lits k d) (row_is_among r c k d l) (row_has_three r c k d l)
    (omega (arith, long)) front))

pub instance_in_range : (s : Sizes) (name : InstanceName) → IsInstance s.terms s.versions name
    → AreInRange s (clause_of name)
instance_in_range s name is =
    let f = found_row (row_with name.row table) name.arity is.row in
    let r = f.0 in
    let t = row_in name.row table r f.1 in
    let long : length (tuple_of name) ≡ r.variables = sym (ap (λ m. m.arity) is.padded) ∙ sym f.2 in
    subst (AreInRange s) (sym (ap (clause_with name) f.1))
    (row_in_range s name.version (tuple_of name) r t.0 is.version long is.terms)

-- term 0 past the terms
all_zero : (ts : List Term) → All (λ t. t.0 ≡ 0) ts → ts ≡ replicate (length ts) (term 0)
all_zero [] h = refl
all_zero (t ∷ ts) h =
    let first : t ≡ term 0 = ap term (All-head (λ t. t.0 ≡ 0) t ts h) in
    ap (λ u. u ∷ ts) first ∙ ap (λ us. term 0 ∷ us) (all_zero ts (All-tail (λ t. t.0 ≡ 0) t ts h))

pub padded_by : (name : InstanceName) → length name.terms ≡ 4 → name.arity ≤ 4
    → All (λ t. t.0 ≡ 0) (drop name.arity name.terms) → IsPadded name
padded_by name four few h =
    let tuple = tuple_of name in
    let long : length tuple ≡ name.arity = length-take-le name.arity name.terms (omega (arith, four, few)) in
    let past : length (drop name.arity name.terms) ≡ 4 - length tuple =
    length-drop name.arity name.terms ∙ omega (arith, four, long) in
    let terms : name.terms ≡ tuple ++ replicate (4 - length tuple) (term 0) =
    sym (take-append-drop name.arity name.terms)
    ∙ ap (λ ts. tuple ++ ts) (all_zero (drop name.arity name.terms) h ∙ ap (λ k. replicate k (term 0)) past) in
    ap (λ ts. record name { terms = ts }) terms
    ∙ ap (λ k. record {
      row = name.row;
      version = name.version;
      terms = tuple ++ replicate (4 - length tuple) (term 0);
      arity = k;
    }) (sym long)

pub zero_past : (name : InstanceName) → IsPadded name → All (λ t. t.0 ≡ 0) (drop name.arity name.terms)
zero_past name padded =
    let tuple = tuple_of name in
    let rest = replicate (4 - length tuple) (term 0) in
    let past : drop name.arity name.terms ≡ rest =
    ap (λ m. drop m.arity m.terms) padded ∙ drop_at tuple rest (length tuple) refl in
    subst (All (λ t. t.0 ≡ 0)) (sym past) (All-replicate (λ t. t.0 ≡ 0) (4 - length tuple) (term 0) refl)
