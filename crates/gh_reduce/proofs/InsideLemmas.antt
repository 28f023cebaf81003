-- Conditions over terms as they are kept and as plain values, and what is stated of their parts.
use Rattle.std.specs.Prelude.{◌≡◌, ℕ, ◌<◌, List, [], ◌∷◌, map, length, Bool, true, false, Option, Some, None, cond}
use Rattle.std.specs.Prelude.{position, unwrap_or, nat_lt}
use Rattle.std.specs.List.{position_or_len}
use Rattle.std.specs.Option.{option_map}
use Rattle.std.proofs.Common.{refl, sym, ◌∙◌, ap, subst, arith}
use Rattle.std.proofs.lemmas.List.{length-map}
use Rattle.gh_base.specs.declared.atom.Term.{Term}
use Rattle.gh_base.specs.declared.term.TermKind.{TermKind}
use Rattle.gh_base.specs.declared.term.TermKind.TheVariants.{Null, Value, Next}
use Rattle.gh_base.specs.declared.sizes.Sizes.{Sizes}
use Rattle.gh_base.specs.Atoms.{term, terms_below}
use Rattle.gh_ast.specs.Plain.{assertion_of}
use Rattle.gh_path.specs.Terms.{Kind, next, same_kind}
use Rattle.gh_grass.specs.declared.binding.Bond.{Bond}
use Rattle.gh_grass.specs.Bindings.{term_in, bound_term, is_next, next_term}
use Rattle.gh_grass.specs.Claims.{ground_formulas_of}
use Rattle.gh_grass.specs.Footprints.{Variables, structure, footprint}
use Rattle.gh_symb.specs.Symbolic.{Under}
use Rattle.gh_symb.specs.Formulas.{variables, successor, within, meets, meets_whole, covers}
use Rattle.gh_symb.specs.Encodings.{plain_kind}
use Rattle.gh_symb.specs.declared.over_terms.BoundAssertion.{BoundAssertion}
use Rattle.gh_reduce.specs.Growth.{IsWithin, AreWithin}
use Rattle.gh_symb.specs.Inside.{binding_of, under_of, IsUnderInside}
use Rattle.gh_symb.proofs.EncodedLemmas.{same_function}
use Rattle.gh_reduce.proofs.WithinLemmas.{AreThere, footprint_within, structure_within, below_within}

pub variables_are : (bonds : List Bond) → variables (binding_of bonds) ≡ bound_term bonds
variables_are bonds = same_function (variables (binding_of bonds)) (bound_term bonds) (λ x. at_term (term_in bonds x))
  where
    at_term : (o : Option Term) → term (unwrap_or (option_map (λ (t : Term). t.0) o) 0) ≡ unwrap_or o (term 0)
    at_term None = refl
    at_term (Some t) = refl

kind_same : (i : ℕ) (x : Term) (k : TermKind) → same_kind (next i x.0) (plain_kind k) ≡ is_next i x k
kind_same i x Null = refl
kind_same i x (Value n) = refl
kind_same i x (Next j y) = refl

place_same : (i : ℕ) (x : Term) (ks : List TermKind)
    → position_or_len (same_kind (next i x.0)) (map plain_kind ks) ≡ position_or_len (is_next i x) ks
place_same i x [] = refl
place_same i x (k ∷ ks) = rw (kind_same i x k, place_same i x ks) refl

position_same : (i : ℕ) (x : Term) (ks : List TermKind)
    → position (same_kind (next i x.0)) (map plain_kind ks) ≡ position (is_next i x) ks
position_same i x ks = rw (place_same i x ks, length-map ks plain_kind) refl

pub successor_is : (ks : List TermKind) (i : ℕ) → successor (map plain_kind ks) i ≡ next_term ks i
successor_is ks i =
    same_function (successor (map plain_kind ks) i) (next_term ks i)
    (λ x. ap (λ (o : Option ℕ). term (unwrap_or o 0)) (position_same i x ks))

pub within_is : (b : BoundAssertion) (z : Term)
    → footprint (bound_term b.binding) b.version z (assertion_of b.assertion.now) ≡ within (under_of b) z
within_is b z =
    ap (λ (v : Variables). footprint v b.version z (assertion_of b.assertion.now)) (sym (variables_are b.binding))

pub meets_is : (ks : List TermKind) (b : BoundAssertion) →
    structure (bound_term b.binding) (next_term ks b.version) b.version (length ks) (assertion_of b.assertion.now)
    ≡ meets (map plain_kind ks) (under_of b)
meets_is ks b =
    ap (λ (v : Variables). structure v (next_term ks b.version) b.version (length ks) (assertion_of b.assertion.now))
    (sym (variables_are b.binding))
    ∙ ap (λ (n : Term → Term). structure (variables (binding_of b.binding)) n b.version (length ks)
    (assertion_of b.assertion.now)) (sym (successor_is ks b.version))
    ∙ ap (λ (n : ℕ). structure (variables (binding_of b.binding)) (successor (map plain_kind ks) b.version) b.version n
    (assertion_of b.assertion.now)) (sym (length-map ks plain_kind))

-- the term of a successor is there
successor_there : (n : ℕ) (ks : List Kind) (i : ℕ) → n ≡ length ks → 0 < n → (t : Term) → (successor ks i t).0 < n
successor_there n ks i e some t = at_place (position_or_len (same_kind (next i t.0)) ks)
  where
    by_test : (b : Bool) (p : ℕ) → (b ≡ true → p < length ks) → unwrap_or (cond b (Some p) None) 0 < n
    by_test true p h = let l = h refl in omega (arith, l)
    by_test false p h = some

    less : (p : ℕ) → nat_lt p (length ks) ≡ true → p < length ks
    less p h = grind arith

    at_place : (p : ℕ) → unwrap_or (cond (nat_lt p (length ks)) (Some p) None) 0 < n
    at_place p = by_test (nat_lt p (length ks)) p (less p)

abbrev there_of : (s : Sizes) (u : Under) → IsUnderInside s.terms s.versions u → AreThere s (variables u.binding)
there_of s u h = record { names = h.terms }

pub under_within : (s : Sizes) (u : Under) → IsUnderInside s.terms s.versions u → (z : Term) → z.0 < s.terms
    → IsWithin s (within u z)
under_within s u h z l = footprint_within s (variables u.binding) (there_of s u h) u.version h.version z l u.assertion

pub meets_within : (s : Sizes) (ks : List Kind) (u : Under) → s.terms ≡ length ks → 0 < s.terms
    → IsUnderInside s.terms s.versions u → IsWithin s (meets ks u)
meets_within s ks u e some h =
    subst (λ (n : ℕ). IsWithin s (structure (variables u.binding) (successor ks u.version) u.version n u.assertion)) e
    (structure_within s (variables u.binding) (there_of s u h) (successor ks u.version)
    (successor_there s.terms ks u.version e some) u.version h.version u.assertion)

pub whole_within : (s : Sizes) (ks : List Kind) (u : Under) → s.terms ≡ length ks → 0 < s.terms
    → IsUnderInside s.terms s.versions u → IsWithin s (meets_whole ks u)
whole_within s ks u e some h = (
  meets_within s ks u e some h,
  subst (λ (n : ℕ). AreWithin s (ground_formulas_of (map (covers u) (terms_below n)))) e
      (below_within s (covers u) (λ z l. ((h.version, l), under_within s u h z l))),
)
