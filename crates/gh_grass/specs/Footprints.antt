-- The ground formulas of an assertion: a term is in its footprint; some part of the heap meets it.
use Rattle.std.specs.Prelude.{ℕ, List, [], ◌∷◌, ◌++◌, length, map, Bool, true, false}
use Rattle.std.specs.List.{flat_map}
use Rattle.gh_base.specs.declared.atom.Term.{Term}
use Rattle.gh_base.specs.declared.atom.Atom.TheVariants.{Btwn, Alloc}
use Rattle.gh_ast.specs.declared.Occ.{Occ}
use Rattle.gh_ast.specs.declared.Operand.{Operand}
use Rattle.gh_ast.specs.declared.Operand.TheVariants.{Null, Var}
use Rattle.gh_ast.specs.declared.Assertion.{Assertion as CodeAssertion}
use Rattle.gh_ast.specs.declared.Cond.{Cond as CodeCond}
use Rattle.gh_ast.specs.declared.Expr.{Expr}
use Rattle.gh_ast.specs.declared.Expr.TheVariants.{Plain, Read}
use Rattle.gh_ast.specs.Plain.{Cond, compare, negation, conjunction, disjunction, Conds, no_conds, cond_first}
use Rattle.gh_ast.specs.Plain.{Assertion, empty, comparison, points_to, cell, segment, star, cases, Assertions}
use Rattle.gh_ast.specs.Plain.{no_assertions, assertion_first, cond_of, assertion_of, assertions_view}
use Rattle.gh_ast.specs.Programs.{Name}
use Rattle.gh_grass.specs.declared.binding.Bond.{Bond}
use Rattle.gh_grass.specs.declared.footprint.Interpretation.{Interpretation}
use Rattle.gh_base.specs.declared.term.TermKind.{TermKind}
use Rattle.gh_base.specs.Atoms.{term, terms_below}
use Rattle.gh_grass.specs.Bindings.{bound_term, next_term}
use Rattle.gh_grass.specs.Claims.{GroundFormula, atom, negation_of, all_of, one_of, equality}

-- the terms of variables
abbrev pub Variables : Type 0
Variables = Name → Term

-- null is term 0
abbrev pub operand_term : Variables → Operand → Term
operand_term b (Null span) = term 0
operand_term b (Var o) = b o.name

-- the tests of assertions have no reads (one would count as null)
abbrev pub plain_term : Variables → Expr → Term
plain_term b (Plain o) = operand_term b o
plain_term b (Read o) = term 0

-- `compared l e r`: l and r are equal where e is true, and differ where it is false
abbrev pub compared : Term → Bool → Term → GroundFormula
compared l true r = equality l r
compared l false r = negation_of (equality l r)

-- the formula of a test
abbrev mutual
  pub tested : Variables → Cond → GroundFormula
  tested b (compare l e r) = compared (plain_term b l) e (plain_term b r)
  tested b (negation t) = negation_of (tested b t)
  tested b (conjunction ts) = all_of (all_tested b ts)
  tested b (disjunction ts) = one_of (all_tested b ts)

  pub all_tested : Variables → Conds → List GroundFormula
  all_tested b no_conds = []
  all_tested b (cond_first t ts) = tested b t ∷ all_tested b ts

-- one of two claims, by a test
abbrev pub by_test : GroundFormula → GroundFormula → GroundFormula → GroundFormula
by_test t f g = one_of (all_of (t ∷ f ∷ []) ∷ all_of (negation_of t ∷ g ∷ []) ∷ [])

-- z is on the way from x to the first y, and isn't y
abbrev pub before_end : ℕ → Term → Term → Term → GroundFormula
before_end i x z y = all_of (atom (Btwn i x z y) ∷ negation_of (equality z y) ∷ [])

-- the term z is in the footprint of an assertion, in version i
abbrev mutual
  pub footprint : Variables → ℕ → Term → Assertion → GroundFormula
  footprint b i z empty = one_of []
  footprint b i z (comparison l e r) = one_of []
  footprint b i z (points_to x y) = equality z (b x.name)
  footprint b i z (cell x) = equality z (b x.name)
  footprint b i z (segment x y) = before_end i (operand_term b x) z (operand_term b y)
  footprint b i z (star fs) = one_of (footprints b i z fs)
  footprint b i z (cases t f g) = by_test (tested b t) (footprint b i z f) (footprint b i z g)

  pub footprints : Variables → ℕ → Term → Assertions → List GroundFormula
  footprints b i z no_assertions = []
  footprints b i z (assertion_first f fs) = footprint b i z f ∷ footprints b i z fs

-- the members of a star
abbrev pub members : Assertions → List Assertion
members no_assertions = []
members (assertion_first f fs) = f ∷ members fs

-- the term z isn't in the footprints of both f and g
abbrev pub apart_here : Variables → ℕ → Assertion → Assertion → Term → GroundFormula
apart_here b i f g z = negation_of (all_of (footprint b i z f ∷ footprint b i z g ∷ []))

-- none of n terms is in the footprints of both f and g
abbrev pub apart : Variables → ℕ → ℕ → Assertion → Assertion → List GroundFormula
apart b i n f g = map (apart_here b i f g) (terms_below n)

-- no term is in the footprints of two members, for each pair of them in order
abbrev pub all_apart : Variables → ℕ → ℕ → List Assertion → List GroundFormula
all_apart b i n [] = []
all_apart b i n (f ∷ fs) = flat_map (apart b i n f) fs ++ all_apart b i n fs

-- there is a cell at x, and its content is y
abbrev pub leads_to : Variables → (Term → Term) → ℕ → Occ → Operand → GroundFormula
leads_to b next i x y = all_of (atom (Alloc i (b x.name)) ∷ equality (next (b x.name)) (operand_term b y) ∷ [])

-- some part of the heap meets the assertion, in version i of n terms; `next` gives the term of a successor in it
abbrev mutual
  pub structure : Variables → (Term → Term) → ℕ → ℕ → Assertion → GroundFormula
  structure b next i n empty = all_of []
  structure b next i n (comparison l e r) = compared (operand_term b l) e (operand_term b r)
  structure b next i n (points_to x y) = leads_to b next i x y
  structure b next i n (cell x) = atom (Alloc i (b x.name))
  structure b next i n (segment x y) = atom (Btwn i (operand_term b x) (operand_term b y) (operand_term b y))
  structure b next i n (star fs) = all_of (structures b next i n fs ++ all_apart b i n (members fs))
  structure b next i n (cases t f g) = by_test (tested b t) (structure b next i n f) (structure b next i n g)

  pub structures : Variables → (Term → Term) → ℕ → ℕ → Assertions → List GroundFormula
  structures b next i n no_assertions = []
  structures b next i n (assertion_first f fs) = structure b next i n f ∷ structures b next i n fs

-- the same of assertions and tests of the code, by the terms of listed names and of listed successors
abbrev pub by_test_of : List Bond → CodeCond → GroundFormula → GroundFormula → GroundFormula
by_test_of bs t f g = by_test (tested (bound_term bs) (cond_of t)) f g

abbrev pub footprint_of : List Bond → ℕ → Term → CodeAssertion → GroundFormula
footprint_of bs i z a = footprint (bound_term bs) i z (assertion_of a)

abbrev pub footprints_of : List Bond → ℕ → Term → List CodeAssertion → List GroundFormula
footprints_of bs i z assertions = footprints (bound_term bs) i z (assertions_view assertions)

abbrev pub leads_to_of : List Bond → List TermKind → ℕ → Occ → Operand → GroundFormula
leads_to_of bs terms i x y = leads_to (bound_term bs) (next_term terms i) i x y

abbrev pub structure_of : List Bond → List TermKind → ℕ → CodeAssertion → GroundFormula
structure_of bs terms i a = structure (bound_term bs) (next_term terms i) i (length terms) (assertion_of a)

abbrev pub structures_of : List Bond → List TermKind → ℕ → List CodeAssertion → List GroundFormula
structures_of bs terms i assertions =
    structures (bound_term bs) (next_term terms i) i (length terms) (assertions_view assertions)

-- .. by an interpretation
abbrev pub apart_here_of : Interpretation → CodeAssertion → CodeAssertion → Term → GroundFormula
apart_here_of u first second z =
    apart_here (bound_term u.binding.now) u.version (assertion_of first) (assertion_of second) z

abbrev pub apart_of : Interpretation → CodeAssertion → CodeAssertion → List GroundFormula
apart_of u first second =
    apart (bound_term u.binding.now) u.version u.terms (assertion_of first) (assertion_of second)

-- .. from each of some others
abbrev pub apart_from : Interpretation → CodeAssertion → List CodeAssertion → List GroundFormula
apart_from u first others =
    flat_map (apart (bound_term u.binding.now) u.version u.terms (assertion_of first)) (map assertion_of others)

abbrev pub all_apart_of : Interpretation → List CodeAssertion → List GroundFormula
all_apart_of u assertions = all_apart (bound_term u.binding.now) u.version u.terms (map assertion_of assertions)
