-- The atoms of the formulas of assertions are in range.
use Rattle.std.specs.Prelude.{ℕ, zero, suc, ◌+◌, ◌<◌, ◌≤◌, List, [], ◌∷◌, ◌++◌, map, Bool, true, false}
use Rattle.std.specs.List.{flat_map, range_with_len}
use Rattle.std.proofs.Common.{arith}
use Rattle.gh_base.specs.declared.atom.Term.{Term}
use Rattle.gh_base.specs.declared.sizes.Sizes.{Sizes}
use Rattle.gh_base.specs.Atoms.{term, terms_below}
use Rattle.gh_ast.specs.declared.Operand.{Operand}
use Rattle.gh_ast.specs.declared.Operand.TheVariants.{Null, Var}
use Rattle.gh_ast.specs.declared.Expr.{Expr}
use Rattle.gh_ast.specs.declared.Expr.TheVariants.{Plain, Read}
use Rattle.gh_ast.specs.Plain.{Cond, compare, negation, conjunction, disjunction, Conds, no_conds, cond_first}
use Rattle.gh_ast.specs.Plain.{Assertion, empty, comparison, points_to, cell, segment, star, cases, Assertions}
use Rattle.gh_ast.specs.Plain.{no_assertions, assertion_first}
use Rattle.gh_ast.specs.Programs.{Name}
use Rattle.gh_grass.specs.Claims.{GroundFormula, ground_formulas_of, equality}
use Rattle.gh_grass.specs.Footprints.{Variables, operand_term, plain_term, compared, tested, all_tested, footprint}
use Rattle.gh_grass.specs.Footprints.{footprints, members, apart, all_apart, structure, structures}
use Rattle.gh_reduce.specs.Growth.{IsWithin, AreWithin}

pub joined_within : (s : Sizes) (fs gs : List GroundFormula) → AreWithin s (ground_formulas_of fs)
    → AreWithin s (ground_formulas_of gs) → AreWithin s (ground_formulas_of (fs ++ gs))
joined_within s [] gs h k = k
joined_within s (f ∷ fs) gs h k = (h.0, joined_within s fs gs h.1 k)

range_within : (s : Sizes) (f : Term → GroundFormula) → ((z : Term) → z.0 < s.terms → IsWithin s (f z)) → (a n : ℕ)
    → a + n ≤ s.terms → AreWithin s (ground_formulas_of (map f (map term (range_with_len a n))))
range_within s f h a zero l = tt
range_within s f h a (suc n) l = (h (term a) (omega arith), range_within s f h (a + 1) n (omega arith))

pub below_within : (s : Sizes) (f : Term → GroundFormula) → ((z : Term) → z.0 < s.terms → IsWithin s (f z))
    → AreWithin s (ground_formulas_of (map f (terms_below s.terms)))
below_within s f h = range_within s f h 0 s.terms (omega arith)

pub equality_within : (s : Sizes) (a b : Term) → a.0 < s.terms → b.0 < s.terms → IsWithin s (equality a b)
equality_within s a b h k = (omega arith, omega arith)

pub compared_within : (s : Sizes) (a : Term) (e : Bool) (b : Term) → a.0 < s.terms → b.0 < s.terms
    → IsWithin s (compared a e b)
compared_within s a true b h k = equality_within s a b h k
compared_within s a false b h k = equality_within s a b h k

-- the terms of all names are there, so null is too
pub record AreThere (s : Sizes) (b : Variables) : Type 0 where
  pub names : (x : Name) → (b x).0 < s.terms

some_term : (s : Sizes) (b : Variables) → AreThere s b → 0 < s.terms
some_term s b t = let h = t.names [] in omega (arith, h)

pub operand_there : (s : Sizes) (b : Variables) → AreThere s b → (o : Operand) → (operand_term b o).0 < s.terms
operand_there s b t (Null span) = some_term s b t
operand_there s b t (Var o) = t.names o.name

plain_there : (s : Sizes) (b : Variables) → AreThere s b → (e : Expr) → (plain_term b e).0 < s.terms
plain_there s b t (Plain o) = operand_there s b t o
plain_there s b t (Read o) = some_term s b t

mutual
  pub tested_within : (s : Sizes) (b : Variables) → AreThere s b → (t : Cond) → IsWithin s (tested b t)
  tested_within s b h (compare l e r) =
      compared_within s (plain_term b l) e (plain_term b r) (plain_there s b h l) (plain_there s b h r)
  tested_within s b h (negation t) = tested_within s b h t
  tested_within s b h (conjunction ts) = all_tested_within s b h ts
  tested_within s b h (disjunction ts) = all_tested_within s b h ts

  all_tested_within : (s : Sizes) (b : Variables) → AreThere s b → (ts : Conds)
      → AreWithin s (ground_formulas_of (all_tested b ts))
  all_tested_within s b h no_conds = tt
  all_tested_within s b h (cond_first t ts) = (tested_within s b h t, all_tested_within s b h ts)

mutual
  pub footprint_within : (s : Sizes) (b : Variables) → AreThere s b → (i : ℕ) → i < s.versions → (z : Term)
      → z.0 < s.terms → (f : Assertion) → IsWithin s (footprint b i z f)
  footprint_within s b h i v z l empty = tt
  footprint_within s b h i v z l (comparison a e c) = tt
  footprint_within s b h i v z l (points_to x y) = equality_within s z (b x.name) l (h.names x.name)
  footprint_within s b h i v z l (cell x) = equality_within s z (b x.name) l (h.names x.name)
  footprint_within s b h i v z l (segment x y) =
      let from = operand_there s b h x in
      let to = operand_there s b h y in
      ((v, from, l, to), (equality_within s z (operand_term b y) l to, tt))
  footprint_within s b h i v z l (star fs) = footprints_within s b h i v z l fs
  footprint_within s b h i v z l (cases t f g) =
      let test = tested_within s b h t in
      ((test, (footprint_within s b h i v z l f, tt)), ((test, (footprint_within s b h i v z l g, tt)), tt))

  footprints_within : (s : Sizes) (b : Variables) → AreThere s b → (i : ℕ) → i < s.versions → (z : Term) → z.0 < s.terms
      → (fs : Assertions) → AreWithin s (ground_formulas_of (footprints b i z fs))
  footprints_within s b h i v z l no_assertions = tt
  footprints_within s b h i v z l (assertion_first f fs) =
      (footprint_within s b h i v z l f, footprints_within s b h i v z l fs)

apart_within : (s : Sizes) (b : Variables) → AreThere s b → (i : ℕ) → i < s.versions
    → (f : Assertion) (gs : List Assertion) → AreWithin s (ground_formulas_of (flat_map (apart b i s.terms f) gs))
apart_within s b h i v f [] = tt
apart_within s b h i v f (g ∷ gs) =
    joined_within s (apart b i s.terms f g) (flat_map (apart b i s.terms f) gs)
    (below_within s _ (λ z l. (footprint_within s b h i v z l f, (footprint_within s b h i v z l g, tt))))
    (apart_within s b h i v f gs)

all_apart_within : (s : Sizes) (b : Variables) → AreThere s b → (i : ℕ) → i < s.versions → (fs : List Assertion)
    → AreWithin s (ground_formulas_of (all_apart b i s.terms fs))
all_apart_within s b h i v [] = tt
all_apart_within s b h i v (f ∷ fs) =
    joined_within s (flat_map (apart b i s.terms f) fs) (all_apart b i s.terms fs) (apart_within s b h i v f fs)
    (all_apart_within s b h i v fs)

mutual
  pub structure_within : (s : Sizes) (b : Variables) → AreThere s b → (next : Term → Term)
      → ((t : Term) → (next t).0 < s.terms) → (i : ℕ) → i < s.versions → (f : Assertion)
      → IsWithin s (structure b next i s.terms f)
  structure_within s b h next k i v empty = tt
  structure_within s b h next k i v (comparison a e c) =
      compared_within s (operand_term b a) e (operand_term b c) (operand_there s b h a) (operand_there s b h c)
  structure_within s b h next k i v (points_to x y) = (
    (v, h.names x.name),
    (
      equality_within s (next (b x.name)) (operand_term b y) (k (b x.name))
          (operand_there s b h y),
      tt,
    ),
  )
  structure_within s b h next k i v (cell x) = (v, h.names x.name)
  structure_within s b h next k i v (segment x y) = let to = operand_there s b h y in (v, operand_there s b h x, to, to)
  structure_within s b h next k i v (star fs) =
      joined_within s (structures b next i s.terms fs) (all_apart b i s.terms (members fs))
      (structures_within s b h next k i v fs) (all_apart_within s b h i v (members fs))
  structure_within s b h next k i v (cases t f g) =
      let test = tested_within s b h t in
      ((test, (structure_within s b h next k i v f, tt)), ((test, (structure_within s b h next k i v g, tt)), tt))

  structures_within : (s : Sizes) (b : Variables) → AreThere s b → (next : Term → Term)
      → ((t : Term) → (next t).0 < s.terms) → (i : ℕ) → i < s.versions → (fs : Assertions)
      → AreWithin s (ground_formulas_of (structures b next i s.terms fs))
  structures_within s b h next k i v no_assertions = tt
  structures_within s b h next k i v (assertion_first f fs) =
      (structure_within s b h next k i v f, structures_within s b h next k i v fs)
