-- The fifteen axiom rows.
use Rattle.std.specs.Prelude.{ℕ, nat_eq, cond, List, [], ◌∷◌, true, false, Option, Some, None}
use Rattle.gh_inst.specs.declared.schema.Shape.TheVariants.{Equal, Btwn, Hop, Alloc}
use Rattle.gh_inst.specs.declared.schema.Pattern.{Pattern}
use Rattle.gh_inst.specs.declared.table.Row.{Row}
use Rattle.gh_inst.specs.declared.table.Row.TheVariants.{OneOne, TwoTwo, TwoThree, ThreeTwo, ThreeThree, ThreeFour}
use Rattle.gh_inst.specs.declared.table.Row.TheVariants.{FourThree}

-- literals over the variables 0, 1, .. of a row
abbrev pub equal : ℕ → ℕ → Pattern
equal x y = record { shape = Equal; positive = true; places = x ∷ y ∷ 0 ∷ [] }

abbrev pub btwn : ℕ → ℕ → ℕ → Pattern
btwn x y z = record { shape = Btwn; positive = true; places = x ∷ y ∷ z ∷ [] }

abbrev pub hop : ℕ → ℕ → Pattern
hop x v = record { shape = Hop; positive = true; places = x ∷ v ∷ 0 ∷ [] }

abbrev pub alloc : ℕ → Pattern
alloc x = record { shape = Alloc; positive = true; places = x ∷ 0 ∷ 0 ∷ [] }

abbrev pub negated : Pattern → Pattern
negated p = record p { positive = false }

pub record AxiomRow : Type 0 where
  pub number : ℕ
  pub variables : ℕ
  pub lits : List Pattern

abbrev pub row : ℕ → ℕ → List Pattern → AxiomRow
row number variables lits = record { number = number; variables = variables; lits = lits }

abbrev pub table : List AxiomRow
table =
    -- x
    row 1 1 (btwn 0 0 0 ∷ [])
    -- x y
    ∷ row 2 2 (negated (btwn 0 1 0) ∷ equal 0 1 ∷ [])
    -- x y z
    ∷ row 3 3 (negated (btwn 0 1 1) ∷ negated (btwn 0 2 2) ∷ btwn 0 1 2 ∷ btwn 0 2 1 ∷ [])
    ∷ row 4 3 (negated (btwn 0 1 2) ∷ btwn 0 1 1 ∷ [])
    ∷ row 5 3 (negated (btwn 0 1 2) ∷ btwn 1 2 2 ∷ [])
    ∷ row 6 3 (negated (btwn 0 1 1) ∷ negated (btwn 1 2 2) ∷ btwn 0 2 2 ∷ [])
    -- x y u z
    ∷ row 7 4 (negated (btwn 0 1 3) ∷ negated (btwn 1 2 3) ∷ btwn 0 1 2 ∷ [])
    ∷ row 8 4 (negated (btwn 0 1 3) ∷ negated (btwn 1 2 3) ∷ btwn 0 2 3 ∷ [])
    ∷ row 9 4 (negated (btwn 0 1 3) ∷ negated (btwn 0 2 1) ∷ btwn 0 2 3 ∷ [])
    ∷ row 10 4 (negated (btwn 0 1 3) ∷ negated (btwn 0 2 1) ∷ btwn 2 1 3 ∷ [])
    -- x v
    ∷ row 11 2 (negated (hop 0 1) ∷ btwn 0 1 1 ∷ [])
    -- x v w
    ∷ row 12 3 (negated (hop 0 1) ∷ negated (btwn 0 2 2) ∷ equal 2 0 ∷ btwn 0 1 2 ∷ [])
    -- x y
    ∷ row 13 2 (alloc 0 ∷ negated (btwn 0 1 1) ∷ equal 0 1 ∷ [])
    -- x w
    ∷ row 14 2 (negated (hop 0 0) ∷ negated (btwn 0 1 1) ∷ equal 1 0 ∷ [])
    -- x v
    ∷ row 15 2 (negated (hop 0 1) ∷ alloc 0 ∷ [])
    ∷ []

-- the row of a number
abbrev pub row_with : ℕ → List AxiomRow → Option AxiomRow
row_with number [] = None
row_with number (r ∷ rs) = cond (nat_eq r.number number) (Some r) (row_with number rs)

-- the variables and literals of a row in the code
abbrev pub variables_of : Row → ℕ
variables_of (OneOne s) = 1
variables_of (TwoTwo s) = 2
variables_of (TwoThree s) = 2
variables_of (ThreeTwo s) = 3
variables_of (ThreeThree s) = 3
variables_of (ThreeFour s) = 3
variables_of (FourThree s) = 4

abbrev pub lits_of : Row → List Pattern
lits_of (OneOne s) = s.lits
lits_of (TwoTwo s) = s.lits
lits_of (TwoThree s) = s.lits
lits_of (ThreeTwo s) = s.lits
lits_of (ThreeThree s) = s.lits
lits_of (ThreeFour s) = s.lits
lits_of (FourThree s) = s.lits

-- the row of the table that a row in the code is
abbrev pub row_of : ℕ → Row → AxiomRow
row_of number r = row number (variables_of r) (lits_of r)
