-- The plain form of ground formulas: each `Vec` is the list of its members.
use Rattle.std.specs.Prelude.{◌≡◌, List, [], ◌∷◌, ◌++◌, map, Vec}
use Rattle.std.specs.Global.{Global}
use Rattle.gh_base.specs.declared.atom.Term.{Term}
use Rattle.gh_base.specs.declared.atom.Atom.{Atom}
use Rattle.gh_base.specs.Atoms.{equation}
use Rattle.gh_grass.specs.declared.formula.Formula.{Formula}
use Rattle.gh_grass.specs.declared.formula.Formula.TheOpen.{Formula-F}
use Rattle.gh_grass.specs.declared.formula.Formula.TheFolds.{fold-Formula}

mutual
  pub data GroundFormula : Type 0 where
    atom : Atom → GroundFormula
    negation_of : GroundFormula → GroundFormula
    conjunction_of : GroundFormulas → GroundFormula
    disjunction_of : GroundFormulas → GroundFormula
    equivalence_of : GroundFormula → GroundFormula → GroundFormula

  pub data GroundFormulas : Type 0 where
    no_ground_formulas : GroundFormulas
    ground_formula_first : GroundFormula → GroundFormulas → GroundFormulas

abbrev pub ground_formulas_of : List GroundFormula → GroundFormulas
ground_formulas_of [] = no_ground_formulas
ground_formulas_of (f ∷ fs) = ground_formula_first f (ground_formulas_of fs)

abbrev pub ground_formula_step : Formula-F GroundFormula → GroundFormula
ground_formula_step (Formula-F.Atom a) = atom a
ground_formula_step (Formula-F.Not b) = negation_of b.value
ground_formula_step (Formula-F.And v) = conjunction_of (ground_formulas_of v.items)
ground_formula_step (Formula-F.Or v) = disjunction_of (ground_formulas_of v.items)
ground_formula_step (Formula-F.Iff b c) = equivalence_of b.value c.value

abbrev pub ground_formula_of : Formula → GroundFormula
ground_formula_of = fold-Formula GroundFormula ground_formula_step

abbrev pub ground_formula_list : List Formula → List GroundFormula
ground_formula_list fs = map ground_formula_of fs

abbrev pub ground_formulas_view : List Formula → GroundFormulas
ground_formulas_view fs = ground_formulas_of (ground_formula_list fs)

-- all of them; the empty list is true
abbrev pub all_of : List GroundFormula → GroundFormula
all_of fs = conjunction_of (ground_formulas_of fs)

-- one of them; the empty list is false
abbrev pub one_of : List GroundFormula → GroundFormula
one_of fs = disjunction_of (ground_formulas_of fs)

-- two terms are equal
abbrev pub equality : Term → Term → GroundFormula
equality a b = atom (equation a b)

-- claims were added to those of some formulas
abbrev pub AddsFormulas : Vec Formula Global → Vec Formula Global → List GroundFormula → Type 0
AddsFormulas old new added = ground_formula_list new.items ≡ ground_formula_list old.items ++ added
