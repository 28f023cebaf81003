-- What is said of some terms, versions and assertions as they are encoded.
use Rattle.std.specs.Prelude.{◌≡◌, ℕ, ◌-◌, List, [], ◌∷◌, map, IfOk}
use Rattle.std.specs.declared.result.Result.{Result}
use Rattle.std.specs.declared.alloc.AllocError.{AllocError}
use Rattle.gh_ast.specs.Plain.{Procedure, Program}
use Rattle.gh_base.specs.declared.atom.Term.{Term}
use Rattle.gh_base.specs.declared.term.TermKind.{TermKind}
use Rattle.gh_base.specs.Grounds.{Problem}
use Rattle.gh_grass.specs.Claims.{GroundFormula, negation_of, one_of}
use Rattle.gh_path.specs.Conditions.{Condition}
use Rattle.gh_path.specs.Terms.{Kind}
use Rattle.gh_symb.specs.Encoded.{IsSymbolic}
use Rattle.gh_symb.specs.Formulas.{allocated, hops, meets_whole, meets_one_of, new_formulas, check_formulas}
use Rattle.gh_symb.specs.Formulas.{step_formulas, steps_formulas, versions_formulas, problem}
use Rattle.gh_symb.specs.Inside.{check_of, step_of, under_of}
use Rattle.gh_symb.specs.Symbolic.{symbolic_of}
use Rattle.gh_symb.specs.declared.over_terms.Symbolic.{Symbolic}
use Rattle.gh_symb.specs.declared.over_terms.BoundAssertion.{BoundAssertion}
use Rattle.gh_symb.specs.declared.over_terms.TermCheck.{TermCheck}
use Rattle.gh_symb.specs.declared.over_terms.TermStep.{TermStep}
use Rattle.gh_reduce.specs.Rows.{kinds_of}

-- where a term is allocated, it leads to the next term
abbrev pub next_where_allocated : ℕ → Term → Term → GroundFormula
next_where_allocated i x next = one_of (negation_of (allocated i x) ∷ hops i x next ∷ [])

-- the whole heap meets one of some assertions
abbrev pub one_is_met : List Kind → List BoundAssertion → GroundFormula
one_is_met ks bounds = one_of (map (meets_whole ks) (map under_of bounds))

-- the whole heap meets none of some alternatives
abbrev pub none_is_met : List Kind → List BoundAssertion → List GroundFormula
none_is_met ks bounds = map negation_of (meets_one_of ks (map under_of bounds))

-- what holds in each version of a problem
abbrev pub all_versions : Problem → List TermKind → List GroundFormula
all_versions p terms = versions_formulas (kinds_of terms) p.sizes.versions

-- a cell is made, from version i of a problem to the next
abbrev pub cell_made : Problem → ℕ → Term → Term → List GroundFormula
cell_made p i location content = new_formulas p.sizes.terms i location content

-- the check fails in the last version of a problem
abbrev pub check_fails : Problem → List TermKind → TermCheck → List GroundFormula
check_fails p terms check = check_formulas (kinds_of terms) (p.sizes.versions - 1) (check_of check)

-- what a step from version i says
abbrev pub step_stated : List Kind → ℕ → TermStep → List GroundFormula
step_stated ks i step = step_formulas ks i (step_of step)

-- what the steps of a condition say, from its first version on
abbrev pub steps_stated : List Kind → List TermStep → List GroundFormula
steps_stated ks steps = steps_formulas ks 0 (map step_of steps)

-- where y is the form over terms of a condition of some program, the result has that condition's clauses
abbrev pub TellsProblem : Symbolic → Result Problem AllocError → Type 0
TellsProblem y result =
    (P : Program) (proc : Procedure) (c : Condition) → IsSymbolic P proc c y
    → IfOk result (λ q. q ≡ problem (symbolic_of P proc c))
