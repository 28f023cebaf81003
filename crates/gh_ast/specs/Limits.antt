-- The limits on a program's text: its procedures, the variables of a procedure, the atoms of what it requires,
-- ensures or keeps in a loop.
use Rattle.std.specs.Prelude.{◌≡◌, ℕ, ◌+◌, ◌<◌, ◌≤◌, List, [], ◌∷◌, ◌++◌, length, map, sum, Option, None, Some, All}
use Rattle.std.specs.Prelude.{Any, min}
use Rattle.std.specs.List.{HoldsAt}
use Rattle.gh_ast.specs.Plain.{Cond, compare, negation, conjunction, disjunction, Conds, no_conds, cond_first}
use Rattle.gh_ast.specs.Plain.{Assertion, star, cases, Assertions, no_assertions, assertion_first}
use Rattle.gh_ast.specs.Plain.{Statement, if, while, Statements, no_statements, statement_first, Body, Procedure}
use Rattle.gh_ast.specs.Plain.{Program}
use Rattle.gh_ast.specs.Lists.{IsFirstWith}
use Rattle.gh_ast.specs.Occurrences.{variables_of}
use Rattle.gh_ast.specs.declared.typed.Limit.{Limit}

abbrev mutual
  -- how many comparisons a test has
  pub cond_atoms : Cond → ℕ
  cond_atoms (compare l e r) = 1
  cond_atoms (negation t) = cond_atoms t
  cond_atoms (conjunction ts) = conds_atoms ts
  cond_atoms (disjunction ts) = conds_atoms ts

  pub conds_atoms : Conds → ℕ
  conds_atoms no_conds = 0
  conds_atoms (cond_first t ts) = cond_atoms t + conds_atoms ts

abbrev mutual
  -- how many atoms an assertion has: `emp`, cells, segments, points-to and comparisons, those in tests of cases too
  pub atoms : Assertion → ℕ
  atoms (star fs) = all_atoms fs
  atoms (cases t a b) = cond_atoms t + atoms a + atoms b
  atoms _ = 1

  pub all_atoms : Assertions → ℕ
  all_atoms no_assertions = 0
  all_atoms (assertion_first f fs) = atoms f + all_atoms fs

abbrev mutual
  -- the invariants in a statement, in the order of the text
  pub invariants_in : Statement → List Assertion
  invariants_in (if t a ca b cb) = all_invariants_in a ++ all_invariants_in b
  invariants_in (while s t i b cb) = i ∷ all_invariants_in b
  invariants_in _ = []

  pub all_invariants_in : Statements → List Assertion
  all_invariants_in no_statements = []
  all_invariants_in (statement_first s ss) = invariants_in s ++ all_invariants_in ss

abbrev pub invariants_in_body : Option Body → List Assertion
invariants_in_body None = []
invariants_in_body (Some b) = all_invariants_in b.statements

-- how many atoms stand in what a procedure requires, in all alternatives of what it ensures together, and in each
-- invariant
abbrev pub atom_counts : Procedure → List ℕ
atom_counts q = atoms q.needs ∷ sum (map atoms q.gives) ∷ map atoms (invariants_in_body q.body)

-- the longest program text, in bytes
abbrev pub most_bytes : ℕ
most_bytes = 1048576

-- the most procedures of a program, variables of a procedure, and atoms of an assertion
abbrev pub most_procedures : ℕ
most_procedures = 256

abbrev pub most_variables : ℕ
most_variables = 32

abbrev pub most_atoms : ℕ
most_atoms = 32

-- the procedure has too many variables; one of its numbers of atoms is too great
abbrev pub HasManyVariables : Procedure → Type 0
HasManyVariables q = most_variables < length (variables_of q)

abbrev pub HasManyAtomsSomewhere : Procedure → Type 0
HasManyAtomsSomewhere q = Any (λ n. most_atoms < n) (atom_counts q)

-- the whole program keeps one limit: that on procedures, that on variables, that on atoms
abbrev pub AreFew : Program → Type 0
AreFew p = length p.procedures ≤ most_procedures

abbrev pub HaveFewVariables : Program → Type 0
HaveFewVariables p = All (λ q. length (variables_of q) ≤ most_variables) p.procedures

abbrev pub HaveFewAtoms : Program → Type 0
HaveFewAtoms p = All (λ q. All (λ n. n ≤ most_atoms) (atom_counts q)) p.procedures

-- each quantity is at most its limit
pub record KeepsLimits (p : Program) : Type 0 where
  pub procedures : AreFew p
  pub variables : HaveFewVariables p
  pub atoms : HaveFewAtoms p

-- a number as it is reported: the greatest number of 32 bits stands for each greater one
abbrev pub reported : ℕ → ℕ
reported n = min n 4294967295

-- more than 256 procedures: the place is that of the 257th procedure's name
pub record ProceduresPassed (ps : List Procedure) (l : Limit) : Type 0 where
  pub kind : l.kind ≡ 1
  pub passed : most_procedures < length ps
  pub span : HoldsAt (λ q. q.name.span ≡ l.span) ps most_procedures
  pub count : l.count ≡ reported (length ps)

-- the first procedure with more than 32 variables
pub record VariablesPassed (ps : List Procedure) (l : Limit) : Type 0 where
  pub kind : l.kind ≡ 2
  pub procedure : Procedure
  pub first : IsFirstWith HasManyVariables ps procedure
  pub span : procedure.name.span ≡ l.span
  pub count : l.count ≡ reported (length (variables_of procedure))

-- the first procedure with more than 32 atoms in what it requires, in what it ensures or in an invariant, and the
-- first of its numbers of atoms that is so great
pub record AtomsPassed (ps : List Procedure) (l : Limit) : Type 0 where
  pub kind : l.kind ≡ 3
  pub procedure : Procedure
  pub number : ℕ
  pub first : IsFirstWith HasManyAtomsSomewhere ps procedure
  pub first_there : IsFirstWith (λ n. most_atoms < n) (atom_counts procedure) number
  pub span : procedure.name.span ≡ l.span
  pub count : l.count ≡ reported number

-- the limit that is answered: procedures before variables, and variables before atoms, over the whole program
pub data IsLimit (p : Program) (l : Limit) : Type 0 where
  of_procedures : ProceduresPassed p.procedures l → IsLimit p l
  of_variables : AreFew p → VariablesPassed p.procedures l → IsLimit p l
  of_atoms : AreFew p → HaveFewVariables p → AtomsPassed p.procedures l → IsLimit p l
