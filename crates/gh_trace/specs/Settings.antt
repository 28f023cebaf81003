-- The procedure that a condition is of, with its loops.
use Rattle.std.specs.Prelude.{◌≡◌, ◌≢◌, ◌++◌, List, map, Option, Some, None, AllPairs}
use Rattle.gh_ast.specs.declared.Expr.{Expr}
use Rattle.gh_ast.specs.Plain.{procedure_of, program_of, Procedure, Program}
use Rattle.gh_ast.specs.Programs.{Name, parameters_of, results_of, variable_names}
use Rattle.gh_assert.specs.Meaning.{Store}
use Rattle.gh_assert.specs.Stores.{store_of}
use Rattle.gh_assert.specs.Values.{Give}
use Rattle.gh_assert.specs.declared.store.Entry.{Entry}
use Rattle.gh_path.specs.Graphs.{loops_of}
use Rattle.gh_path.specs.Walking.{loop_of}
use Rattle.gh_trace.specs.Traces.{State}
use Rattle.gh_trace.specs.declared.setting.Setting.{Setting}

-- the program
abbrev pub whole : Setting → Program
whole s = program_of s.typed.now

-- the procedure that the setting is in
abbrev pub here : Setting → Procedure
here s = procedure_of s.procedure.now

-- and its variables
abbrev pub variables_here : Setting → List Name
variables_here s = variable_names (here s)

-- the loops are those of the procedure
abbrev pub HasLoops : Setting → Type 0
HasLoops s = map loop_of s.loops.now ≡ loops_of (here s)

-- no two parameters or results have one name
abbrev pub HasDistinctNames : Procedure → Type 0
HasDistinctNames p = AllPairs (λ x y. x ≢ y) (parameters_of p ++ results_of p)

-- the parameters have the values that the arguments have in the state
abbrev pub IsEntered : Procedure → List Expr → State → Store → Type 0
IsEntered p es x inside = Give x.store x.heap es (map inside (parameters_of p))

-- no store gives them these values
abbrev pub IsNeverEntered : Procedure → List Expr → State → Type 0
IsNeverEntered p es x = (inside : Store) → IsEntered p es x inside → ⊥

-- a store that gives them these values, or none where there is no such store
abbrev pub IsEnteredOr : Procedure → List Expr → State → Option (List Entry) → Type 0
IsEnteredOr p es x (Some entries) = IsEntered p es x (store_of entries)
IsEnteredOr p es x None = IsNeverEntered p es x
