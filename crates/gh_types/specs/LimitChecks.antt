-- What each part of the search for a passed limit looks for.
use Rattle.std.specs.Prelude.{◌≡◌, ℕ, ◌<◌, ◌≤◌, List, length, All, Option, MatchOption}
use Rattle.gh_ast.specs.declared.typed.Limit.{Limit}
use Rattle.gh_ast.specs.Limits.{reported, atom_counts, most_procedures, most_variables, most_atoms, ProceduresPassed}
use Rattle.gh_ast.specs.Limits.{VariablesPassed, AtomsPassed}
use Rattle.gh_ast.specs.Lists.{IsFirstWith}
use Rattle.gh_ast.specs.Occurrences.{variables_of}
use Rattle.gh_ast.specs.Plain.{Procedure}

-- the first number of a list that is over the limit on atoms, as it is reported
pub record IsFirstMany (ns : List ℕ) (number : ℕ) : Type 0 where
  pub many : ℕ
  pub first : IsFirstWith (λ n. most_atoms < n) ns many
  pub count : number ≡ reported many

-- what a search for the first such number finds in a list
pub record FindsMany (ns : List ℕ) (found : Option ℕ) : Type 0 where
  pub says : MatchOption found (All (λ n. n ≤ most_atoms) ns) (IsFirstMany ns)

-- whether a limit is passed, and by what
abbrev pub IsProceduresLimit : List Procedure → Option Limit → Type 0
IsProceduresLimit ps found = MatchOption found (length ps ≤ most_procedures) (ProceduresPassed ps)

abbrev pub IsVariablesLimit : List Procedure → Option Limit → Type 0
IsVariablesLimit ps found =
    MatchOption found (All (λ q. length (variables_of q) ≤ most_variables) ps) (VariablesPassed ps)

abbrev pub IsAtomsLimit : List Procedure → Option Limit → Type 0
IsAtomsLimit ps found = MatchOption found (All (λ q. All (λ n. n ≤ most_atoms) (atom_counts q)) ps) (AtomsPassed ps)
