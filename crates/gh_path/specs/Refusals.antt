-- Why the list of conditions isn't given.
use Rattle.std.specs.Prelude.{◌⊎◌, ⊤, ◌+◌, List, Option, MatchOption}
use Rattle.gh_ast.specs.Plain.{Procedure, Program}
use Rattle.gh_ast.specs.declared.typed.Limit as limit
use Rattle.gh_path.specs.Admitted.{most_conditions, most_steps, HasManyPaths, HasManySteps, FirstOf, NoneHas, NoneOf}
use Rattle.gh_path.specs.Admitted.{Passed}
use Rattle.gh_path.specs.declared.listing.ConditionsError.{ConditionsError}
use Rattle.gh_path.specs.declared.listing.ConditionsError.TheVariants.{Limit, OutOfMemory}

-- none: no procedure has too many conditions; or too many steps on a path
abbrev pub IsPathsLimit : Program → List Procedure → Option limit.Limit → Type 0
IsPathsLimit P ps o = MatchOption o (NoneOf ps (HasManyPaths P)) (FirstOf ps (HasManyPaths P) 4 (most_conditions + 1))

abbrev pub IsStepsLimit : Program → List Procedure → Option limit.Limit → Type 0
IsStepsLimit P ps o = MatchOption o (NoneOf ps (HasManySteps P)) (FirstOf ps (HasManySteps P) 5 (most_steps + 1))

-- a procedure with too many conditions; where there is none, a path with too many steps; memory may run out at any time
abbrev pub IsConditionsRefusal : Program → ConditionsError → Type 0
IsConditionsRefusal P (Limit l) =
    Passed P (HasManyPaths P) 4 (most_conditions + 1) l
    ⊎ (NoneHas P (HasManyPaths P) × Passed P (HasManySteps P) 5 (most_steps + 1) l)
IsConditionsRefusal P OutOfMemory = ⊤
