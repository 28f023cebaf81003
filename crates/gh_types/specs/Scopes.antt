-- The errors in the procedure of a scope.
use Rattle.std.specs.Prelude.{ℕ, List, Option, map}
use Rattle.gh_base.specs.declared.place.Span.{Span}
use Rattle.gh_ast.specs.declared.Occ.{Occ}
use Rattle.gh_ast.specs.Plain.{Procedure, procedure_of}
use Rattle.gh_ast.specs.Occurrences.{Site}
use Rattle.gh_types.specs.Checks.{OccurrenceErrors, SiteErrors, ProcedureErrors}
use Rattle.gh_types.specs.Faults.{IsFirstIn}
use Rattle.gh_types.specs.declared.fault.Fault.{Fault}
use Rattle.gh_types.specs.declared.scope.Scope.{Scope}
use Rattle.gh_types.specs.declared.scope.Setting.{Setting}

-- the errors of an occurrence in the procedure of a scope, and those of a site
abbrev pub OccurrenceErrorsIn : Scope → Setting → Occ → ℕ → Span → Type 0
OccurrenceErrorsIn scope = OccurrenceErrors (procedure_of scope.own.now)

abbrev pub SiteErrorsIn : Scope → Site → ℕ → Span → Type 0
SiteErrorsIn scope = SiteErrors (map procedure_of scope.procedures.now) (procedure_of scope.own.now)

-- what was found is the first error of some sites, or there is none
abbrev pub IsFirstAt : Scope → List Site → Option Fault → Type 0
IsFirstAt scope sites found = IsFirstIn (SiteErrorsIn scope) sites found

-- what was found is the first error of some procedures, each judged among all of them, or there is none
abbrev pub IsFirstInEach : List Procedure → Option Fault → Type 0
IsFirstInEach procedures found = IsFirstIn (ProcedureErrors procedures) procedures found

abbrev pub ProcedureErrorsIn : Scope → ℕ → Span → Type 0
ProcedureErrorsIn scope = ProcedureErrors (map procedure_of scope.procedures.now) (procedure_of scope.own.now)
