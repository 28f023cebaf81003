-- What the search for an undeclared variable looks for.
use Rattle.std.specs.Prelude.{◌≡◌, ℕ, List, Option, map}
use Rattle.gh_base.specs.declared.place.Span.{Span}
use Rattle.gh_ast.specs.declared.Occ.{Occ}
use Rattle.gh_ast.specs.Rules.{HasName}
use Rattle.gh_types.specs.Faults.{IsFirstIn}
use Rattle.gh_types.specs.Tables.{Table, IsTableOf}
use Rattle.gh_types.specs.declared.fault.Fault.{Fault}

-- the error of an occurrence that names none of these variables
abbrev pub UndeclaredErrors : List Occ → Occ → ℕ → Span → Type 0
UndeclaredErrors vs o n s = (n ≡ 1) × (o.span ≡ s) × (HasName vs o.name → ⊥)

-- what was found is the first such error of some occurrences, whatever variables the table is of
abbrev pub IsFirstUndeclared : Table → List Occ → Option Fault → Type 0
IsFirstUndeclared table os found =
    (vs : List Occ) → IsTableOf (map (λ o. o.name) vs) table → IsFirstIn (UndeclaredErrors vs) os found
