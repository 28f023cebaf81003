-- What each part of the check looks for.
use Rattle.std.specs.Borrow.{Bor}
use Rattle.std.specs.Prelude.{◌≡◌, ◌≢◌, ℕ, ◌⊎◌, List, ◌++◌, Any, Bool, true, map, codes, Option, MatchOption}
use Rattle.gh_base.specs.declared.place.Span.{Span}
use Rattle.gh_ast.specs.declared.Occ.{Occ}
use Rattle.gh_ast.specs.declared.Field.{Field}
use Rattle.gh_ast.specs.declared.Procedure as kept
use Rattle.gh_ast.specs.Plain.{Procedure, Program, procedure_of}
use Rattle.gh_ast.specs.Programs.{IsFirstNamed}
use Rattle.gh_ast.specs.Occurrences.{Site, mentioned, assigned, called, returned, sites_in_body, in_assertion}
use Rattle.gh_ast.specs.Occurrences.{in_alternatives, locals_of, variables_of}
use Rattle.gh_ast.specs.Rules.{HasName, RepeatedAt, WrongCount, UnknownProcedure, ReturnInLoop, SecondLink, DataField}
use Rattle.gh_ast.specs.Rules.{NoLink, NoBody}
use Rattle.gh_types.specs.declared.scope.Setting.{Setting}
use Rattle.gh_types.specs.declared.scope.Setting.TheVariants.{Requires, Ensures, Inside}

-- the name of a variable that may not stand in this setting
abbrev pub Forbidden : Procedure → Setting → List ℕ → Type 0
Forbidden q Requires name = HasName (q.results ++ locals_of q) name
Forbidden q Ensures name = HasName (locals_of q) name
Forbidden q Inside name = ⊥

-- what a name means among some procedures: the first of that name, if there is one
abbrev pub IsMeant : List Procedure → List ℕ → Option (Bor kept.Procedure) → Type 0
IsMeant ps name found =
    MatchOption found (Any (λ r. r.name.name ≡ name) ps → ⊥) (λ r. IsFirstNamed ps name (procedure_of r.now))

-- the errors of an occurrence: it names no variable, or one that may not stand in this setting
abbrev pub OccurrenceErrors : Procedure → Setting → Occ → ℕ → Span → Type 0
OccurrenceErrors q setting o n s =
    ((n ≡ 1) × (o.span ≡ s) × (HasName (variables_of q) o.name → ⊥))
    ⊎ ((n ≡ 9) × (o.span ≡ s) × Forbidden q setting o.name)

-- the errors of names that stand earlier in a list
abbrev pub RepeatErrors : ℕ → List Occ → ℕ → Span → Type 0
RepeatErrors number os n s = (n ≡ number) × RepeatedAt os s

-- the errors of a target that is a parameter
abbrev pub ParameterErrors : Procedure → Occ → ℕ → Span → Type 0
ParameterErrors q t n s = (n ≡ 3) × (t.span ≡ s) × HasName q.parameters t.name

-- the errors of the targets of one statement
abbrev pub TargetErrors : Procedure → List Occ → ℕ → Span → Type 0
TargetErrors q ts n s =
    Any (λ t. ParameterErrors q t n s) ts ⊎ RepeatErrors 10 ts n s

-- the errors of a site in a body
abbrev pub SiteErrors : List Procedure → Procedure → Site → ℕ → Span → Type 0
SiteErrors ps q (mentioned o) n s = OccurrenceErrors q Inside o n s
SiteErrors ps q (assigned ts) n s = TargetErrors q ts n s
SiteErrors ps q (called ts c es) n s =
    ((n ≡ 4) × WrongCount ps q (called ts c es) s) ⊎ ((n ≡ 6) × UnknownProcedure ps q (called ts c es) s)
SiteErrors ps q (returned inside w es) n s =
    ((n ≡ 4) × WrongCount ps q (returned inside w es) s) ⊎ ((n ≡ 5) × ReturnInLoop q (returned inside w es) s)

-- the errors of a procedure: of its variables, its contract, its body
abbrev pub ProcedureErrors : List Procedure → Procedure → ℕ → Span → Type 0
ProcedureErrors ps q n s =
    RepeatErrors 2 (variables_of q) n s
    ⊎ (
    (Any (λ o. OccurrenceErrors q Requires o n s) (in_assertion q.needs)
    ⊎ Any (λ o. OccurrenceErrors q Ensures o n s) (in_alternatives q.gives))
    ⊎ (Any (λ x. SiteErrors ps q x n s) (sites_in_body q.body) ⊎ ((n ≡ 11) × NoBody q s))
    )

-- the errors of fields
abbrev pub FieldsErrors : List Field → ℕ → Span → Type 0
FieldsErrors fs n s = ((n ≡ 7) × SecondLink fs s) ⊎ ((n ≡ 8) × DataField fs s)

-- the errors of a field; `linked` says whether an earlier field is the link
abbrev pub FieldErrors : Field → Bool → ℕ → Span → Type 0
FieldErrors f linked n s =
    ((n ≡ 7) × (f.name.span ≡ s) × (f.kind ≡ codes "Node") × ((f.name.name ≢ codes "next") ⊎ (linked ≡ true)))
    ⊎ ((n ≡ 8) × (f.name.span ≡ s) × (f.kind ≢ codes "Node"))

-- the errors of a struct: of its fields, and that it lacks the link
abbrev pub StructErrors : List Field → Span → ℕ → Span → Type 0
StructErrors fs close n s = FieldsErrors fs n s ⊎ ((n ≡ 12) × NoLink fs close s)

-- the errors of procedures: of their names, and of each of them
abbrev pub ProceduresErrors : List Procedure → ℕ → Span → Type 0
ProceduresErrors ps n s = RepeatErrors 2 (map (λ q. q.name) ps) n s ⊎ Any (λ q. ProcedureErrors ps q n s) ps

-- the errors of a program: of its struct and its procedures
abbrev pub ProgramErrors : Program → ℕ → Span → Type 0
ProgramErrors p n s = StructErrors p.fields p.close n s ⊎ ProceduresErrors p.procedures n s
