-- Configurations as they are kept, and what a step answers.
use Rattle.std.specs.Prelude.{◌≡◌, ◌≢◌, ◌⊎◌, ℕ, List, slice_index_or, [], ◌∷◌, ◌++◌, map, reverse, length, Option, None}
use Rattle.std.specs.Prelude.{MatchOption, All, Contains}
use Rattle.std.specs.Borrow.{Bor}
use Rattle.std.specs.FinMap.{get}
use Rattle.gh_ast.specs.declared.Occ.{Occ}
use Rattle.gh_ast.specs.declared.Procedure as kept
use Rattle.gh_ast.specs.Plain.{new, call, return, Statements, statement_first, statements_view, procedure_of, Procedure}
use Rattle.gh_ast.specs.Plain.{Program}
use Rattle.gh_ast.specs.Programs.{Name, names, parameters_of, results_of, variable_names, Declares, SomeAssigns}
use Rattle.gh_ast.specs.Occurrences.{locals_of}
use Rattle.gh_ast.specs.Rules.{IsTyped}
use Rattle.gh_assert.specs.Heaps.{Heap}
use Rattle.gh_assert.specs.Stores.{listed_names, store_of}
use Rattle.gh_assert.specs.Values.{Gets}
use Rattle.gh_assert.specs.declared.store.Entry.{Entry}
use Rattle.gh_machine.specs.Machine as machine
use Rattle.gh_machine.specs.Machine.{Step, HasEnded, starting}
use Rattle.gh_machine.specs.Choices as choices
use Rattle.gh_machine.specs.Choices.{StepBy}
use Rattle.gh_machine.specs.Fits.{ConfigFits}
use Rattle.gh_machine.specs.declared.config.Activation.{Activation}
use Rattle.gh_machine.specs.declared.config.Config.{Config}
use Rattle.gh_machine.specs.declared.step.Choice.{Choice}
use Rattle.gh_machine.specs.declared.step.Next.{Next}
use Rattle.gh_machine.specs.declared.step.Next.TheVariants.{Moved, Ended, Fault, NotAChoice}

abbrev pub activation_of : Activation → machine.Activation
activation_of a = record {
  procedure = procedure_of a.procedure.now;
  store = store_of a.store;
  rest = statements_view a.rest;
}

-- the activations that wait are kept with the nearest caller last
abbrev pub config_of : Config → machine.Config
config_of c = record { heap = c.heap; top = activation_of c.top; below = map activation_of (reverse c.below.items) }

-- names beside values, as far as both go
abbrev pub beside : List Name → List ℕ → List Entry
beside [] vs = []
beside (x ∷ xs) [] = []
beside (x ∷ xs) (v ∷ vs) = record { name = x; value = v } ∷ beside xs vs

-- the variables of a procedure that are no parameters
abbrev pub starts_of : Procedure → List Name
starts_of p = results_of p ++ names (locals_of p)

-- the variables, with the values with which they begin
abbrev pub beginning : Procedure → List ℕ → List ℕ → List Entry
beginning p arguments starts = beside (variable_names p) (arguments ++ starts)

-- the procedure of the number at its start
abbrev pub IsBeginning : Program → ℕ → List ℕ → List ℕ → Heap → machine.Config → Type 0
IsBeginning P number arguments starts h c =
    (d : Procedure) → c ≡ starting (slice_index_or P.procedures number d)
    (store_of (beginning (slice_index_or P.procedures number d) arguments starts)) h []

-- the choice, where p is called
abbrev pub chosen : Choice → Procedure → choices.Choice
chosen c p = record {
  location = c.location;
  content = c.content;
  starts = store_of (beside (starts_of p) c.starts.items);
}

-- how many values the next statement leaves to choose for a callee's results and locals
abbrev pub WantsStarts : Program → Statements → ℕ → Type 0
WantsStarts P (statement_first (call xs f es) rest) n =
    (proc : Procedure) × Declares P f.name proc × (n ≡ length (starts_of proc))
WantsStarts P ss n = n ≡ 0

abbrev pub IsReturn : Statements → Type 0
IsReturn (statement_first (return at es) rest) = Unit {0}
IsReturn ss = ⊥

-- the next statement is a return of the only activation
abbrev pub ReturnsLast : machine.Config → Type 0
ReturnsLast c = (c.below ≡ []) × IsReturn c.top.rest

-- the location can't be had, or the values are not as many as the callee's results and locals
abbrev pub Misfits : Program → Choice → Statements → Heap → Type 0
Misfits P choice (statement_first (new x) rest) h = (choice.location ≡ 0) ⊎ (get h choice.location ≢ None)
Misfits P choice (statement_first (call xs f es) rest) h =
    (proc : Procedure) × Declares P f.name proc × (length choice.starts.items ≢ length (starts_of proc))
Misfits P choice ss h = ⊥

-- the answers of a step from c to d
abbrev pub IsNext : Program → Choice → Next → machine.Config → machine.Config → Type 0
IsNext P choice Moved c d =
    StepBy P (chosen choice d.top.procedure) c d × (ReturnsLast c → ⊥) × (Misfits P choice c.top.rest c.heap → ⊥)
IsNext P choice Ended c d = (HasEnded c × (d ≡ c)) ⊎ (ReturnsLast c × Step P c d)
IsNext P choice Fault c d = machine.Fault c × (d ≡ c)
IsNext P choice NotAChoice c d = (machine.Fault c → ⊥) × Misfits P choice c.top.rest c.heap × (d ≡ c)

-- the same of configurations as they are kept
abbrev pub IsBeginningOf : Program → ℕ → List ℕ → List ℕ → Heap → Config → Type 0
IsBeginningOf P number arguments starts h c = IsBeginning P number arguments starts h (config_of c)

abbrev pub IsNextOf : Program → Choice → Next → Config → Config → Type 0
IsNextOf P choice next c d = IsNext P choice next (config_of c) (config_of d)

-- there are as many values as the procedure of a number has parameters
abbrev pub AreArguments : Program → ℕ → List ℕ → Type 0
AreArguments P n vs = (proc : Procedure) → length vs ≡ length (parameters_of (slice_index_or P.procedures n proc))

-- there are as many values as the procedure of a number has results and locals
abbrev pub AreStarts : Program → ℕ → List ℕ → Type 0
AreStarts P n vs = (proc : Procedure) → length vs ≡ length (starts_of (slice_index_or P.procedures n proc))

-- no procedure has the name
abbrev pub DeclaresNone : Program → Name → Type 0
DeclaresNone P f = (proc : Procedure) → Declares P f proc → ⊥

-- what is found for the name of a call: the procedure that it means, if there is one
abbrev pub FindsDeclared : Program → Name → Option (Bor kept.Procedure) → Type 0
FindsDeclared P f found = MatchOption found (DeclaresNone P f) (λ proc. Declares P f (procedure_of proc.now))

-- variables of a store get the values of variables of another store, all at once
abbrev pub GetsFrom : List Entry → List Occ → List Entry → List Occ → List Entry → Type 0
GetsFrom s xs t ys u = Gets (store_of s) (names xs) (map (store_of t) (names ys)) (store_of u)

-- what is left to do assigns variables of its procedure alone
abbrev pub AssignsVariables : machine.Activation → Type 0
AssignsVariables a = (y : Name) → SomeAssigns a.rest y → Contains (variable_names a.procedure) y

abbrev pub AllAssignVariables : List machine.Activation → Type 0
AllAssignVariables [] = Unit {0}
AllAssignVariables (a ∷ below) = AssignsVariables a × AllAssignVariables below

-- the store lists the variables of its procedure, in their order
abbrev pub ListsVariables : Activation → Type 0
ListsVariables a = listed_names a.store ≡ variable_names (procedure_of a.procedure.now)

abbrev pub AllListVariables : Config → Type 0
AllListVariables c = ListsVariables c.top × All ListsVariables c.below.items

-- the configuration is one of the program, which breaks no rule
pub record IsMadeFor (P : Program) (c : Config) : Type 0 where
  pub typed : IsTyped P
  pub fits : ConfigFits P (config_of c)
  pub assigns : AllAssignVariables ((config_of c).top ∷ (config_of c).below)
  pub lists : AllListVariables c
