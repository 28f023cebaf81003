-- What keeps a run from standing still: callees are declared, counts agree, and names that get values together are
-- distinct.
use Rattle.std.specs.Prelude.{◌≡◌, List, [], ◌∷◌, length, Contains}
use Rattle.gh_ast.specs.Plain.{Statement, call, if, while, return, Statements, no_statements, statement_first}
use Rattle.gh_ast.specs.Plain.{Procedure, Program}
use Rattle.gh_ast.specs.Programs.{Name, names, parameters_of, results_of, body_statements, Declares}
use Rattle.gh_machine.specs.Machine.{Activation, Config}

abbrev pub AreAllDistinct : List Name → Type 0
AreAllDistinct [] = Unit {0}
AreAllDistinct (x ∷ xs) = (Contains xs x → ⊥) × AreAllDistinct xs

abbrev mutual
  -- in the body of proc, each call in the statement has a callee, the right counts and distinct targets, and each
  -- return
  -- has the right count
  pub Fits : Program → Procedure → Statement → Type 0
  Fits P proc (call xs f es) =
      ((q : Procedure) × Declares P f.name q)
      × ((q : Procedure) → Declares P f.name q
      → (length es ≡ length (parameters_of q)) × (length xs ≡ length (results_of q))) × AreAllDistinct (names xs)
  Fits P proc (if t a c b d) = AllFit P proc a × AllFit P proc b
  Fits P proc (while at t i body close) = AllFit P proc body
  Fits P proc (return at es) = length es ≡ length (results_of proc)
  Fits P proc s = Unit {0}

  pub AllFit : Program → Procedure → Statements → Type 0
  AllFit P proc no_statements = Unit {0}
  AllFit P proc (statement_first s ss) = Fits P proc s × AllFit P proc ss

pub record ProcedureFits (P : Program) (proc : Procedure) : Type 0 where
  pub body : AllFit P proc (body_statements proc)
  pub parameters : AreAllDistinct (parameters_of proc)
  pub results : AreAllDistinct (results_of proc)

abbrev pub ProgramFits : Program → Type 0
ProgramFits P = (proc : Procedure) → Contains P.procedures proc → ProcedureFits P proc

-- a caller has the call first in its rest, with a target for each result
abbrev pub Awaits : Statements → Procedure → Type 0
Awaits (statement_first (call xs f es) rest) q = length xs ≡ length (results_of q)
Awaits rest q = ⊥

-- the activations below one of the procedure q: what each still has to do fits, and it awaits the one above
abbrev pub StackFits : Program → Procedure → List Activation → Type 0
StackFits P q [] = Unit {0}
StackFits P q (a ∷ below) =
    Contains P.procedures a.procedure × AllFit P a.procedure a.rest × Awaits a.rest q × StackFits P a.procedure below

abbrev pub ConfigFits : Program → Config → Type 0
ConfigFits P c =
    Contains P.procedures c.top.procedure × AllFit P c.top.procedure c.top.rest × StackFits P c.top.procedure c.below
