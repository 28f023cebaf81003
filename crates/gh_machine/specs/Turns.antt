-- What is said of the turn of one statement.
use Rattle.std.specs.Prelude.{◌≡◌, List, [], drop}
use Rattle.gh_base.specs.declared.place.Span.{Span}
use Rattle.gh_ast.specs.declared.Occ.{Occ}
use Rattle.gh_ast.specs.declared.Expr.{Expr}
use Rattle.gh_ast.specs.declared.Stmt.{Stmt}
use Rattle.gh_ast.specs.Plain.{Cond, Assertion, Statement, call, if, while, return, statement_first, statements_view}
use Rattle.gh_ast.specs.Plain.{Block, Program}
use Rattle.gh_machine.specs.Machine as machine
use Rattle.gh_machine.specs.Machine.{Pops}
use Rattle.gh_machine.specs.Configs.{IsNext, IsMadeFor}
use Rattle.gh_machine.specs.declared.config.Config.{Config}
use Rattle.gh_machine.specs.declared.step.Choice.{Choice}
use Rattle.gh_machine.specs.declared.step.Next.{Next}
use Rattle.gh_machine.specs.declared.step.Next.TheVariants.{Moved, Ended}

-- the statement is the next one
abbrev pub ComesFirst : Statement → Config → Type 0
ComesFirst s c = statements_view c.top.rest ≡ statement_first s (statements_view (drop 1 c.top.rest))

-- a call, a choice, a loop or a return is the next statement, wherever it stands in the text
abbrev pub CallComes : Occ → List Expr → Config → Type 0
CallComes f es c = (xs : List Occ) × ComesFirst (call xs f es) c

abbrev pub IfComes : Cond → Block → Block → Config → Type 0
IfComes t a b c = ComesFirst (if t a.statements a.close b.statements b.close) c

abbrev pub WhileComes : Cond → Block → Config → Type 0
WhileComes t body c = (at : Span) × (inv : Assertion) × ComesFirst (while at t inv body.statements body.close) c

abbrev pub ReturnComes : List Expr → Config → Type 0
ReturnComes es c = (at : Span) × ComesFirst (return at es) c

-- the statements begin with a call that has these targets
abbrev pub Calls : List Occ → List Stmt → Type 0
Calls xs ss =
    (f : Occ) × (es : List Expr) × (statements_view ss ≡ statement_first (call xs f es) (statements_view (drop 1 ss)))

-- an answer that no program and no choice would change
abbrev pub AlwaysNext : Next → machine.Config → machine.Config → Type 0
AlwaysNext next c d = (P : Program) (if : Choice) → IsNext P if next c d

-- what comes of a procedure that has nothing left
abbrev pub IsPopped : Next → machine.Config → machine.Config → Type 0
IsPopped Moved c d = Pops c.below c.top.procedure c.top.store c.heap d
IsPopped Ended c d = (c.below ≡ []) × (d ≡ c)
IsPopped next c d = ⊥

-- the configuration is one of some program
abbrev pub IsMadeForSome : Config → Type 0
IsMadeForSome c = (P : Program) × IsMadeFor P c
