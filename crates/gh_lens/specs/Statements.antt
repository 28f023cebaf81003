-- The steps of a path as statements, with their places.
use Rattle.std.specs.Prelude.{◌≡◌, ℕ, List, [], ◌∷◌, ◌++◌, Bool, true, false, Option, Some, None, map, codes, slice_get}
use Rattle.std.specs.List.{flat_map}
use Rattle.std.specs.Fmt.{decimal}
use Rattle.gh_base.specs.declared.place.Span.{Span}
use Rattle.gh_ast.specs.declared.Occ.{Occ}
use Rattle.gh_ast.specs.declared.Operand.{Operand}
use Rattle.gh_ast.specs.declared.Operand.TheVariants.{Null, Var}
use Rattle.gh_ast.specs.declared.Expr.{Expr}
use Rattle.gh_ast.specs.declared.Expr.TheVariants.{Plain, Read}
use Rattle.gh_ast.specs.Plain.{Procedure, Program}
use Rattle.gh_ast.specs.Programs.{Name, name_of, names}
use Rattle.gh_path.specs.Graphs.{While, loops_of, PathStep, access_step, assume_step, set_step, new_step, write_step}
use Rattle.gh_path.specs.Graphs.{free_step, call_step, while_step, return_step}
use Rattle.gh_path.specs.Kept.{step_of}
use Rattle.gh_path.specs.Walking.{loop_of}
use Rattle.gh_path.specs.declared.condition.PathStep as kept
use Rattle.gh_path.specs.declared.loops.While.{While as CodeWhile}

abbrev pub operand_text : Operand → List ℕ
operand_text (Null span) = codes "null"
operand_text (Var o) = o.name

abbrev pub expr_text : Expr → List ℕ
expr_text (Plain o) = operand_text o
expr_text (Read o) = o.name ++ codes ".next"

abbrev pub equality_text : Bool → List ℕ
equality_text true = codes " == "
equality_text false = codes " != "

abbrev pub comparison_text : Expr → Bool → Expr → List ℕ
comparison_text l e r = expr_text l ++ equality_text e ++ expr_text r

-- the texts, each after `, `
abbrev pub others_text : List (List ℕ) → List ℕ
others_text ts = flat_map (λ t. codes ", " ++ t) ts

-- the texts, with `, ` between two
abbrev pub list_text : List (List ℕ) → List ℕ
list_text [] = []
list_text (t ∷ ts) = t ++ others_text ts

abbrev pub targets_text : List Name → List ℕ
targets_text [] = []
targets_text (x ∷ xs) = list_text (x ∷ xs) ++ codes " := "

abbrev pub call_text : List Name → Name → List Expr → List ℕ
call_text xs f es = targets_text xs ++ f ++ codes "(" ++ list_text (map expr_text es) ++ codes ")"

-- a call of a procedure, if there is one
abbrev pub called_text : Option Procedure → List Name → List Expr → List ℕ
called_text None xs es = []
called_text (Some q) xs es = call_text xs (name_of q) es

-- a call of the procedure of a number is added; nothing where there is none
abbrev pub AddsCall : Program → ℕ → List Occ → List Expr → List ℕ → List ℕ → Type 0
AddsCall P n xs es old new = new ≡ old ++ called_text (slice_get P.procedures n) (names xs) es

abbrev pub values_text : List (List ℕ) → List ℕ
values_text [] = []
values_text (t ∷ ts) = codes " " ++ list_text (t ∷ ts)

abbrev pub step_text : Program → PathStep → List ℕ
step_text P (access_step o) = o.name ++ codes " is a cell"
step_text P (assume_step l e r) = comparison_text l e r
step_text P (set_step o e) = o.name ++ codes " := " ++ expr_text e
step_text P (new_step o) = o.name ++ codes " := new Node"
step_text P (write_step o e) = o.name ++ codes ".next := " ++ expr_text e
step_text P (free_step o) = codes "free " ++ o.name
step_text P (call_step xs n es) = called_text (slice_get P.procedures n) (names xs) es
step_text P (while_step n) = codes "the loop"
step_text P (return_step es) = codes "return" ++ values_text (map expr_text es)

-- the statement of a step as it is kept is added
abbrev pub AddsStep : Program → kept.PathStep → List ℕ → List ℕ → Type 0
AddsStep P r old new = new ≡ old ++ step_text P (step_of r)

abbrev pub operand_place : Operand → Span
operand_place (Null span) = span
operand_place (Var o) = o.span

abbrev pub expr_place : Expr → Span
expr_place (Plain o) = operand_place o
expr_place (Read o) = o.span

abbrev pub exprs_place : List Expr → Option Span
exprs_place [] = None
exprs_place (e ∷ es) = Some (expr_place e)

-- the first target's place; without targets that of the first argument
abbrev pub call_place : List Occ → List Expr → Option Span
call_place [] es = exprs_place es
call_place (x ∷ xs) es = Some x.span

-- where a loop stands, if there is one
abbrev pub loop_place : Option While → Option Span
loop_place (Some l) = Some l.at
loop_place None = None

-- where the step stands, in a procedure with these loops; none for a call or a return that has neither targets nor
-- values
abbrev pub step_place : List While → PathStep → Option Span
step_place ls (access_step o) = Some o.span
step_place ls (assume_step l e r) = Some (expr_place l)
step_place ls (set_step o e) = Some o.span
step_place ls (new_step o) = Some o.span
step_place ls (write_step o e) = Some o.span
step_place ls (free_step o) = Some o.span
step_place ls (call_step xs n es) = call_place xs es
step_place ls (while_step n) = loop_place (slice_get ls n)
step_place ls (return_step es) = exprs_place es

-- where the loop of a number stands, and a step as it is kept
abbrev pub IsLoopPlace : List CodeWhile → ℕ → Option Span → Type 0
IsLoopPlace loops n o = o ≡ loop_place (slice_get (map loop_of loops) n)

abbrev pub IsStepPlace : List CodeWhile → kept.PathStep → Option Span → Type 0
IsStepPlace loops r o = o ≡ step_place (map loop_of loops) (step_of r)

abbrev pub line_text : Option Span → List ℕ
line_text None = []
line_text (Some p) = codes "line " ++ decimal p.line ++ codes ": "

-- `line L: STATEMENT`, in the procedure proc
abbrev pub statement_text : Program → Procedure → PathStep → List ℕ
statement_text P proc s = line_text (step_place (loops_of proc) s) ++ step_text P s
