-- The lines that tell where an assertion fails, and where a check does.
use Rattle.std.specs.Prelude.{◌≡◌, ℕ, List, [], ◌∷◌, ◌++◌, map, Option, Some, None, codes}
use Rattle.std.specs.Fmt.{decimal}
use Rattle.std.specs.FinMap.{keys}
use Rattle.gh_base.specs.declared.place.Span.{Span}
use Rattle.gh_ast.specs.declared.Operand.{Operand}
use Rattle.gh_ast.specs.declared.Expr.{Expr}
use Rattle.gh_ast.specs.Plain.{Assertion, empty, comparison, points_to, cell, segment, star, cases, Procedure, Program}
use Rattle.gh_ast.specs.Programs.{parameters_of}
use Rattle.gh_assert.specs.Heaps.{Heap}
use Rattle.gh_assert.specs.Meaning.{Store, value}
use Rattle.gh_assert.specs.Values.{Give}
use Rattle.gh_draw.specs.Drawings.{line}
use Rattle.gh_log.specs.Texts.{numbers_text}
use Rattle.gh_path.specs.Graphs.{Check, access, callee_entry, loop_entry, return_check, loop_end, While, IsProcedureAt}
use Rattle.gh_path.specs.Graphs.{IsLoopAt}
use Rattle.gh_path.specs.Kept.{asked_at}
use Rattle.gh_path.specs.declared.condition.CheckKind as kept
use Rattle.gh_trace.specs.Traces.{State, Passes}
use Rattle.gh_lens.specs.Statements.{operand_text, equality_text}
use Rattle.gh_lens.specs.Takings.{conjuncts, IsBlockedAt, LeavesOver, IsReason}
use Rattle.gh_lens.specs.declared.taking.Reason.{Reason}
use Rattle.gh_lens.specs.declared.taking.Reason.TheVariants.{Untrue, Missing, Shared, Content}

abbrev pub assertion_text : Assertion → List ℕ
assertion_text empty = codes "emp"
assertion_text (comparison l e r) = operand_text l ++ equality_text e ++ operand_text r
assertion_text (points_to a t) = a.name ++ codes ".next |-> " ++ operand_text t
assertion_text (cell a) = codes "acc(" ++ a.name ++ codes ")"
assertion_text (segment f t) = codes "lseg(" ++ operand_text f ++ codes ", " ++ operand_text t ++ codes ")"
assertion_text (star fs) = codes "a conjunction"
assertion_text (cases t a b) = codes "a choice"

abbrev pub reason_text : Reason → List ℕ
reason_text Untrue = codes "not so"
reason_text (Missing v) = codes "no cell at " ++ decimal v
reason_text (Shared v) = codes "the cell at " ++ decimal v ++ codes " is taken already"
reason_text (Content v w) = codes "the cell at " ++ decimal v ++ codes " leads to " ++ decimal w

-- `OPERAND = VALUE`
abbrev pub value_text : Store → Operand → List ℕ
value_text s o = operand_text o ++ codes " = " ++ decimal (value s o)

abbrev pub sides_text : Store → Operand → Operand → List ℕ
sides_text s l r = codes " (" ++ value_text s l ++ codes ", " ++ value_text s r ++ codes ")"

-- ` (LEFT = VALUE, RIGHT = VALUE)` for a comparison
abbrev pub compared_text : Store → Assertion → List ℕ
compared_text s empty = []
compared_text s (comparison l e r) = sides_text s l r
compared_text s (points_to a t) = []
compared_text s (cell a) = []
compared_text s (segment f t) = []
compared_text s (star fs) = []
compared_text s (cases t a b) = []

-- `  CONJUNCT: REASON`
abbrev pub blocked_line : Store → Assertion → Reason → List ℕ
blocked_line s f r = line (codes "  " ++ assertion_text f ++ codes ": " ++ reason_text r ++ compared_text s f)

-- the places of the cells that no conjunct takes
abbrev pub left_line : Heap → List ℕ
left_line rest = line (codes "  leaked:" ++ numbers_text (keys rest))

-- one conjunct finds no part; or all find theirs, and cells are left over
pub data IsMiss (f : Assertion) (s : Store) (h : Heap) (text : List ℕ) : Type 0 where
  blocked : (g : Assertion) (rest : Heap) (r : Reason) → IsBlockedAt (conjuncts f) s h g rest → IsReason g s h rest r
      → text ≡ blocked_line s g r → IsMiss f s h text
  left_over : (rest : Heap) → LeavesOver (conjuncts f) s h rest → text ≡ left_line rest → IsMiss f s h text

-- a line for each of some alternatives
abbrev pub AreMisses : List Assertion → Store → Heap → List ℕ → Type 0
AreMisses [] s h text = text ≡ []
AreMisses (f ∷ fs) s h text = (a : List ℕ) × (b : List ℕ) × (text ≡ a ++ b) × IsMiss f s h a × AreMisses fs s h b

-- `  NAME = VALUE: no cell`
abbrev pub access_line : List ℕ → ℕ → List ℕ
access_line name v = line (codes "  " ++ name ++ codes " = " ++ decimal v ++ codes ": no cell")

-- where what the procedure q requires fails, for the argument values vs
pub record IsEntryMiss (P : Program) (q : Procedure) (vs : List ℕ) (x : State) (text : List ℕ) : Type 0 where
  pub inside : Store
  pub arguments : map inside (parameters_of q) ≡ vs
  pub miss : IsMiss q.needs inside x.heap text

-- where a check of the procedure proc fails in a state
abbrev pub IsFailing : Program → Procedure → Check → State → List ℕ → Type 0
IsFailing P proc (access o) x text = text ≡ access_line o.name (x.store o.name)
IsFailing P proc (callee_entry at n es) x text =
    (q : Procedure) × (vs : List ℕ) × IsProcedureAt P n q × Give x.store x.heap es vs × IsEntryMiss P q vs x text
IsFailing P proc (loop_entry at n) x text = (l : While) × IsLoopAt proc n l × IsMiss l.invariant x.store x.heap text
IsFailing P proc (return_check at) x text = AreMisses proc.gives x.store x.heap text
IsFailing P proc (loop_end at n) x text = (l : While) × IsLoopAt proc n l × IsMiss l.invariant x.store x.heap text

-- where the check fails; or the check is passed, up to a double negation
abbrev pub IsCheckOr : Program → Procedure → Check → State → Option (List ℕ) → Type 0
IsCheckOr P proc c x (Some text) = IsFailing P proc c x text
IsCheckOr P proc c x None = (Passes P proc c x → ⊥) → ⊥

-- the same of the entry of the procedure of a number, and of what is asked at any place
abbrev pub IsEntryOr : Program → ℕ → List Expr → State → Option (List ℕ) → Type 0
IsEntryOr P n es x o = (proc : Procedure) (at : Span) → IsCheckOr P proc (callee_entry at n es) x o

abbrev pub IsFailingOr : Program → Procedure → kept.CheckKind → State → Option (List ℕ) → Type 0
IsFailingOr P proc kind x o = (at : Span) → IsCheckOr P proc (asked_at kind at) x o

-- where the invariant of the loop of a number fails; or there is no such loop
abbrev pub IsInvariantOr : Procedure → ℕ → State → Option (List ℕ) → Type 0
IsInvariantOr p n x (Some text) = (l : While) × IsLoopAt p n l × IsMiss l.invariant x.store x.heap text
IsInvariantOr p n x None = (l : While) → IsLoopAt p n l → ⊥
