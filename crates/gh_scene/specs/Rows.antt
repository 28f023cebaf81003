-- The rows of a picture.
use Rattle.std.specs.Prelude.{◌≡◌, ℕ, List, [], ◌∷◌, ◌++◌, map, Option, Some, None, codes}
use Rattle.std.specs.FinMap as finite
use Rattle.gh_ast.specs.Plain.{Procedure, Program}
use Rattle.gh_assert.specs.Heaps.{Heap}
use Rattle.gh_assert.specs.Stores.{store_of}
use Rattle.gh_lens.specs.declared.exchange.Exchange.{Exchange}
use Rattle.gh_lens.specs.Handed.{IsHandedOr}
use Rattle.gh_lens.specs.Statements.{statement_text}
use Rattle.gh_log.specs.Texts.{numbers_text}
use Rattle.gh_path.specs.Graphs.{PathStep}
use Rattle.gh_path.specs.Kept.{step_of}
use Rattle.gh_path.specs.declared.condition.PathStep as kept
use Rattle.gh_picture.specs.declared.scene.Row.{Row}
use Rattle.gh_scene.specs.Roles.{roles_of, changes_of}
use Rattle.gh_trace.specs.declared.setting.Setting.{Setting}
use Rattle.gh_trace.specs.declared.state.State.{State}
use Rattle.gh_trace.specs.Kept.{state_of}
use Rattle.gh_trace.specs.Settings.{here, whole}

-- the places that are handed over, those that are left aside, and those that came back
abbrev pub exchange_note : Exchange → List ℕ
exchange_note e =
    (codes "handed over:" ++ numbers_text e.handed.items)
    ++ (codes "; left aside:" ++ numbers_text (finite.keys e.frame))
    ++ (codes "; came back:" ++ numbers_text (finite.keys e.back))

abbrev pub note_text : Option Exchange → List ℕ
note_text None = []
note_text (Some e) = exchange_note e

-- the cells that an exchange leaves aside; none where nothing is exchanged
abbrev pub aside : Option Exchange → Heap
aside None = finite.empty
aside (Some e) = e.frame

-- the row of a state under a statement and a note, given the state before, what was left aside, and what is left over
pub record IsRowUnder (statement note : List ℕ) (old : State) (apart spare : Heap) (new : State)
    (row : Row) : Type 0 where
  pub statement_is : row.statement ≡ statement
  pub note_is : row.note ≡ note
  pub state_is : row.state ≡ new
  pub roles_are : row.roles.items ≡ roles_of old.heap apart spare new.heap
  pub changes_are : row.changes.items ≡ changes_of (store_of old.store) new.store

-- the row of the state y, to which a step of the procedure proc leads from x
pub record IsRowOf (P : Program) (proc : Procedure) (s : PathStep) (x y : State) (spare : Heap)
    (row : Row) : Type 0 where
  pub exchange : Option Exchange
  pub handed : IsHandedOr P proc s (state_of x) (state_of y) exchange
  pub is : IsRowUnder (statement_text P proc s) (note_text exchange) x (aside exchange) spare y row

-- the row of the first state, which is compared with itself
abbrev pub IsStartRow : State → Heap → Row → Type 0
IsStartRow x spare row = IsRowUnder (codes "start") [] x finite.empty spare x row

-- cells are left over in the last state alone
abbrev pub left_at_end : List State → Heap → Heap
left_at_end [] spare = spare
left_at_end (y ∷ ys) spare = finite.empty

-- a row for each state after the first, in turn
abbrev pub AreRows : Program → Procedure → List PathStep → List State → Heap → List Row → Type 0
AreRows P proc [] xs spare rows = rows ≡ []
AreRows P proc (s ∷ ss) [] spare rows = rows ≡ []
AreRows P proc (s ∷ ss) (x ∷ []) spare rows = rows ≡ []
AreRows P proc (s ∷ ss) (x ∷ y ∷ ys) spare rows =
    (r : Row) × (rs : List Row) × (rows ≡ r ∷ rs) × IsRowOf P proc s x y (left_at_end ys spare) r
    × AreRows P proc ss (y ∷ ys) spare rs

-- a row for each state after the first is added
pub record AddsRows (P : Program) (proc : Procedure) (ss : List PathStep) (xs : List State) (spare : Heap)
    (old new : List Row) : Type 0 where
  pub rest : List Row
  pub whole : new ≡ old ++ rest
  pub rows : AreRows P proc ss xs spare rest

-- the row of a state that a kept step leads to
abbrev pub IsRowFor : Setting → kept.PathStep → State → State → Heap → Row → Type 0
IsRowFor setting step x y spare row = IsRowOf (whole setting) (here setting) (step_of step) x y spare row

-- the rows of the states that kept steps lead to are added
abbrev pub AddsRowsFor : Setting → List kept.PathStep → List State → Heap → List Row → List Row → Type 0
AddsRowsFor setting steps xs spare old new =
    AddsRows (whole setting) (here setting) (map step_of steps) xs spare old new
