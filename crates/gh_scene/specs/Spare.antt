-- What is left over where the check at the end of a path fails.
use Rattle.std.specs.Prelude.{◌≡◌, ◌⊎◌, ℕ, List, [], ◌∷◌, Option, Some, None, IfSome, IfNone, slice_get}
use Rattle.std.specs.FinMap as map
use Rattle.gh_ast.specs.Plain.{Assertion, Procedure}
use Rattle.gh_assert.specs.Heaps.{Heap}
use Rattle.gh_assert.specs.Meaning.{Store}
use Rattle.gh_base.specs.declared.place.Span.{Span}
use Rattle.gh_lens.specs.Takings.{conjuncts, LeavesOver}
use Rattle.gh_path.specs.Graphs.{Check, While, access, callee_entry, loop_entry, return_check, loop_end, loops_of}
use Rattle.gh_path.specs.Kept.{asked_at}
use Rattle.gh_path.specs.declared.condition.CheckKind as kept_kind
use Rattle.gh_trace.specs.Kept.{state_of}
use Rattle.gh_trace.specs.Settings.{here}
use Rattle.gh_trace.specs.Traces.{State}
use Rattle.gh_trace.specs.declared.setting.Setting.{Setting}
use Rattle.gh_trace.specs.declared.state.State as kept_state

-- the invariant of a loop, if there is one
abbrev pub invariant_asked : Option While → List Assertion
invariant_asked (Some l) = l.invariant ∷ []
invariant_asked None = []

-- the alternatives that a check of the procedure p asks a whole heap to meet; where it asks for a part alone, nothing
-- is left over
abbrev pub asked_whole : Procedure → Check → List Assertion
asked_whole p (access o) = []
asked_whole p (callee_entry at n es) = []
asked_whole p (loop_entry at n) = []
asked_whole p (return_check at) = p.gives
asked_whole p (loop_end at n) = invariant_asked (slice_get (loops_of p) n)

-- a conjunct of the assertion finds no part
abbrev pub LeavesNothing : Assertion → Store → Heap → Type 0
LeavesNothing f s h = (r : Heap) → LeavesOver (conjuncts f) s h r → ⊥

-- what is found to be left: a heap that the conjuncts leave, or none where one of them finds no part
abbrev pub IsLeft : Assertion → Store → Heap → Option Heap → Type 0
IsLeft f s h o = IfSome o (LeavesOver (conjuncts f) s h)

abbrev pub IsNoneLeft : Assertion → Store → Heap → Option Heap → Type 0
IsNoneLeft f s h o = IfNone o (LeavesNothing f s h)

-- what the first alternative leaves whose conjuncts all take their parts; nothing, where there is none
abbrev pub IsLeftOver : List Assertion → Store → Heap → Heap → Type 0
IsLeftOver [] s h rest = rest ≡ map.empty
IsLeftOver (f ∷ fs) s h rest = LeavesOver (conjuncts f) s h rest ⊎ (LeavesNothing f s h × IsLeftOver fs s h rest)

-- the cells of a state that are left over at a check
abbrev pub IsSpare : Procedure → Check → State → Heap → Type 0
IsSpare p c x rest = IsLeftOver (asked_whole p c) x.store x.heap rest

-- the same at the end of the loop of a number
abbrev pub IsSpareOfLoop : Setting → ℕ → kept_state.State → Heap → Type 0
IsSpareOfLoop setting number x rest = (at : Span) → IsSpare (here setting) (loop_end at number) (state_of x) rest

-- the same at what is asked at any place
abbrev pub IsSpareAt : Setting → kept_kind.CheckKind → kept_state.State → Heap → Type 0
IsSpareAt setting kind x rest = (at : Span) → IsSpare (here setting) (asked_at kind at) (state_of x) rest
