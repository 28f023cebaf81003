-- The drawing of a trace: a condition's number, and each state's store and heap.
use Rattle.std.specs.Prelude.{ℕ, suc, ◌<◌, ◌^◌, List, [], ◌∷◌, ◌++◌, codes, All}
use Rattle.std.specs.List.{flat_map}
use Rattle.std.specs.Fmt.{decimal}
use Rattle.std.specs.FinMap.{entries}
use Rattle.gh_base.specs.Texts.{line_end}
use Rattle.gh_ast.specs.Programs.{Name}
use Rattle.gh_assert.specs.Heaps.{Heap}
use Rattle.gh_trace.specs.Traces.{State}

-- the longest drawing file that is taken, in bytes
abbrev pub most_drawn : ℕ
most_drawn = 4194304

-- a line of its own
abbrev pub line : List ℕ → List ℕ
line bytes = bytes ++ line_end

-- ` NAME=VALUE`
abbrev pub value_text : State → Name → List ℕ
value_text x name = codes " " ++ name ++ codes "=" ++ decimal (x.store name)

-- ` PLACE->CONTENT`
abbrev pub cell_text : ℕ × ℕ → List ℕ
cell_text c = codes " " ++ decimal c.0 ++ codes "->" ++ decimal c.1

-- the variables in their order
abbrev pub store_line : List Name → State → List ℕ
store_line names x = codes "store" ++ flat_map (value_text x) names

-- the cells in ascending order
abbrev pub heap_line : Heap → List ℕ
heap_line h = codes "heap" ++ flat_map cell_text (entries h)

-- the two lines that tell a state
abbrev pub state_lines : List Name → State → List ℕ
state_lines names x = line (store_line names x) ++ line (heap_line x.heap)

abbrev pub state_text : List Name → ℕ → State → List ℕ
state_text names k x = line (codes "state " ++ decimal k) ++ state_lines names x

-- states are numbered from k
abbrev pub states_text : List Name → ℕ → List State → List ℕ
states_text names k [] = []
states_text names k (x ∷ xs) = state_text names k x ++ states_text names (suc k) xs

abbrev pub drawing : ℕ → List Name → List State → List ℕ
drawing number names xs =
    line (codes "drawing") ++ line (codes "condition " ++ decimal number) ++ states_text names 0 xs
    ++ line (codes "end")

-- a drawing has no value past 32 bits
pub record IsDrawable (names : List Name) (x : State) : Type 0 where
  pub values : All (λ n. x.store n < 2 ^ 32) names
  pub cells : All (λ c. (c.0 < 2 ^ 32) × (c.1 < 2 ^ 32)) (entries x.heap)
