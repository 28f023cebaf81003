-- The report on a counterexample with the fewest cells in its first heap.
use Rattle.std.specs.Prelude.{◌≡◌, ℕ, ◌<◌, List, [], ◌∷◌, ◌++◌, length, Option, Some, None}
use Rattle.std.specs.FinMap.{len}
use Rattle.gh_ast.specs.Plain.{Procedure, Program}
use Rattle.gh_ast.specs.Programs.{variable_names}
use Rattle.gh_path.specs.Conditions.{Condition, conditions}
use Rattle.gh_symb.specs.Symbolic.{symbolic_of}
use Rattle.gh_symb.specs.Formulas.{problem}
use Rattle.gh_trace.specs.Traces.{State}
use Rattle.gh_log.specs.Lines.{LogLine}
use Rattle.gh_log.specs.declared.lines.Section.{Section}
use Rattle.gh_log.specs.Sections.{IsValidSection}
use Rattle.gh_log.specs.Spelled.{IsSpelled}
use Rattle.gh_log.specs.Texts.{log_text}
use Rattle.gh_draw.specs.Descriptions.{description}
use Rattle.gh_draw.specs.Drawings.{line, drawing}
use Rattle.gh_small.specs.Bounded.{bounded_by}
use Rattle.gh_small.specs.Smallest.{IsLeast}
use Rattle.gh_top.specs.Lines.{smallest_line}
use Rattle.gh_top.specs.Reports.{IsFirstRefuted}

-- how many cells the first heap has
abbrev pub cells_at_first : List State → ℕ
cells_at_first [] = 0
cells_at_first (x ∷ xs) = len x.heap

-- the number, the cells, the description and the drawing of a condition of the procedure proc
abbrev pub smallest_text : Program → Procedure → ℕ → ℕ → Condition → List State → List ℕ
smallest_text P proc k cells c xs =
    smallest_line k (length (conditions P)) cells ++ line (description P c) ++ drawing k (variable_names proc) xs

-- the text of a log of version 2 whose one section is valid for the condition's clauses with the bound; nothing where
-- there is no cell
pub data IsBoundText (P : Program) (proc : Procedure) (c : Condition) : ℕ → List ℕ → Type 0 where
  no_cell : IsBoundText P proc c 0 []
  some_cells : {cells : ℕ} (section : List LogLine) → 0 < cells
      → IsValidSection (bounded_by (problem (symbolic_of P proc c)) cells) section → IsSpelled 2 (section ∷ [])
      → IsBoundText P proc c cells (log_text 2 (section ∷ []))

-- the text of a log of version 2 with this section; nothing where there is none
abbrev pub section_text : Option Section → List ℕ
section_text None = []
section_text (Some s) = log_text 2 (s.lines ∷ [])

-- the text is the report on the first condition that isn't valid, with a counterexample that has the fewest first cells
pub record IsSmallestReport (P : Program) (text : List ℕ) : Type 0 where
  pub number : ℕ
  pub cells : ℕ
  pub condition : Condition
  pub states : List State
  pub bound : List ℕ
  pub first : IsFirstRefuted P number condition states
  pub count : cells ≡ cells_at_first states
  pub least : IsLeast P condition cells
  pub shown : IsBoundText P first.procedure condition cells bound
  pub text_is : text ≡ smallest_text P first.procedure number cells condition states ++ bound
