-- Which condition is named first, and what is found where a counterexample of a condition is sought.
use Rattle.std.specs.Prelude.{◌≡◌, ℕ, List, [], ◌∷◌, ◌++◌, Option, Some, None}
use Rattle.gh_ast.specs.Plain.{Program}
use Rattle.gh_path.specs.Conditions.{Condition, IsConditionAt, IsNoNumber, conditions}
use Rattle.gh_draw.specs.declared.drawing.Drawing.{Drawing}
use Rattle.gh_lens.specs.declared.judged.Judged.{Judged}
use Rattle.gh_lens.specs.Judgements.{AreJudged}
use Rattle.gh_lens.specs.Overviews.{of_rank}
use Rattle.gh_scene.specs.declared.sought.Sought.{Sought}
use Rattle.gh_scene.specs.declared.sought.Sought.TheVariants.{Found, Valid, Unnumbered}
use Rattle.gh_small.specs.Smallest.{first_cells, IsLeast}
use Rattle.gh_trace.specs.Kept.{drawn_of}
use Rattle.gh_trace.specs.Replay.{IsDrawnCounterexample}
use Rattle.gh_trace.specs.Validity.{IsConditionValid}

-- the drawing is a counterexample of the condition of a number, and none has fewer cells in its first heap
pub record IsSmallestOf (P : Program) (n : ℕ) (d : Drawing) : Type 0 where
  pub condition : Condition
  pub at : IsConditionAt P n condition
  pub number : d.condition ≡ n
  pub refutes : IsDrawnCounterexample P condition (drawn_of d.trace)
  pub least : IsLeast P condition (first_cells (drawn_of d.trace))

-- a smallest counterexample of the condition of a number, or that it is valid, or that there is none
abbrev pub IsSought : Program → ℕ → Sought → Type 0
IsSought P n (Found d) = IsSmallestOf P n d
IsSought P n Valid = (c : Condition) × IsConditionAt P n c × IsConditionValid P c
IsSought P n Unnumbered = IsNoNumber P n

-- the number of the first of some conditions
abbrev pub first_number : List Judged → Option ℕ
first_number [] = None
first_number (j ∷ js) = Some j.number

-- the condition that an overview names first, if it is refuted: the first that is ground work, else the first
abbrev pub IsNamedFirst : Program → Option ℕ → Type 0
IsNamedFirst P n =
    (js : List Judged) × AreJudged P 1 (conditions P) js × (n ≡ first_number (of_rank 0 js ++ of_rank 1 js))
