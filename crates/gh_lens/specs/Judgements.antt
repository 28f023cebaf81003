-- What is found of the conditions of a program, one by one.
use Rattle.std.specs.Prelude.{◌≡◌, ℕ, suc, List, [], ◌∷◌, Bool, true, false}
use Rattle.gh_base.specs.declared.place.Span.{Span}
use Rattle.gh_ast.specs.Plain.{Program}
use Rattle.gh_path.specs.Graphs.{Check, access, callee_entry, loop_entry, return_check, loop_end}
use Rattle.gh_path.specs.Conditions.{Condition}
use Rattle.gh_path.specs.Kept.{asked_at, condition_of}
use Rattle.gh_path.specs.declared.condition.CheckKind.{CheckKind}
use Rattle.gh_path.specs.declared.condition.Condition as kept
use Rattle.gh_trace.specs.declared.state.Trace.{Trace}
use Rattle.gh_trace.specs.Kept.{drawn_of}
use Rattle.gh_trace.specs.Replay.{IsDrawnCounterexample}
use Rattle.gh_trace.specs.Validity.{IsConditionValid}
use Rattle.gh_draw.specs.Descriptions.{description}
use Rattle.gh_lens.specs.declared.judged.Finding.{Finding}
use Rattle.gh_lens.specs.declared.judged.Finding.TheVariants.{Valid, Refuted}
use Rattle.gh_lens.specs.declared.judged.Judged.{Judged}

-- an entry of a callee or of a loop, or the end of a loop: what comes after such a place rests on it
abbrev pub is_ground_work : Check → Bool
is_ground_work (access x) = false
is_ground_work (callee_entry at n es) = true
is_ground_work (loop_entry at n) = true
is_ground_work (return_check at) = false
is_ground_work (loop_end at n) = true

-- b says whether a check of this kind is ground work, wherever it stands
abbrev pub TellsGroundWork : CheckKind → Bool → Type 0
TellsGroundWork kind b = (at : Span) → b ≡ is_ground_work (asked_at kind at)

-- the condition has no counterexample, or it has one
abbrev pub IsFinding : Program → Condition → Finding → Type 0
IsFinding P c Valid = IsConditionValid P c
IsFinding P c Refuted = (t : Trace) × IsDrawnCounterexample P c (drawn_of t)

-- the same of a condition as it is kept
abbrev pub IsFoundFor : Program → kept.Condition → Finding → Type 0
IsFoundFor P r f = IsFinding P (condition_of r) f

-- j tells of c, the k-th condition: its number, its description, whether it is ground work, and what is found
pub record IsJudged (P : Program) (k : ℕ) (c : Condition) (j : Judged) : Type 0 where
  pub number : j.number ≡ k
  pub description : j.description ≡ description P c
  pub ground_work : j.is_ground_work ≡ is_ground_work c.way.check
  pub found : IsFinding P c j.finding

-- the same of a condition as it is kept
abbrev pub IsJudgedFor : Program → ℕ → kept.Condition → Judged → Type 0
IsJudgedFor P k r j = IsJudged P k (condition_of r) j

-- the conditions, numbered from k, one by one
abbrev pub AreJudged : Program → ℕ → List Condition → List Judged → Type 0
AreJudged P k [] [] = Unit {0}
AreJudged P k [] (j ∷ js) = ⊥
AreJudged P k (c ∷ cs) [] = ⊥
AreJudged P k (c ∷ cs) (j ∷ js) = IsJudged P k c j × AreJudged P (suc k) cs js
