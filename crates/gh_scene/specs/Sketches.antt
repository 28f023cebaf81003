-- The scene of a counterexample, and what is answered for a drawing.
use Rattle.std.specs.Prelude.{◌≡◌, ℕ, List, ◌∷◌, map}
use Rattle.gh_ast.specs.Plain.{Procedure, Program}
use Rattle.gh_assert.specs.Heaps.{Heap}
use Rattle.gh_draw.specs.Descriptions.{description}
use Rattle.gh_path.specs.Conditions.{Condition, IsConditionAt, IsNoNumber, IsOf}
use Rattle.gh_path.specs.Kept.{condition_of}
use Rattle.gh_path.specs.declared.condition.Condition as kept
use Rattle.gh_picture.specs.declared.scene.Row.{Row}
use Rattle.gh_picture.specs.declared.scene.Scene.{Scene}
use Rattle.gh_scene.specs.declared.sketch.Sketch.{Sketch}
use Rattle.gh_scene.specs.declared.sketch.Sketch.TheVariants.{Shown, Fails, Unnumbered}
use Rattle.gh_scene.specs.Rows.{IsStartRow, left_at_end, AreRows}
use Rattle.gh_scene.specs.Spare.{IsSpare}
use Rattle.gh_trace.specs.declared.state.State.{State}
use Rattle.gh_trace.specs.Kept.{state_of, drawn}
use Rattle.gh_trace.specs.Replay.{IsDrawnCounterexample, FirstFailure}
use Rattle.gh_trace.specs.Traces.{last_state}

-- the description of the condition, the row of the first state, and a row for each later one
pub record IsSceneOver (P : Program) (c : Condition) (x : State) (ys : List State) (scene : Scene) : Type 0 where
  pub procedure : Procedure
  pub of : IsOf P c procedure
  pub title : scene.title ≡ description P c
  pub spare : Heap
  pub spare_is : IsSpare procedure c.way.check (last_state (state_of x) (map state_of ys)) spare
  pub first : Row
  pub rest : List Row
  pub rows : scene.rows.items ≡ first ∷ rest
  pub first_is : IsStartRow x (left_at_end ys spare) first
  pub rest_are : AreRows P procedure c.way.steps (x ∷ ys) spare rest

-- the same of a condition as it is kept
abbrev pub IsSceneFor : Program → kept.Condition → State → List State → Scene → Type 0
IsSceneFor P r x ys scene = IsSceneOver P (condition_of r) x ys scene

-- the states are a counterexample of the condition, and the scene shows them
pub record IsSceneOf (P : Program) (c : Condition) (xs : List State) (scene : Scene) : Type 0 where
  pub first : State
  pub others : List State
  pub states : xs ≡ first ∷ others
  pub refutes : IsDrawnCounterexample P c (map drawn xs)
  pub shows : IsSceneOver P c first others scene

-- a scene of states for the condition of a number, or their first failure, or that there is no such condition
abbrev pub IsSketch : Program → ℕ → List State → Sketch → Type 0
IsSketch P n xs (Shown scene) = (c : Condition) × IsConditionAt P n c × IsSceneOf P c xs scene
IsSketch P n xs (Fails k) = (c : Condition) × IsConditionAt P n c × FirstFailure P c (map drawn xs) k
IsSketch P n xs Unnumbered = IsNoNumber P n
