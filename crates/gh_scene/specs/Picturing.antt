-- The picture of a drawing.
use Rattle.std.specs.Prelude.{ℕ, List, map}
use Rattle.gh_ast.specs.Plain.{Program}
use Rattle.gh_path.specs.Conditions.{Condition, IsConditionAt, IsNoNumber}
use Rattle.gh_picture.specs.declared.scene.Scene.{Scene}
use Rattle.gh_picture.specs.Pictures.{IsPicture}
use Rattle.gh_scene.specs.declared.pictured.Pictured.{Pictured}
use Rattle.gh_scene.specs.declared.pictured.Pictured.TheVariants.{Drawn, Fails, Unnumbered}
use Rattle.gh_scene.specs.Sketches.{IsSceneOf}
use Rattle.gh_trace.specs.declared.state.State.{State}
use Rattle.gh_trace.specs.Kept.{drawn}
use Rattle.gh_trace.specs.Replay.{FirstFailure}

-- the text is the picture of a scene of the states, which are a counterexample of the condition
pub record IsDrawn (P : Program) (c : Condition) (xs : List State) (text : List ℕ) : Type 0 where
  pub scene : Scene
  pub of_states : IsSceneOf P c xs scene
  pub picture : IsPicture scene text

-- a picture of states for the condition of a number, or their first failure, or that there is no such condition
abbrev pub IsPictured : Program → ℕ → List State → Pictured → Type 0
IsPictured P n xs (Drawn text) = (c : Condition) × IsConditionAt P n c × IsDrawn P c xs text
IsPictured P n xs (Fails k) = (c : Condition) × IsConditionAt P n c × FirstFailure P c (map drawn xs) k
IsPictured P n xs Unnumbered = IsNoNumber P n
