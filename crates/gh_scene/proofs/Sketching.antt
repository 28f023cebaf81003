-- The scenes of drawings.
use Rattle.std.specs.Prelude.{◌≡◌, ℕ, List, [], ◌∷◌, ◌++◌, map, Some}
use Rattle.std.proofs.Common.{refl, sym, ◌∙◌, ap, subst}
use Rattle.gh_ast.specs.Plain.{Procedure, Program}
use Rattle.gh_assert.specs.Heaps.{Heap}
use Rattle.gh_draw.specs.Kept.{Describes}
use Rattle.gh_path.specs.Answers.{IsNumbered}
use Rattle.gh_path.specs.Conditions.{IsOf}
use Rattle.gh_path.specs.Kept.{condition_of, step_of}
use Rattle.gh_path.specs.declared.condition.Condition as kept
use Rattle.gh_picture.specs.declared.scene.Row.{Row}
use Rattle.gh_picture.specs.declared.scene.Scene.{Scene}
use Rattle.gh_scene.specs.Rows.{IsStartRow, left_at_end, AreRows, AddsRows}
use Rattle.gh_scene.specs.Sketches.{IsSceneFor, IsSketch}
use Rattle.gh_scene.specs.Spare.{IsSpare}
use Rattle.gh_scene.specs.declared.sketch.Sketch.TheVariants.{Shown, Fails}
use Rattle.gh_trace.specs.declared.state.State.{State}
use Rattle.gh_trace.specs.declared.replay.ReplayError.TheVariants.{Step}
use Rattle.gh_trace.specs.Kept.{state_of, drawn, IsFailure}
use Rattle.gh_trace.specs.Replay.{IsDrawnCounterexample}
use Rattle.gh_trace.specs.Traces.{last_state}

-- the rows and the title make up a scene
pub scene_over : (P : Program) (proc : Procedure) (r : kept.Condition) (x : State) (ys xs : List State) (scene : Scene)
    (spare left : Heap) (title : List ℕ) (start : Row) (none pushed new : List Row)
    → IsOf P (condition_of r) proc → xs ≡ x ∷ ys → Describes P r title → scene.title ≡ title → scene.rows.items ≡ new
    → IsSpare proc (condition_of r).way.check (last_state (state_of x) (map state_of ys)) spare
    → left ≡ left_at_end ys spare → IsStartRow x left start
    → none ≡ [] → pushed ≡ none ++ start ∷ [] → AddsRows P proc (map step_of r.steps.items) xs spare pushed new
    → IsSceneFor P r x ys scene
scene_over P proc r x ys xs scene spare left title start none pushed new own states told titled rows spared at_left
    is_start empty push adds =
    let first : pushed ≡ start ∷ [] = push ∙ ap (λ rs. rs ++ start ∷ []) empty in
    record {
      procedure = proc;
      of = own;
      title = titled ∙ told;
      spare = spare;
      spare_is = spared;
      first = start;
      rest = adds.rest;
      rows = rows ∙ adds.whole ∙ ap (λ rs. rs ++ adds.rest) first;
      first_is = subst (λ h. IsStartRow x h start) at_left is_start;
      rest_are = subst (λ zs. AreRows P proc (map step_of r.steps.items) zs spare adds.rest) states adds.rows;
    }

-- a drawing that is a counterexample
pub sketched : (P : Program) (n : ℕ) (r : kept.Condition) (x : State) (ys xs : List State) (scene : Scene)
    → IsNumbered P n (Some r) → xs ≡ x ∷ ys → IsDrawnCounterexample P (condition_of r) (map drawn xs) → IsSceneFor P r x ys scene
    → IsSketch P n xs (Shown scene)
sketched P n r x ys xs scene found states refuted shows =
    (condition_of r, found, record { first = x; others = ys; states = states; refutes = refuted; shows = shows })

-- a drawing that fails
pub sketch_fails : (P : Program) (n k : ℕ) (r : kept.Condition) (xs : List State) → IsNumbered P n (Some r)
    → IsFailure P r (map drawn xs) (Step k) → IsSketch P n xs (Fails k)
sketch_fails P n k r xs found failure = (condition_of r, found, failure)

-- a drawing of no states
pub no_states : (P : Program) (n : ℕ) (r : kept.Condition) (proc : Procedure) (xs : List State)
    → IsNumbered P n (Some r) → IsOf P (condition_of r) proc → xs ≡ [] → IsSketch P n xs (Fails 0)
no_states P n r proc xs found own e =
    subst (λ ys. IsSketch P n ys (Fails 0)) (sym e) (condition_of r, found, (proc, own, refl))
