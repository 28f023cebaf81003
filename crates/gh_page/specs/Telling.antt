-- The smallest counterexample of a condition, told and drawn.
use Rattle.std.specs.Prelude.{◌≡◌, ℕ, List, [], ◌++◌, map}
use Rattle.gh_ast.specs.Plain.{Program}
use Rattle.gh_draw.specs.declared.drawing.Drawing.{Drawing}
use Rattle.gh_lens.specs.Stories.{IsToldOf}
use Rattle.gh_path.specs.Conditions.{Condition, IsConditionAt, IsNoNumber}
use Rattle.gh_scene.specs.Picturing.{IsDrawn}
use Rattle.gh_scene.specs.Sought.{IsSmallestOf}
use Rattle.gh_top.specs.declared.status.Status.{Status}
use Rattle.gh_top.specs.declared.status.Status.TheVariants.{Verified, Listed, Ran, Refuted, Usage, ReadFault}
use Rattle.gh_top.specs.declared.status.Status.TheVariants.{TextRefused, LogRefused, WriteFault, OutOfMemory, Stopped}
use Rattle.gh_top.specs.declared.status.Status.TheVariants.{Unmet}
use Rattle.gh_trace.specs.Validity.{IsConditionValid}
use Rattle.gh_page.specs.Fronts.{IsReplyOn}
use Rattle.gh_page.specs.declared.reply.Reply.{Reply}

-- a story of states, and their picture behind it
pub record IsStoryAndPicture (P : Program) (n : ℕ) (d : Drawing) (text : List ℕ) : Type 0 where
  pub condition : Condition
  pub at : IsConditionAt P n condition
  pub story : List ℕ
  pub told : IsToldOf P condition d.trace.states.items story
  pub picture : List ℕ
  pub drawn : IsDrawn P condition d.trace.states.items picture
  pub text_is : text ≡ story ++ picture

-- those of a counterexample with the fewest cells
pub record IsToldAndDrawn (P : Program) (n : ℕ) (text : List ℕ) : Type 0 where
  pub drawing : Drawing
  pub smallest : IsSmallestOf P n drawing
  pub shown : IsStoryAndPicture P n drawing text

-- by the status: the smallest counterexample is told and drawn, the condition is valid, or there is none of the number
abbrev pub TellsBy : Program → ℕ → Status → List ℕ → Type 0
TellsBy P n Refuted text = IsToldAndDrawn P n text
TellsBy P n Verified text = (c : Condition) × IsConditionAt P n c × IsConditionValid P c × (text ≡ [])
TellsBy P n LogRefused text = IsNoNumber P n × (text ≡ [])
TellsBy P n s text = ⊥

abbrev pub IsToldIn : Program → ℕ → Reply → Type 0
IsToldIn P n r = TellsBy P n r.status r.text

-- the same in the program of a text; or why the text is refused
abbrev pub IsToldAbout : List ℕ → ℕ → Reply → Type 0
IsToldAbout text n r = IsReplyOn text (λ P. IsToldIn P n) r
