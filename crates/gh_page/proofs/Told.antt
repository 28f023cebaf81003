-- What is told of a smallest counterexample, and its picture.
use Rattle.std.specs.Prelude.{◌≡◌, ℕ, ◌-◌, List, ◌++◌, slice_get}
use Rattle.std.proofs.Common.{refl, sym, subst, inl, inr, arith}
use Rattle.std.proofs.lemmas.Option.{slice_get_within}
use Rattle.gh_ast.specs.Plain.{Program}
use Rattle.gh_ast.proofs.Lists.{one_value}
use Rattle.gh_base.specs.declared.text.Text.{Text}
use Rattle.gh_draw.specs.declared.drawing.Drawing.{Drawing}
use Rattle.gh_lens.specs.Stories.{IsExplained, IsToldOf}
use Rattle.gh_lens.specs.declared.story.Explained.{Explained}
use Rattle.gh_lens.specs.declared.story.Explained.TheVariants as story
use Rattle.gh_path.specs.Conditions.{Condition, conditions, IsConditionAt, IsNoNumber}
use Rattle.gh_scene.specs.Picturing.{IsPictured, IsDrawn}
use Rattle.gh_scene.specs.Sought.{IsSmallestOf}
use Rattle.gh_scene.specs.declared.pictured.Pictured.{Pictured}
use Rattle.gh_scene.specs.declared.pictured.Pictured.TheVariants as picture
use Rattle.gh_trace.proofs.Failures.{failures_are_one}
use Rattle.gh_trace.specs.Kept.{drawn_of}
use Rattle.gh_trace.specs.Replay.{FirstFailure}
use Rattle.gh_page.specs.Telling.{IsToldAndDrawn}

-- the condition of the drawing, by the drawing's number
here : (P : Program) (n : ℕ) (d : Drawing) → (s : IsSmallestOf P n d) → IsConditionAt P d.condition s.condition
here P n d s = subst (λ m. IsConditionAt P m s.condition) (sym s.number) s.at

same : (P : Program) (n : ℕ) (d : Drawing) (c : Condition) → (s : IsSmallestOf P n d) → IsConditionAt P d.condition c
    → c ≡ s.condition
same P n d c s at = one_value (slice_get (conditions P) (d.condition - 1)) c s.condition at.1 (here P n d s).1

fails_not : (P : Program) (n k : ℕ) (d : Drawing) (c : Condition) → IsSmallestOf P n d → IsConditionAt P d.condition c
    → FirstFailure P c (drawn_of d.trace) k → ⊥
fails_not P n k d c s at fails =
    failures_are_one.none P s.condition (drawn_of d.trace) s.refutes k
    (subst (λ x. FirstFailure P x (drawn_of d.trace) k) (same P n d c s at) fails)

outside_not : (P : Program) (m : ℕ) (c : Condition) → IsConditionAt P m c → IsNoNumber P m → ⊥
outside_not P m c at (inl none) = omega (arith, at.0, none)
outside_not P m c at (inr past) =
    omega (arith, at.0, past, slice_get_within (conditions P) (m - 1) c at.1)

pub told_one : (P : Program) (n : ℕ) (d : Drawing) (e : Explained) → IsSmallestOf P n d
    → IsExplained P d.condition d.trace.states.items e → ((x : Text) → e ≡ story.Told x → ⊥) → ⊥
told_one P n d (story.Told t) s is not = not t refl
told_one P n d (story.Fails k) s is not = fails_not P n k d is.0 s is.1 is.2
told_one P n d story.Unnumbered s is not = outside_not P d.condition s.condition (here P n d s) is

pub drawn_one : (P : Program) (n : ℕ) (d : Drawing) (e : Pictured) → IsSmallestOf P n d
    → IsPictured P d.condition d.trace.states.items e → ((x : Text) → e ≡ picture.Drawn x → ⊥) → ⊥
drawn_one P n d (picture.Drawn t) s is not = not t refl
drawn_one P n d (picture.Fails k) s is not = fails_not P n k d is.0 s is.1 is.2
drawn_one P n d picture.Unnumbered s is not = outside_not P d.condition s.condition (here P n d s) is

-- both, one behind the other
pub both : (P : Program) (n : ℕ) (d : Drawing) (t p new : List ℕ) → IsSmallestOf P n d
    → IsExplained P d.condition d.trace.states.items (story.Told t)
    → IsPictured P d.condition d.trace.states.items (picture.Drawn p) → new ≡ t ++ p → IsToldAndDrawn P n new
both P n d t p new s told drawn is = record {
  drawing = d;
  smallest = s;
  shown =
      record {
        condition = s.condition;
        at = s.at;
        story = t;
        told = subst (λ c. IsToldOf P c d.trace.states.items t) (same P n d told.0 s told.1) told.2;
        picture = p;
        drawn = subst (λ c. IsDrawn P c d.trace.states.items p) (same P n d drawn.0 s drawn.1) drawn.2;
        text_is = is;
      };
}
