-- What is decided of the conditions of a program, and which of it is new.
use Rattle.std.specs.Prelude.{◌≡◌, ℕ, List, [], ◌∷◌, ◌++◌, length, take, Option, Some, None, Contains}
use Rattle.gh_ast.specs.Plain.{Program}
use Rattle.gh_path.specs.Conditions.{Condition, conditions}
use Rattle.gh_path.specs.declared.condition.Condition as kept
use Rattle.gh_trace.specs.Refuted.{ShowsFirst}
use Rattle.gh_trace.specs.Validity.{IsConditionValid, ListedAreValid}
use Rattle.gh_trace.specs.declared.refutation.Refutation.{Refutation}
use Rattle.gh_session.specs.declared.kept.Kept.{Kept}
use Rattle.gh_session.specs.declared.session.Lesson.{Lesson}
use Rattle.gh_session.specs.declared.session.SessionOutcome.{SessionOutcome}
use Rattle.gh_session.specs.Essences.{Essence}
use Rattle.gh_session.specs.Laws.{HasEssence}
use Rattle.gh_session.specs.Known.{Known, essences, LearnsEssence}
use Rattle.gh_session.specs.Places.{knowledge}

-- what is learnt for the condition r of P, of what is kept before and after
abbrev pub IsLessonOn : Program → kept.Condition → List Kept → List Kept → Lesson → Type 0
IsLessonOn P r old new l = LearnsEssence P r (knowledge old) l.answer l.is_new (knowledge new)

-- no refutation: all conditions are valid
abbrev pub IsOutcome : Program → Option Refutation → Type 0
IsOutcome P None = ListedAreValid P
IsOutcome P (Some r) = ShowsFirst P r.number r.trace

-- the conditions up to the first that isn't valid, or to the last
abbrev pub asked : Program → Option Refutation → List Condition
asked P None = conditions P
asked P (Some r) = take r.number (conditions P)

-- the essences are those of the conditions of P, one by one
abbrev pub AreEssences : Program → List Condition → List Essence → Type 0
AreEssences P [] [] = Unit {0}
AreEssences P [] (E ∷ Es) = ⊥
AreEssences P (c ∷ cs) [] = ⊥
AreEssences P (c ∷ cs) (E ∷ Es) = HasEssence P c E × AreEssences P cs Es

-- of some essences those that are not among the old ones, each once, in the order in which they first appear
pub data AreNew : List Essence → List Essence → List Essence → Type 0 where
  none : {old : List Essence} → AreNew old [] []
  is_known : {old Es new : List Essence} {E : Essence} → Contains old E → AreNew old Es new → AreNew old (E ∷ Es) new
  is_new : {old Es new : List Essence} {E : Essence} → (Contains old E → ⊥) → AreNew (old ++ E ∷ []) Es new
      → AreNew old (E ∷ Es) (E ∷ new)

-- n essences of the conditions cs are new, and are known after what was known
pub record Grows (P : Program) (cs : List Condition) (old : List Known) (n : ℕ) (new : List Known) : Type 0 where
  pub all : List Essence
  pub are : AreEssences P cs all
  pub added : List Known
  pub whole : new ≡ old ++ added
  pub are_new : AreNew (essences old) all (essences added)
  pub count : n ≡ length added

-- the first k conditions are valid, and n of their essences are new
pub record AreDecided (P : Program) (k : ℕ) (old : List Known) (n : ℕ) (new : List Known) : Type 0 where
  pub valid : (d : Condition) → Contains (take k (conditions P)) d → IsConditionValid P d
  pub grows : Grows P (take k (conditions P)) old n new

-- `decided` counts what is new of the conditions that were asked, and the session knows it after what it knew
abbrev pub Tells : Program → List Kept → SessionOutcome → List Kept → Type 0
Tells P old o new = Grows P (asked P o.refuted) (knowledge old) o.decided (knowledge new)

-- only some first conditions were decided
abbrev pub IsCutShort : Program → List Kept → List Kept → Type 0
IsCutShort P old new = (k : ℕ) × (n : ℕ) × AreDecided P k (knowledge old) n (knowledge new)
