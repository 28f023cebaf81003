-- The laws of essences.
use Rattle.std.specs.Prelude.{◌≡◌, ◌↔◌, ◌∷◌, List, Contains}
use Rattle.gh_ast.specs.Plain.{Procedure, Program}
use Rattle.gh_ast.specs.Rules.{IsTyped}
use Rattle.gh_path.specs.Conditions.{Condition, conditions, IsOf}
use Rattle.gh_trace.specs.Traces.{State}
use Rattle.gh_trace.specs.Replay.{Drawn, IsDrawnCounterexample}
use Rattle.gh_trace.specs.Validity.{IsConditionValid, AreCounterexample}
use Rattle.gh_session.specs.Essences.{Essence, essence}
use Rattle.gh_session.specs.Meaning as of_essence

-- c is a condition of the typed program P, and E is its essence
pub record HasEssence (P : Program) (c : Condition) (E : Essence) : Type 0 where
  pub typed : IsTyped P
  pub one : Contains (conditions P) c
  pub procedure : Procedure
  pub of : IsOf P c procedure
  pub is : essence P procedure c ≡ E

-- a condition has one essence
abbrev pub HaveOneEssence : Type 0
HaveOneEssence = (P : Program) (c : Condition) (E F : Essence) → HasEssence P c E → HasEssence P c F → E ≡ F

-- a condition has the counterexamples of its essence
pub record Decides (P : Program) (c : Condition) (E : Essence) : Type 0 where
  pub traces : (x : State) (ys : List State) → AreCounterexample P c (x ∷ ys) ↔ of_essence.Counterexample E x ys
  pub drawn : (xs : List Drawn) → IsDrawnCounterexample P c xs ↔ of_essence.RefutesEssence E xs
  pub valid : IsConditionValid P c ↔ of_essence.IsValid E

abbrev pub EssencesDecide : Type 0
EssencesDecide = (P : Program) (c : Condition) (E : Essence) → HasEssence P c E → Decides P c E

-- two conditions, of one program or of two, have the same counterexamples
pub record AreAlike (P Q : Program) (c d : Condition) : Type 0 where
  pub traces : (x : State) (ys : List State) → AreCounterexample P c (x ∷ ys) ↔ AreCounterexample Q d (x ∷ ys)
  pub drawn : (xs : List Drawn) → IsDrawnCounterexample P c xs ↔ IsDrawnCounterexample Q d xs
  pub valid : IsConditionValid P c ↔ IsConditionValid Q d

abbrev pub SameCounterexamples : Type 0
SameCounterexamples =
    (P Q : Program) (c d : Condition) (E : Essence) → HasEssence P c E → HasEssence Q d E → AreAlike P Q c d
