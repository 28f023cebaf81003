-- What a session knows of essences.
use Rattle.std.specs.Prelude.{◌≡◌, ◌++◌, [], ◌∷◌, List, map, Bool, true, false, Option, MatchOption, Contains}
use Rattle.std.specs.Option.{option_map}
use Rattle.gh_ast.specs.Plain.{Program}
use Rattle.gh_path.specs.declared.condition.Condition as kept
use Rattle.gh_path.specs.Kept.{condition_of}
use Rattle.gh_trace.specs.Kept.{drawn_of}
use Rattle.gh_trace.specs.Replay.{Drawn}
use Rattle.gh_trace.specs.declared.state.Trace.{Trace}
use Rattle.gh_session.specs.Essences.{Essence}
use Rattle.gh_session.specs.Meaning.{RefutesEssence, IsValid}
use Rattle.gh_session.specs.Laws.{HasEssence}

-- an essence with a counterexample, or with none
pub record Known : Type 0 where
  pub essence : Essence
  pub answer : Option (List Drawn)

abbrev pub known : Essence → Option Trace → Known
known E answer = record { essence = E; answer = option_map drawn_of answer }

abbrev pub essences : List Known → List Essence
essences = map (λ k. k.essence)

-- what is known is right: without an answer the essence is valid, and an answer refutes it
abbrev pub IsRight : Known → Type 0
IsRight k = MatchOption k.answer (IsValid k.essence) (RefutesEssence k.essence)

abbrev pub AreRight : List Known → Type 0
AreRight ks = (k : Known) → Contains ks k → IsRight k

-- the essence was known, and nothing is added; or it is new, and is added last with its answer
abbrev pub AddsKnown : List Known → Essence → Option Trace → Bool → List Known → Type 0
AddsKnown old E answer false new = Contains (essences old) E × (new ≡ old)
AddsKnown old E answer true new = (Contains (essences old) E → ⊥) × (new ≡ old ++ known E answer ∷ [])

-- the same for the essence of the condition r of P
pub record LearnsEssence (P : Program) (r : kept.Condition) (old : List Known) (answer : Option Trace) (added : Bool)
    (new : List Known) : Type 0 where
  pub essence : Essence
  pub has : HasEssence P (condition_of r) essence
  pub adds : AddsKnown old essence answer added new
