-- The two answers are exact.
use Rattle.std.specs.Prelude.{List}
use Rattle.gh_ast.specs.Plain.{Program}
use Rattle.gh_path.specs.Kept.{condition_of}
use Rattle.gh_path.specs.declared.condition.Condition as kept
use Rattle.gh_trace.specs.Kept.{drawn_of, HasNoCounterexample}
use Rattle.gh_trace.specs.Replay.{Drawn, IsDrawnCounterexample}
use Rattle.gh_decide.specs.declared.decide.Verdict.TheVariants.{Valid, Refuted}
use Rattle.gh_decide.specs.Verdicts.{VerdictsAreExact}

not_both : (P : Program) (r : kept.Condition) (xs : List Drawn) → HasNoCounterexample P r
    → IsDrawnCounterexample P (condition_of r) xs → ⊥
not_both P r xs none against = none against.procedure against.of against.first.state _ against.counterexample

pub verdicts_are_exact : VerdictsAreExact
verdicts_are_exact P r (Valid s) is = record {
  valid = (λ u. is.valid, λ none. record {});
  refuted = (λ no. absurd no, λ some. absurd (some is.valid));
}
verdicts_are_exact P r (Refuted t) is = record {
  valid = (λ no. absurd no, λ none. absurd (not_both P r (drawn_of t) none is));
  refuted = (λ u none. not_both P r (drawn_of t) none is, λ some. record {});
}
