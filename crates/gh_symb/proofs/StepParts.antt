-- The two parts of a step over terms: what it uses, and the rest.
use Rattle.std.proofs.Common.{refl, sym}
use Rattle.gh_symb.specs.Symbolic.{step_used}
use Rattle.gh_symb.specs.Phases.{StepsHaveTwoParts}
use Rattle.gh_symb.proofs.FollowLemmas.{done_walked, encoding_is}
use Rattle.gh_symb.proofs.StatesInside.{use_extends}

-- no use begins a version
pub two_parts : StepsHaveTwoParts
two_parts P proc x s = (
  sym (done_walked P proc x s),
  sym (encoding_is P proc x s (step_used proc x s) refl (use_extends proc x s).version),
)
