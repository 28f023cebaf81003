use Rattle.gh_base.proofs.HintLemmas.{follow_by_units, are_true}
use Rattle.gh_base.proofs.propagation.hints_are_sound.Goals as goal

pub returns : goal.returns
returns c = record { units = follow_by_units; truth = are_true }
