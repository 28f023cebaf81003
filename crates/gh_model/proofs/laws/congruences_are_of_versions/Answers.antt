use Rattle.gh_model.proofs.reading.AxiomRows.{congruences_are_of_versions}
use Rattle.gh_model.proofs.laws.congruences_are_of_versions.Goals as goal

pub returns : goal.returns
returns c s m = congruences_are_of_versions s m
