use Rattle.gh_log.proofs.SectionLemmas.{refute}
use Rattle.gh_log.proofs.laws.valid_sections_refute.Goals as goal

pub returns : goal.returns
returns c = refute
