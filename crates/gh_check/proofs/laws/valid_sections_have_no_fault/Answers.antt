use Rattle.gh_check.proofs.SectionLemmas.{apart}
use Rattle.gh_check.proofs.laws.valid_sections_have_no_fault.Goals as goal

pub returns : goal.returns
returns c = apart
