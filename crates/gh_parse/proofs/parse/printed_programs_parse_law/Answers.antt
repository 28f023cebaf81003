use Rattle.gh_parse.proofs.ReadBack.{printed_parse}
use Rattle.gh_parse.proofs.parse.printed_programs_parse_law.Goals as goal

pub returns : goal.returns
returns c = printed_parse
