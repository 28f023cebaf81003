use Rattle.gh_draw.proofs.DescribedLines.{description_is_other}
use Rattle.gh_draw.proofs.laws.descriptions_are_lines.Goals as goal

pub returns : goal.returns
returns g source P c spells there = description_is_other source P c spells there
