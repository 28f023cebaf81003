use Rattle.gh_log.proofs.TableLemmas.{between}
use Rattle.gh_log.proofs.lines.shown.Goals as goal

pub returns : goal.returns
returns g c = between c.args.part.from c.args.part.to c.args.table.now c.requires.order
