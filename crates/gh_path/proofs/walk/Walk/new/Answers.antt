use Rattle.std.proofs.Common.{arith}
use Rattle.gh_path.proofs.LeftLemmas.{from_first}
use Rattle.gh_path.proofs.walk.Walk.new.Goals as goal

pub returns : goal.returns
returns c = λ P cs are count.
    c.at_start.ensures.at P cs (omega (arith, count))
    (λ less. from_first P c.args.starts.now c.first.result cs are (omega (arith, less, count))
    (λ r rs same. c.first.ensures r rs same))
