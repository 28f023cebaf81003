use Rattle.gh_path.specs.Graphs.{reads}
use Rattle.gh_path.proofs.ShownLemmas.{then}
use Rattle.gh_path.proofs.lowering.Lowering.lower_sides.Goals as goal

pub returns-clause-adds : goal.returns-clause-adds
returns-clause-adds c = λ g shows.
    let ns = c.args.nodes.now in
    let k = reads c.args.right.now g in
    let one = c.in_ok-second.ensures.adds g shows in
    then ns c.lower_read.new.nodes c.lower_read-2.new.nodes c.in_ok-second.second c.in_ok-first.first k
    (reads c.args.left.now k) one (c.in_ok-first.ensures.adds k one.shows)
