use Rattle.std.proofs.Common.{refl}
use Rattle.gh_path.specs.Graphs.{new_step}
use Rattle.gh_path.specs.declared.node.Step.TheVariants as step
use Rattle.gh_path.proofs.ShownLemmas.{add_move}
use Rattle.gh_path.proofs.lowering.Lowering.lower_new.Goals as goal

pub returns-clause-adds : goal.returns-clause-adds
returns-clause-adds c = λ g shows.
    add_move c.args.nodes.now c.add.new.self c.in_ok-place.place c.args.next (step.New c.args.target)
    (new_step c.args.target.now) g c.in_ok-place.ensures.added c.in_ok-place.ensures.place refl shows
