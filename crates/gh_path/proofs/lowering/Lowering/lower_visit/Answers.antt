use Rattle.std.proofs.Common.{refl}
use Rattle.gh_path.specs.Graphs.{access, access_step}
use Rattle.gh_path.specs.declared.node.Step.TheVariants as step
use Rattle.gh_path.proofs.ShownLemmas.{add_guard}
use Rattle.gh_path.proofs.lowering.Lowering.lower_visit.Goals as goal

pub returns-clause-adds : goal.returns-clause-adds
returns-clause-adds c = λ g shows.
    add_guard c.args.nodes.now c.add.new.self c.in_ok-place.place c.args.next _ (step.Access c.args.at)
    (access c.args.at.now) (access_step c.args.at.now) g c.in_ok-place.ensures.added c.in_ok-place.ensures.place refl
    refl shows
