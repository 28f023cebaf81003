use Rattle.std.proofs.Common.{◌≡◌, drop}
use Rattle.gh_lens.specs.Overviews.{of_rank}
use Rattle.gh_scene.specs.Sought.{first_number}
use Rattle.gh_scene.proofs.sought.first_of_rank.Given as goal

abbrev pub invariant-loop-one : goal.invariant-loop-one
invariant-loop-one l =
    first_number (of_rank l.wanted (drop l.one-index l.judged)) ≡ first_number (of_rank l.wanted l.judged)
