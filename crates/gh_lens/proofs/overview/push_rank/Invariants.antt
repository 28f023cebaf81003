use Rattle.std.proofs.Common.{◌≡◌, ◌++◌, drop}
use Rattle.gh_lens.specs.Overviews.{judged_lines, of_rank}
use Rattle.gh_lens.proofs.overview.push_rank.Given as goal

abbrev pub invariant-loop-one : goal.invariant-loop-one
invariant-loop-one l =
    l.text ++ judged_lines (of_rank l.wanted (drop l.one-index l.judged))
    ≡ l.initial.text ++ judged_lines (of_rank l.wanted l.judged)
