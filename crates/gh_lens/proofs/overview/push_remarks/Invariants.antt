use Rattle.std.proofs.Common.{◌≡◌, ◌++◌, drop}
use Rattle.gh_lens.specs.Overviews.{remark_lines}
use Rattle.gh_lens.proofs.overview.push_remarks.Given as goal

abbrev pub invariant-loop-remark : goal.invariant-loop-remark
invariant-loop-remark l =
    l.text ++ remark_lines (drop l.remark-index l.remarks) ≡ l.initial.text ++ remark_lines l.remarks
