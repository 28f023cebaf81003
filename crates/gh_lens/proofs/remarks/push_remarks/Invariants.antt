use Rattle.std.proofs.Common.{map, take}
use Rattle.gh_lens.specs.Stated.{subject_of, AddsRemarks}
use Rattle.gh_lens.proofs.remarks.push_remarks.Given as goal

abbrev pub invariant-loop-one : goal.invariant-loop-one
invariant-loop-one l = AddsRemarks l.initial.remarks.items l.remarks.items (map subject_of (take l.one-index l.stated))
