use Rattle.std.proofs.Common.{◌-◌, ◌+◌}
use Rattle.gh_base.specs.Structures.{interpretation_of}
use Rattle.gh_inst.specs.Search.{IsRowTrue}
use Rattle.gh_inst.proofs.WalkLemmas.{IsWalked}
use Rattle.gh_inst.proofs.search.+first_open.Given as goal

abbrev pub decreases-first_open : goal.decreases-first_open
decreases-first_open l = l.variables - l.first

abbrev pub invariant-loop-term : goal.invariant-loop-term
invariant-loop-term l =
    let s = l.worded.structure.now in
    IsWalked (IsRowTrue (interpretation_of s) l.worded.version l.lits)
    (l.variables - (l.first + 1)) s.sizes.terms l.first
    l.term l.tuple l.fn.start
