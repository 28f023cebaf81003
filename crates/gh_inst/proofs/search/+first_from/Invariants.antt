use Rattle.std.proofs.Common.{◌-◌, ◌+◌}
use Rattle.gh_base.specs.Structures.{interpretation_of}
use Rattle.gh_inst.specs.Search.{IsRowTrue}
use Rattle.gh_inst.proofs.WalkLemmas.{IsWalked}
use Rattle.gh_inst.proofs.search.+first_from.Given as goal

abbrev pub decreases-first_from : goal.decreases-first_from
decreases-first_from l = l.variables - l.first

abbrev pub invariant-loop-term : goal.invariant-loop-term
invariant-loop-term l =
    IsWalked (IsRowTrue (interpretation_of l.structure) l.version l.lits) (l.variables - (l.first + 1))
    l.structure.sizes.terms l.first l.term l.tuple l.fn.start
