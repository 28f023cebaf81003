use Rattle.std.proofs.Common.{◌≡◌, ◌++◌, ◌-◌, take, replicate}
use Rattle.gh_base.specs.Atoms.{term}
use Rattle.gh_inst.proofs.instances.name_at.Given as goal

abbrev pub invariant-loop-i : goal.invariant-loop-i
invariant-loop-i g l = l.terms ≡ take l.i l.tuple ++ replicate (4 - l.i) (term 0)
