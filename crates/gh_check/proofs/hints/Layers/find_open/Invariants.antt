use Rattle.std.proofs.Common.{take}
use Rattle.gh_sat.specs.Theory.{IsRefutedBy}
use Rattle.gh_check.proofs.hints.Layers.find_open.Given as goal

abbrev pub invariant-loop-lit : goal.invariant-loop-lit
invariant-loop-lit l = IsRefutedBy l.self.lits (take l.lit-index l.clause)
