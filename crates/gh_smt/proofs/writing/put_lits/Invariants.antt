use Rattle.std.proofs.Common.{take}
use Rattle.std.specs.List.{flat_map}
use Rattle.gh_smt.specs.Texts.{Adds, spaced_lit}
use Rattle.gh_smt.proofs.writing.put_lits.Given as goal

abbrev pub invariant-loop-lit : goal.invariant-loop-lit
invariant-loop-lit l = Adds l.initial.out l.out (flat_map spaced_lit (take l.lit-index l.lits))
