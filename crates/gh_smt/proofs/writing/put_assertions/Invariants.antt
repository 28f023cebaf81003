use Rattle.std.proofs.Common.{take}
use Rattle.std.specs.List.{flat_map}
use Rattle.gh_smt.specs.Texts.{Adds, assertion_text}
use Rattle.gh_smt.proofs.writing.put_assertions.Given as goal

abbrev pub invariant-loop-clause : goal.invariant-loop-clause
invariant-loop-clause l = Adds l.initial.out l.out (flat_map assertion_text (take l.clause-index l.asserted))
