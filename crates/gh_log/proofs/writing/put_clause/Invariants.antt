use Rattle.std.proofs.Common.{take}
use Rattle.gh_log.specs.Texts.{Adds, lits_text}
use Rattle.gh_log.proofs.writing.put_clause.Given as goal

abbrev pub invariant-loop-lit : goal.invariant-loop-lit
invariant-loop-lit l = Adds l.initial.out l.out (lits_text (take l.lit-index l.lits))
