use Rattle.std.proofs.Common.{take}
use Rattle.std.specs.List.{flat_map}
use Rattle.gh_log.specs.Texts.{Adds, term_text}
use Rattle.gh_log.proofs.writing.put_terms.Given as goal

abbrev pub invariant-loop-term : goal.invariant-loop-term
invariant-loop-term l = Adds l.initial.out l.out (flat_map term_text (take l.term-index l.terms))
