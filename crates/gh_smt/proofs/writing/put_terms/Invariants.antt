use Rattle.std.proofs.Common.{take}
use Rattle.std.specs.List.{flat_map}
use Rattle.gh_smt.specs.Texts.{Adds, spaced_term}
use Rattle.gh_smt.proofs.writing.put_terms.Given as goal

abbrev pub invariant-loop-term : goal.invariant-loop-term
invariant-loop-term l = Adds l.initial.out l.out (flat_map spaced_term (take l.term-index l.terms))
