use Rattle.std.proofs.Common.{◌++◌, length}
use Rattle.gh_log.proofs.AtomLemmas.{Goes}
use Rattle.gh_smt.specs.Reading.{SpellsLits}
use Rattle.gh_smt.proofs.literals.read_lits.Given as goal

abbrev pub invariant-literals : goal.invariant-literals
invariant-literals l =
    Goes (SpellsLits l.sizes l.reader.rest.now) (SpellsLits l.sizes l.fn.reader.rest.now) (λ c. l.clause ++ c)

abbrev pub decreases-literals : goal.decreases-literals
decreases-literals l = length l.reader.rest.now
