use Rattle.std.proofs.Common.{◌++◌, length}
use Rattle.gh_log.proofs.AtomLemmas.{Goes}
use Rattle.gh_smt.specs.Reading.{SpellsAssertions}
use Rattle.gh_smt.proofs.reading.read_assertions.Given as goal

abbrev pub invariant-assertions : goal.invariant-assertions
invariant-assertions l =
    Goes (SpellsAssertions l.sizes l.reader.rest.now) (SpellsAssertions l.sizes l.fn.reader.rest.now)
    (λ cs. l.asserted.items ++ cs)

abbrev pub decreases-assertions : goal.decreases-assertions
decreases-assertions l = length l.reader.rest.now
