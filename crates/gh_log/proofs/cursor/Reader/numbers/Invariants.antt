use Rattle.std.proofs.Common.{◌++◌, length}
use Rattle.gh_log.specs.Reading.{SpellsNumbers}
use Rattle.gh_log.proofs.AtomLemmas.{Goes}
use Rattle.gh_log.proofs.cursor.Reader.numbers.Given as goal

abbrev pub invariant-numbers : goal.invariant-numbers
invariant-numbers l =
    Goes (SpellsNumbers l.self.rest.now) (SpellsNumbers l.fn.self.rest.now) (λ ns. l.numbers.items ++ ns)

abbrev pub decreases-numbers : goal.decreases-numbers
decreases-numbers l = length l.self.rest.now
