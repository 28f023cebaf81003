use Rattle.std.proofs.Common.{◌++◌, length}
use Rattle.gh_log.specs.Reading.{SpellsShown}
use Rattle.gh_log.proofs.AtomLemmas.{Goes}
use Rattle.gh_log.proofs.cursor.Reader.shown.Given as goal

abbrev pub invariant-literals : goal.invariant-literals
invariant-literals l = Goes (SpellsShown l.self.rest.now) (SpellsShown l.fn.self.rest.now) (λ c. l.clause.items ++ c)

abbrev pub decreases-literals : goal.decreases-literals
decreases-literals l = length l.self.rest.now
