use Rattle.std.proofs.Common.{length}
use Rattle.gh_log.proofs.PlaceLemmas.{IsUpTo}
use Rattle.gh_log.proofs.reading.read_log.Given as goal

abbrev pub invariant-sections : goal.invariant-sections
invariant-sections l = IsUpTo l.text l.version l.sections.items l.at l.reader.rest.now

abbrev pub decreases-sections : goal.decreases-sections
decreases-sections l = length l.reader.rest.now
