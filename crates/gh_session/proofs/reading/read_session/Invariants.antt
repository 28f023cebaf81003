use Rattle.std.proofs.Common.{length}
use Rattle.gh_session.specs.Parts.{IsReadBefore}
use Rattle.gh_session.proofs.reading.read_session.Given as goal

abbrev pub invariant-loop-rest : goal.invariant-loop-rest
invariant-loop-rest l = IsReadBefore l.text l.first.text.now l.edits.items l.number l.rest

abbrev pub decreases-loop-rest : goal.decreases-loop-rest
decreases-loop-rest l = length l.rest
