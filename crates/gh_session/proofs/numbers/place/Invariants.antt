use Rattle.std.proofs.Common.{◌≡◌, ◌+◌, drop}
use Rattle.gh_session.specs.Numbering as numbering
use Rattle.gh_session.proofs.numbers.place.Given as goal

abbrev pub invariant-loop-listed : goal.invariant-loop-listed
invariant-loop-listed l =
    (l.passed ≡ l.listed-index)
    × (l.passed + numbering.place l.number (drop l.listed-index l.list) ≡ numbering.place l.number l.list)
