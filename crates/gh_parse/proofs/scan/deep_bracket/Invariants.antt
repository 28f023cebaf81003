use Rattle.gh_parse.specs.Scanning.{cleared_from}
use Rattle.gh_parse.proofs.Scanning.{IsScan}
use Rattle.gh_parse.proofs.scan.deep_bracket.Given as goal

abbrev pub invariant-loop-byte : goal.invariant-loop-byte
invariant-loop-byte l = record {
  next : (goal.iterator-loop-byte).can_next l.byte-iterator;
  scan : IsScan l.fn.text l.yielded (cleared_from l.byte-iterator.in_comment l.byte-iterator.rest.now) l.place l.opened
      l.closed;
}
