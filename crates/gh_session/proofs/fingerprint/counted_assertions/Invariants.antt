use Rattle.std.proofs.Common.{◌≡◌, map, drop}
use Rattle.gh_ast.specs.Plain.{assertion_of}
use Rattle.gh_session.specs.Fingerprint as plain
use Rattle.gh_session.proofs.fingerprint.counted_assertions.Given as goal

abbrev pub invariant-loop-member : goal.invariant-loop-member
invariant-loop-member l =
    plain.over plain.with_assertion l.mixed (map assertion_of (drop l.member-index l.members))
    ≡ plain.counted plain.with_assertion l.hash (map assertion_of l.members)
