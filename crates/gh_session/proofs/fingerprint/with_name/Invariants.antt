use Rattle.std.proofs.Common.{◌≡◌, drop}
use Rattle.gh_session.specs.Fingerprint as plain
use Rattle.gh_session.proofs.fingerprint.with_name.Given as goal

abbrev pub invariant-loop-byte : goal.invariant-loop-byte
invariant-loop-byte l =
    plain.over plain.mixed l.mixed (drop l.byte-index l.byte-items) ≡ plain.counted plain.mixed l.hash l.byte-items
