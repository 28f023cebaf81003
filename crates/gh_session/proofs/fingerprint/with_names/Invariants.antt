use Rattle.std.proofs.Common.{◌≡◌, drop}
use Rattle.gh_session.specs.Fingerprint as plain
use Rattle.gh_session.proofs.fingerprint.with_names.Given as goal

abbrev pub invariant-loop-name : goal.invariant-loop-name
invariant-loop-name l =
    plain.over plain.with_name l.mixed (drop l.name-index l.names) ≡ plain.counted plain.with_name l.hash l.names
