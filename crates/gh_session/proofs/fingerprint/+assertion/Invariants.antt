use Rattle.std.proofs.Common.{◌≡◌, drop}
use Rattle.gh_ast.specs.Plain.{assertions_view}
use Rattle.gh_session.specs.Fingerprint as plain
use Rattle.gh_session.proofs.fingerprint.+assertion.Given as goal

abbrev pub invariant-with_assertions-loop-member : goal.invariant-with_assertions-loop-member
invariant-with_assertions-loop-member l =
    plain.with_assertions l.mixed (assertions_view (drop l.member-index l.members))
    ≡ plain.with_assertions l.hash (assertions_view l.members)
