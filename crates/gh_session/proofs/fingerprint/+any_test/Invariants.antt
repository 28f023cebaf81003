use Rattle.std.proofs.Common.{◌≡◌, drop}
use Rattle.gh_ast.specs.Plain.{conds_view}
use Rattle.gh_session.specs.Fingerprint as plain
use Rattle.gh_session.proofs.fingerprint.+any_test.Given as goal

abbrev pub invariant-with_conds-loop-member : goal.invariant-with_conds-loop-member
invariant-with_conds-loop-member l =
    plain.with_conds l.mixed (conds_view (drop l.member-index l.members))
    ≡ plain.with_conds l.hash (conds_view l.members)
