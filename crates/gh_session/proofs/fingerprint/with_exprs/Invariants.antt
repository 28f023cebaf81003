use Rattle.std.proofs.Common.{◌≡◌, drop}
use Rattle.gh_session.specs.Fingerprint as plain
use Rattle.gh_session.proofs.fingerprint.with_exprs.Given as goal

abbrev pub invariant-loop-expr : goal.invariant-loop-expr
invariant-loop-expr l =
    plain.over plain.with_expr l.mixed (drop l.expr-index l.exprs) ≡ plain.counted plain.with_expr l.hash l.exprs
