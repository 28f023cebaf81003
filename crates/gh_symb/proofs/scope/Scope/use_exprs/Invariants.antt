use Rattle.std.proofs.Common.{◌≡◌, drop}
use Rattle.gh_path.specs.Terms.{exprs_used}
use Rattle.gh_symb.specs.Tables.{state}
use Rattle.gh_symb.proofs.scope.Scope.use_exprs.Given as goal

abbrev pub invariant-loop-expr : goal.invariant-loop-expr
invariant-loop-expr l =
    exprs_used (drop l.expr-index l.exprs) (state l.kinds l.self l.version)
    ≡ exprs_used l.exprs (state l.initial.kinds l.initial.self l.version)
