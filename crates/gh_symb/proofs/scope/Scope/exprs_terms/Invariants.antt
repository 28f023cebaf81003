use Rattle.std.proofs.Common.{◌≡◌, take}
use Rattle.gh_path.specs.Terms.{exprs_terms}
use Rattle.gh_symb.specs.Tables.{state}
use Rattle.gh_symb.proofs.scope.Scope.exprs_terms.Given as goal

abbrev pub invariant-loop-expr : goal.invariant-loop-expr
invariant-loop-expr l = l.terms.items ≡ exprs_terms (take l.expr-index l.exprs) (state l.kinds l.self l.version)
