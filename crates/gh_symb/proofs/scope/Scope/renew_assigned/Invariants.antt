use Rattle.std.proofs.Common.{◌≡◌, ℕ, drop, filter}
use Rattle.gh_ast.specs.Plain.{statements_view}
use Rattle.gh_ast.specs.Programs.{names}
use Rattle.gh_path.specs.Terms.{renewed, some_assigns}
use Rattle.gh_symb.specs.Tables.{state}
use Rattle.gh_symb.proofs.scope.Scope.renew_assigned.Given as goal

abbrev pub invariant-loop-occ : goal.invariant-loop-occ
invariant-loop-occ l =
    (version : ℕ) → renewed (filter (some_assigns (statements_view l.body)) (names (drop l.occ-index l.occs)))
    (state l.kinds l.self version)
    ≡ renewed (filter (some_assigns (statements_view l.body)) (names l.occs))
    (state l.initial.kinds l.initial.self version)
