use Rattle.std.proofs.Common.{◌≡◌, drop}
use Rattle.gh_ast.specs.Programs.{names}
use Rattle.gh_path.specs.Terms.{all_bound}
use Rattle.gh_symb.specs.Tables.{bound_by}
use Rattle.gh_symb.proofs.scope.Scope.bind_all.Given as goal

abbrev pub invariant-loop-place : goal.invariant-loop-place
invariant-loop-place l =
    all_bound (bound_by l.self) (names (drop l.place l.occs)) (drop l.place l.terms)
    ≡ all_bound (bound_by l.initial.self) (names l.occs) l.terms
