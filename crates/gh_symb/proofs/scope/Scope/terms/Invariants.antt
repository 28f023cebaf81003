use Rattle.std.proofs.Common.{◌≡◌, take, map}
use Rattle.std.specs.Prelude.{unwrap_or}
use Rattle.gh_ast.specs.Programs.{names}
use Rattle.gh_symb.specs.Tables.{bound_by}
use Rattle.gh_symb.proofs.scope.Scope.terms.Given as goal

abbrev pub invariant-loop-occ : goal.invariant-loop-occ
invariant-loop-occ l = l.terms.items ≡ map (λ x. unwrap_or (bound_by l.self x) 0) (names (take l.occ-index l.occs))
