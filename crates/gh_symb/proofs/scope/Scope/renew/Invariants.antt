use Rattle.std.proofs.Common.{◌≡◌, ℕ, drop}
use Rattle.gh_ast.specs.Programs.{names}
use Rattle.gh_path.specs.Terms.{renewed}
use Rattle.gh_symb.specs.Tables.{state}
use Rattle.gh_symb.proofs.scope.Scope.renew.Given as goal

abbrev pub invariant-loop-occ : goal.invariant-loop-occ
invariant-loop-occ l =
    (version : ℕ) → renewed (names (drop l.occ-index l.occs)) (state l.kinds l.self version)
    ≡ renewed (names l.occs) (state l.initial.kinds l.initial.self version)
