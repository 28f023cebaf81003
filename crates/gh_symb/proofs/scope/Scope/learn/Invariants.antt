use Rattle.std.proofs.Common.{◌≡◌, map, take}
use Rattle.gh_ast.specs.Programs.{Name}
use Rattle.gh_symb.specs.Phases.{learned}
use Rattle.gh_symb.specs.Tables.{bound_by, pair_of}
use Rattle.gh_symb.proofs.scope.Scope.learn.Given as goal

abbrev pub invariant-loop-entry : goal.invariant-loop-entry
invariant-loop-entry l =
    (x : Name) → bound_by l.self x
    ≡ learned (bound_by l.before x) (bound_by (map pair_of (take l.entry-index l.entry-items)) x)
    (bound_by l.initial.self x)
