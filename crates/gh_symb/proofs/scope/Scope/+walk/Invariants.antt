use Rattle.std.proofs.Common.{◌≡◌, drop}
use Rattle.gh_ast.specs.Plain.{assertions_view}
use Rattle.gh_path.specs.Terms.{all_walked}
use Rattle.gh_symb.specs.Tables.{state}
use Rattle.gh_symb.proofs.scope.Scope.+walk.Given as goal

abbrev pub invariant-walk_all-loop-assertion : goal.invariant-walk_all-loop-assertion
invariant-walk_all-loop-assertion l =
    all_walked (assertions_view (drop l.assertion-index l.assertions)) (state l.kinds l.self l.version)
    ≡ all_walked (assertions_view l.assertions) (state l.initial.kinds l.initial.self l.version)
