use Rattle.std.proofs.Common.{◌≡◌, ◌↔◌, map, drop}
use Rattle.gh_ast.specs.Plain.{assertion_of}
use Rattle.gh_session.proofs.same.+assertion.Given as goal

abbrev pub invariant-are_same_assertions-loop-one : goal.invariant-are_same_assertions-loop-one
invariant-are_same_assertions-loop-one l =
    (map assertion_of (drop l.one-index l.some) ≡ map assertion_of l.left)
    ↔ (map assertion_of l.some ≡ map assertion_of l.others)
