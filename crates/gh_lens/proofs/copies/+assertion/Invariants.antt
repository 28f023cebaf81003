use Rattle.std.proofs.Common.{◌≡◌, map, take}
use Rattle.gh_ast.specs.Plain.{assertion_of}
use Rattle.gh_lens.proofs.copies.+assertion.Given as goal

abbrev pub invariant-copy_assertions-loop-assertion : goal.invariant-copy_assertions-loop-assertion
invariant-copy_assertions-loop-assertion l =
    map assertion_of l.copies.items ≡ map assertion_of (take l.assertion-index l.assertions)
