use Rattle.std.proofs.Common.{◌≡◌, map, take}
use Rattle.gh_ast.specs.Plain.{assertion_of}
use Rattle.gh_ast.specs.Bare.{bare_assertion}
use Rattle.gh_session.proofs.bare.+assertion.Given as goal

abbrev pub invariant-assertions-loop-member : goal.invariant-assertions-loop-member
invariant-assertions-loop-member l =
    map assertion_of l.copies.items ≡ map (λ f. bare_assertion (assertion_of f)) (take l.member-index l.members)
