use Rattle.std.proofs.Common.{◌≡◌, map, take}
use Rattle.gh_ast.specs.Plain.{cond_of}
use Rattle.gh_ast.specs.Bare.{bare_cond}
use Rattle.gh_session.proofs.bare.+any_test.Given as goal

abbrev pub invariant-tests-loop-member : goal.invariant-tests-loop-member
invariant-tests-loop-member l =
    map cond_of l.copies.items ≡ map (λ t. bare_cond (cond_of t)) (take l.member-index l.members)
