use Rattle.std.proofs.Common.{◌≡◌, map, take}
use Rattle.gh_ast.specs.Plain.{assertion_of}
use Rattle.gh_ast.specs.Questions.{leaf, claim_of}
use Rattle.gh_lens.proofs.remarks.claim.Given as goal

abbrev pub invariant-loop-assertion : goal.invariant-loop-assertion
invariant-loop-assertion l =
    map claim_of l.claims.items ≡ map leaf (map assertion_of (take l.assertion-index l.assertions))
