-- The plain form of each variant of a claim.
use Rattle.std.proofs.Common.{◌≡◌, Box, Vec, Global, sym, ◌∙◌, ap}
use Rattle.gh_ast.specs.declared.Assertion.{Assertion}
use Rattle.gh_ast.specs.declared.question.Claim as kept
use Rattle.gh_ast.specs.declared.question.Claim.TheOpen.{Claim-F}
use Rattle.gh_ast.specs.declared.question.Claim.TheFolds.{fold-roll-Claim}
use Rattle.gh_ast.specs.declared.question.Claim.TheVariants.{Leaf, Not, And, Or, rolls-Leaf, rolls-Not, rolls-And}
use Rattle.gh_ast.specs.declared.question.Claim.TheVariants.{rolls-Or}
use Rattle.gh_ast.specs.Plain.{assertion_of}
use Rattle.gh_ast.specs.Questions.{Claim, leaf, denial, every, either, claims_view, claim_step, claim_of}

pub claim_of-Leaf : (f : Assertion) → claim_of (Leaf f) ≡ leaf (assertion_of f)
claim_of-Leaf f = ap claim_of (sym (rolls-Leaf f)) ∙ fold-roll-Claim Claim claim_step (Claim-F.Leaf f)

pub claim_of-Not : (c : Box kept.Claim Global) → claim_of (Not c) ≡ denial (claim_of c.value)
claim_of-Not c = ap claim_of (sym (rolls-Not c)) ∙ fold-roll-Claim Claim claim_step (Claim-F.Not c)

pub claim_of-And : (cs : Vec kept.Claim Global) → claim_of (And cs) ≡ every (claims_view cs.items)
claim_of-And cs = ap claim_of (sym (rolls-And cs)) ∙ fold-roll-Claim Claim claim_step (Claim-F.And cs)

pub claim_of-Or : (cs : Vec kept.Claim Global) → claim_of (Or cs) ≡ either (claims_view cs.items)
claim_of-Or cs = ap claim_of (sym (rolls-Or cs)) ∙ fold-roll-Claim Claim claim_step (Claim-F.Or cs)
