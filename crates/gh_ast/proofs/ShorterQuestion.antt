-- Each rule of claims takes at least one token.
use Rattle.std.proofs.Common.{◌<◌, List, length, arith}
use Rattle.gh_ast.specs.Tokens.{Token}
use Rattle.gh_ast.specs.Questions.{Claim, Claims}
use Rattle.gh_ast.specs.QuestionGrammar.{SpellsPart, asserted, in_brackets, SpellsDenial, affirmed, denied, SpellsBoth}
use Rattle.gh_ast.specs.QuestionGrammar.{one_denial, denials, SpellsDenials, last_denial, next_denial, SpellsClaim}
use Rattle.gh_ast.specs.QuestionGrammar.{one_both, boths, SpellsBoths, last_both, next_both}
use Rattle.gh_ast.proofs.Shorter.{shorter_assertion}

mutual
  pub shorter_part : {ts rest : List Token} {c : Claim} → SpellsPart ts c rest → length rest < length ts
  shorter_part (asserted a) = let h = shorter_assertion a in omega arith
  shorter_part (in_brackets a) = let h = shorter_claim a in omega arith

  pub shorter_denial : {ts rest : List Token} {c : Claim} → SpellsDenial ts c rest → length rest < length ts
  shorter_denial (affirmed a) = shorter_part a
  shorter_denial (denied a) = let h = shorter_part a in omega arith

  pub shorter_both : {ts rest : List Token} {c : Claim} → SpellsBoth ts c rest → length rest < length ts
  shorter_both (one_denial a n) = shorter_denial a
  shorter_both (denials a b) = let h = shorter_denial a in let k = shorter_denials b in omega arith

  pub shorter_denials : {ts rest : List Token} {cs : Claims} → SpellsDenials ts cs rest → length rest < length ts
  shorter_denials (last_denial a n) = shorter_denial a
  shorter_denials (next_denial a b) = let h = shorter_denial a in let k = shorter_denials b in omega arith

  pub shorter_claim : {ts rest : List Token} {c : Claim} → SpellsClaim ts c rest → length rest < length ts
  shorter_claim (one_both a n) = shorter_both a
  shorter_claim (boths a b) = let h = shorter_both a in let k = shorter_boths b in omega arith

  pub shorter_boths : {ts rest : List Token} {cs : Claims} → SpellsBoths ts cs rest → length rest < length ts
  shorter_boths (last_both a n) = shorter_both a
  shorter_boths (next_both a b) = let h = shorter_both a in let k = shorter_boths b in omega arith
