use Rattle.std.proofs.Common.{rules, tests}
use Rattle.std.proofs.lemmas.Iterator.{first_from_find, YieldsList-from_slice}
use Rattle.std.proofs.lemmas.Iterator.Consumers.{YieldsList-from_copied}
use Rattle.gh_ast.specs.Tokens.{sign_text}
use Rattle.gh_parse.specs.Lexing.{BeginsWith}
use Rattle.gh_parse.proofs.Tables.{signs, HasNoSign, longest_found}
use Rattle.gh_parse.proofs.lexer.longest_sign.Goals as goal

pub returns : goal.returns
returns c =
    let text = c.args.text.now in
    longest_found text c.find.result
    (first_from_find _ _ c.find.result (λ s. BeginsWith (sign_text s) text) (HasNoSign text) c.find.ensures.ran
    (YieldsList-from_copied (YieldsList-from_slice signs cc)) (λ s q k. search (rules, tests))
    (λ s q k. search (rules, tests)))
