use Rattle.std.proofs.Common.{◌≡◌, ◌≢◌, rules, tests}
use Rattle.std.proofs.lemmas.Iterator.{first_from_find, YieldsList-from_slice}
use Rattle.std.proofs.lemmas.Iterator.Consumers.{YieldsList-from_copied}
use Rattle.gh_ast.specs.Tokens.{keyword_text}
use Rattle.gh_parse.proofs.Tables.{keywords, reserved_found}
use Rattle.gh_parse.proofs.lexer.reserved.Goals as goal

pub returns : goal.returns
returns c =
    let word = c.args.word.now in
    reserved_found word c.find.result
    (first_from_find _ _ c.find.result (λ k. word ≡ keyword_text k) (λ k. word ≢ keyword_text k) c.find.ensures.ran
    (YieldsList-from_copied (YieldsList-from_slice keywords cc)) (λ s q k. search (rules, tests))
    (λ s q k. search (rules, tests)))
