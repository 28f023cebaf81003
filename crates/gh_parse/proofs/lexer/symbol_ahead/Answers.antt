use Rattle.std.proofs.Common.{◌≡◌, false, sym, subst, MatchOption}
use Rattle.std.proofs.lemmas.Bool.{both_ways, false_from_ne_true}
use Rattle.gh_base.specs.Names.{is_name_byte}
use Rattle.gh_ast.specs.Tokens.{cleared, IsStuck}
use Rattle.gh_parse.specs.Lexing.{IsSymbolAhead}
use Rattle.gh_parse.proofs.Lexemes.{no_sign_stuck, sign_ahead}
use Rattle.gh_parse.proofs.lexer.symbol_ahead.Goals as goal

pub returns-in_err-longest_sign : goal.returns-in_err-longest_sign
returns-in_err-longest_sign c =
    let text = c.args.text.now in
    let b = c.args.first in
    let not_name : is_name_byte b ≡ false =
    false_from_ne_true (is_name_byte b)
    (λ h. both_ways c.is_word_byte.result c.if-is_word_byte.false (c.is_word_byte.ensures.1 h)) in
    subst (λ r. MatchOption r (IsStuck (cleared text)) (λ s. IsSymbolAhead text s)) (sym c.from_residual.ensures)
    (no_sign_stuck text b c.requires.front c.requires.blank not_name c.requires.comment c.in_err-longest_sign.ensures)

pub returns : goal.returns
returns c = let h = c.in_ok-longest_sign.ensures in sign_ahead c.args.text.now _ h.0 h.1
