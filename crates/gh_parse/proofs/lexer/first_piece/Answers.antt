use Rattle.std.proofs.Common.{sym, subst, ap, ◌∙◌, Some, None, length}
use Rattle.gh_parse.specs.Lexing.{IsPieceAhead}
use Rattle.gh_parse.proofs.Lexemes.{blank_ahead, comment_ahead, symbol_ahead}
use Rattle.gh_parse.proofs.lexer.first_piece.Goals as goal

pub returns-then-separates : goal.returns-then-separates
returns-then-separates c =
    subst (λ t. IsPieceAhead t (record { length = 1; symbol = None })) (sym c.in_ok-first.ensures.cases.0)
    (blank_ahead c.in_ok-first.first.now c.in_ok-first.field-0-1.now (sym c.separates.ensures ∙ c.if-separates.true))

pub returns-then-begins_comment : goal.returns-then-begins_comment
returns-then-begins_comment c =
    let line = c.line_length.ensures in
    comment_ahead c.line_length.result c.args.text.now (c.begins_comment.ensures.0 c.if-begins_comment.true) line.within
    line.line line.ends

pub returns : goal.returns
returns c =
    let s = c.in_ok-symbol.symbol in
    subst (λ n. IsPieceAhead c.args.text.now (record { length = n; symbol = Some s })) (sym (ap length c.text.ensures))
    (symbol_ahead c.args.text.now s c.in_ok-symbol.ensures)
