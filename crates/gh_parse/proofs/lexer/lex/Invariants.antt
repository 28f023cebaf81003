use Rattle.std.proofs.Common.{◌+◌, ◌<◌, ◌^◌, length}
use Rattle.gh_ast.specs.Tokens.{cleared, first_place, IsTokens}
use Rattle.gh_parse.specs.Views.{tokens_of}
use Rattle.gh_parse.proofs.lexer.lex.Given as goal

abbrev pub invariant-loop-piece : goal.invariant-loop-piece
invariant-loop-piece l = record {
  tokens : IsTokens first_place (cleared l.initial.rest) (tokens_of l.tokens.items) l.place (cleared l.rest);
  line : l.place.line + length l.rest < 2 ^ 32;
  col : l.place.col + length l.rest < 2 ^ 32;
}

abbrev pub decreases-loop-piece : goal.decreases-loop-piece
decreases-loop-piece l = length l.rest
