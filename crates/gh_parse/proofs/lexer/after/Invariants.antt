use Rattle.std.proofs.Common.{◌≡◌, ◌+◌, ◌<◌, ◌^◌, take, length}
use Rattle.gh_ast.specs.Tokens.{moved_over}
use Rattle.gh_parse.proofs.lexer.after.Given as goal

abbrev pub invariant-loop-byte : goal.invariant-loop-byte
invariant-loop-byte l = record {
  place : l.place ≡ moved_over l.initial.place (take l.byte-index l.bytes);
  line : l.place.line + length l.bytes < 2 ^ 32 + l.byte-index;
  col : l.place.col + length l.bytes < 2 ^ 32 + l.byte-index;
}
