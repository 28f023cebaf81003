use Rattle.std.proofs.Common.{◌≡◌, refl, sym}
use denote.Enum.Bare.{differs_true}
use Rattle.gh_ast.specs.contracts.sign.Keyword.{the_type}
use Rattle.gh_ast.specs.Tokens.{key}
use Rattle.gh_parse.proofs.Heads.{nothing_next, key_next}
use Rattle.gh_parse.proofs.cursor.Parser.take_key.Goals as goal

pub returns-in_default : goal.returns-in_default
returns-in_default c = record {
  taken = λ p rest. nothing_next c.args.self.now.rest.now (key c.args.wanted p) rest c.in_default.len_below;
  stays = refl;
}

pub returns-in_default-symbol : goal.returns-in_default-symbol
returns-in_default-symbol c = record {
  taken = λ p rest e.
      c.in_default-symbol.not-Key c.args.wanted
      (key_next c.args.self.now.rest.now c.first-item.result c.args.wanted p rest c.in-len1-up.len_at_least
      c.first-item.is e);
  stays = refl;
}

pub returns-then-ne : goal.returns-then-ne
returns-then-ne c = record {
  taken = λ p rest e. (
      let f =
      key_next c.args.self.now.rest.now c.first-item.result c.args.wanted p rest c.in-len1-up.len_at_least
      c.first-item.is e in
      let g = c.in-Key.is in
      let same : c.in-Key.word ≡ c.args.wanted = cc in
      differs_true the_type _ _ (sym c.if-ne.ensures) same
      );
  stays = refl;
}
