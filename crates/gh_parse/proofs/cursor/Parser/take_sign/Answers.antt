use Rattle.std.proofs.Common.{◌≡◌, refl, sym}
use denote.Enum.Bare.{differs_true}
use Rattle.gh_ast.specs.contracts.sign.Sign.{the_type}
use Rattle.gh_ast.specs.Tokens.{sign}
use Rattle.gh_parse.proofs.Heads.{nothing_next, sign_next}
use Rattle.gh_parse.proofs.cursor.Parser.take_sign.Goals as goal

pub returns-in_default : goal.returns-in_default
returns-in_default c = record {
  taken = λ p rest. nothing_next c.args.self.now.rest.now (sign c.args.wanted p) rest c.in_default.len_below;
  stays = refl;
}

pub returns-in_default-symbol : goal.returns-in_default-symbol
returns-in_default-symbol c = record {
  taken = λ p rest e.
      c.in_default-symbol.not-Sign c.args.wanted
      (sign_next c.args.self.now.rest.now c.first-item.result c.args.wanted p rest c.in-len1-up.len_at_least
      c.first-item.is e);
  stays = refl;
}

pub returns-then-ne : goal.returns-then-ne
returns-then-ne c = record {
  taken = λ p rest e. (
      let f =
      sign_next c.args.self.now.rest.now c.first-item.result c.args.wanted p rest c.in-len1-up.len_at_least
      c.first-item.is e in
      let g = c.in-Sign.is in
      let same : c.in-Sign.sign ≡ c.args.wanted = cc in
      differs_true the_type _ _ (sym c.if-ne.ensures) same
      );
  stays = refl;
}
