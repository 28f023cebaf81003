use Rattle.std.proofs.Common.{◌≡◌, ◌≤◌, List, [], ◌∷◌, length, get_or, sym, ap, subst, arith}
use Rattle.gh_ast.specs.Tokens.{Token}
use Rattle.gh_parse.specs.Views.{tokens_of, token_of, symbol_at}
use Rattle.gh_parse.specs.declared.token.Token as read
use Rattle.gh_parse.specs.declared.token.Symbol.{Symbol}
use Rattle.gh_parse.specs.declared.token.Symbol.TheVariants.{Name, Key, Sign}
use Rattle.gh_parse.proofs.cursor.Parser.ahead.Goals as goal

front : (xs : List read.Token) (t : read.Token) (s : Symbol) → 1 ≤ length xs → t ≡ get_or xs 0 t → t.symbol ≡ s
    → (rest : List Token) × (tokens_of xs ≡ symbol_at s t.span ∷ rest)
front [] t s h e k = absurd (omega arith)
front (x ∷ xs) t s h e k = (
  tokens_of xs,
  subst (λ v. tokens_of (x ∷ xs) ≡ symbol_at v t.span ∷ tokens_of xs) k
      (ap (λ v. token_of v ∷ tokens_of xs) (sym e)),
)

pub returns-in-Name : goal.returns-in-Name
returns-in-Name c =
    let f =
    front c.args.self.now.rest.now c.first-item.result (Name c.in-Name.field-0) c.in-len1-up.len_at_least
    c.first-item.is c.in-Name.is in
    (record { name = c.in-Name.field-0.bytes.now; span = c.first-item.result.span }, f.0, f.1)

pub returns-in-Key : goal.returns-in-Key
returns-in-Key c =
    let f =
    front c.args.self.now.rest.now c.first-item.result (Key c.in-Key.k) c.in-len1-up.len_at_least c.first-item.is
    c.in-Key.is in
    (c.first-item.result.span, f.0, f.1)

pub returns-in-Sign : goal.returns-in-Sign
returns-in-Sign c =
    let f =
    front c.args.self.now.rest.now c.first-item.result (Sign c.in-Sign.s) c.in-len1-up.len_at_least c.first-item.is
    c.in-Sign.is in
    (c.first-item.result.span, f.0, f.1)
