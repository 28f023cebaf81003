-- The next token of the code: there is none, or it has the symbol that the tokens say.
use Rattle.std.proofs.Common.{◌≡◌, ◌≤◌, ◌<◌, List, [], ◌∷◌, Bool, true, false, MatchBool, length, get_or, refl, sym, ap}
use Rattle.std.proofs.Common.{subst, ◌∙◌, arith}
use denote.Enum.Bare.{sameb, same_true, same_false}
use Rattle.gh_base.specs.declared.place.Span.{Span}
use Rattle.gh_ast.specs.declared.sign.Keyword as words
use Rattle.gh_ast.specs.declared.sign.Sign as signs
use Rattle.gh_ast.specs.contracts.sign.Keyword as word_of
use Rattle.gh_ast.specs.contracts.sign.Sign as sign_of
use Rattle.gh_ast.specs.Grammar.{NoSign, NoKey}
use Rattle.gh_ast.specs.Tokens.{Token, key, sign}
use Rattle.gh_parse.specs.Views.{tokens_of, token_of, symbol_at}
use Rattle.gh_parse.specs.Answers.{HasSign, HasKey, IsAhead}
use Rattle.gh_parse.specs.declared.cursor.LookAhead.{LookAhead}
use Rattle.gh_parse.specs.declared.cursor.LookAhead.TheVariants as ahead
use Rattle.gh_parse.specs.declared.token.Token as read
use Rattle.gh_parse.specs.declared.token.Symbol.{Symbol}
use Rattle.gh_parse.specs.declared.token.Symbol.TheVariants.{Name, Key, Sign}

pub nothing_next : (xs : List read.Token) (k : Token) (rest : List Token) → length xs < 1 → tokens_of xs ≡ k ∷ rest → ⊥
nothing_next [] k rest h e = cc
nothing_next (x ∷ xs) k rest h e = absurd (omega arith)

is_next : (xs : List read.Token) (t : read.Token) (k : Token) (rest : List Token) → 1 ≤ length xs → t ≡ get_or xs 0 t
    → tokens_of xs ≡ k ∷ rest → token_of t ≡ k
is_next [] t k rest h f e = absurd (omega arith)
is_next (x ∷ xs) t k rest h f e = let p : token_of x ≡ k = cc in ap token_of f ∙ p

symbol_of_key : (s : Symbol) (p q : Span) (w : words.Keyword) → symbol_at s p ≡ key w q → s ≡ Key w
symbol_of_key (Name n) p q w e = cc
symbol_of_key (Key k) p q w e = let f : k ≡ w = cc in ap Key f
symbol_of_key (Sign s) p q w e = cc

symbol_of_sign : (s : Symbol) (p q : Span) (w : signs.Sign) → symbol_at s p ≡ sign w q → s ≡ Sign w
symbol_of_sign (Name n) p q w e = cc
symbol_of_sign (Key k) p q w e = cc
symbol_of_sign (Sign s) p q w e = let f : s ≡ w = cc in ap Sign f

pub key_next : (xs : List read.Token) (t : read.Token) (w : words.Keyword) (p : Span) (rest : List Token)
    → 1 ≤ length xs → t ≡ get_or xs 0 t → tokens_of xs ≡ key w p ∷ rest → t.symbol ≡ Key w
key_next xs t w p rest h f e = symbol_of_key t.symbol t.span p w (is_next xs t (key w p) rest h f e)

pub sign_next : (xs : List read.Token) (t : read.Token) (w : signs.Sign) (p : Span) (rest : List Token) → 1 ≤ length xs
    → t ≡ get_or xs 0 t → tokens_of xs ≡ sign w p ∷ rest → t.symbol ≡ Sign w
sign_next xs t w p rest h f e = symbol_of_sign t.symbol t.span p w (is_next xs t (sign w p) rest h f e)

-- what is ahead, and whether it is the sign or the word that is asked for
pub sign_tells : {ts : List Token} (s w : signs.Sign) (b : Bool) → HasSign s ts → b ≡ sameb sign_of.the_type s w
    → MatchBool b (HasSign w ts) (NoSign w ts)
sign_tells {ts = ts} s w true h e = subst (λ v. HasSign v ts) (same_true sign_of.the_type tt s w (sym e)) h
sign_tells {ts = ts} s w false h e =
    λ p rest f. (let g = h.2 in let j : s ≡ w = cc in same_false sign_of.the_type s w (sym e) j)

pub key_tells : {ts : List Token} (k w : words.Keyword) (b : Bool) → HasKey k ts → b ≡ sameb word_of.the_type k w
    → MatchBool b (HasKey w ts) (NoKey w ts)
key_tells {ts = ts} k w true h e = subst (λ v. HasKey v ts) (same_true word_of.the_type tt k w (sym e)) h
key_tells {ts = ts} k w false h e =
    λ p rest f. (let g = h.2 in let j : k ≡ w = cc in same_false word_of.the_type k w (sym e) j)

pub no_sign : {ts : List Token} (a : LookAhead) (w : signs.Sign) → IsAhead a ts
    → ((s : signs.Sign) → a ≡ ahead.Sign s → ⊥) → NoSign w ts
no_sign ahead.Name w h n p rest e = let g = h.2 in cc
no_sign (ahead.Key k) w h n p rest e = let g = h.2 in cc
no_sign (ahead.Sign s) w h n p rest e = absurd (n s refl)
no_sign ahead.End w h n p rest e = cc

pub no_key : {ts : List Token} (a : LookAhead) (w : words.Keyword) → IsAhead a ts
    → ((k : words.Keyword) → a ≡ ahead.Key k → ⊥) → NoKey w ts
no_key ahead.Name w h n p rest e = let g = h.2 in cc
no_key (ahead.Key k) w h n p rest e = absurd (n k refl)
no_key (ahead.Sign s) w h n p rest e = let g = h.2 in cc
no_key ahead.End w h n p rest e = cc
