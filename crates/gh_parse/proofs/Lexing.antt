-- One piece more.
use Rattle.std.proofs.Common.{◌≡◌, ◌≢◌, ℕ, suc, ◌+◌, ◌<◌, ◌≤◌, ◌^◌, List, [], ◌∷◌, ◌++◌, length, take, drop, Bool, true}
use Rattle.std.proofs.Common.{false, nat_eq, cond, IsTrue, ◌↔◌, refl, sym, ◌∙◌, ap, subst, arith}
use Rattle.std.proofs.lemmas.Bool.{both_ways, ne_eqb}
use Rattle.std.proofs.lemmas.List.{map-append, length-append, take-append-drop}
use Rattle.gh_base.specs.declared.place.Span.{Span}
use Rattle.gh_ast.specs.Tokens.{Token, cleared, moved, moved_over, first_place, IsTokens, HasTokens, IsStuckAt}
use Rattle.gh_ast.proofs.Clearing.{length-cleared}
use Rattle.gh_ast.proofs.TokenLemmas.{tokens_on, stuck_has_none}
use Rattle.gh_parse.specs.Views.{token_of, tokens_of}
use Rattle.gh_parse.specs.Lexing.{IsPieceAhead, IsLexed, tokens_at}
use Rattle.gh_parse.specs.declared.lexer.Piece.{Piece}
use Rattle.gh_parse.specs.declared.token.Token as read

-- a place moves at most as far as there are bytes
pub record IsWithin (p q : Span) (n : ℕ) : Type 0 where
  pub line : q.line ≤ p.line + n
  pub col : q.col ≤ p.col + n

moved_once : (p : Span) (b : ℕ) → IsWithin p (moved p b) 1
moved_once p b =
    elim (nat_eq b 10) as (λ v. IsWithin p
    (cond v (record { line = p.line + 1; col = 1 }) (record { line = p.line; col = p.col + 1 })) 1) [
      | true ↦ record { line = omega arith; col = omega arith }
      | false ↦ record { line = omega arith; col = omega arith }
    ]

pub moved_within : (w : List ℕ) (p : Span) → IsWithin p (moved_over p w) (length w)
moved_within [] p = record { line = omega arith; col = omega arith }
moved_within (b ∷ w) p =
    let a = moved_once p b in
    let b' = moved_within w (moved p b) in
    record { line = omega arith; col = omega arith }

pub piece_on : (text : List ℕ) (ts us : List Token) (p : Span) (rest : List ℕ) (next : Piece)
    → IsTokens first_place (cleared text) ts p (cleared rest) → IsPieceAhead rest next
    → us ≡ ts ++ tokens_at next.symbol p
    → IsTokens first_place (cleared text) us (moved_over p (take next.length rest)) (cleared (drop next.length rest))
piece_on text ts us p rest next before ahead e =
    subst (λ x. IsTokens first_place (cleared text) x (moved_over p (take next.length rest))
    (cleared (drop next.length rest))) (sym e)
    (tokens_on first_place p (moved_over p (take next.length rest)) (cleared text) (cleared rest)
    (cleared (drop next.length rest)) ts (tokens_at next.symbol p)
    before (ahead.reads p))

pub tokens_push : (xs : List read.Token) (t : read.Token) → tokens_of (xs ++ t ∷ []) ≡ tokens_of xs ++ token_of t ∷ []
tokens_push xs t = map-append token_of xs (t ∷ [])

pub nothing_more : (ts : List Token) → ts ≡ ts ++ []
nothing_more [] = refl
nothing_more (t ∷ ts) = ap (λ x. t ∷ x) (nothing_more ts)

-- the same with the place and the rest that the code has
pub record IsStep (text : List ℕ) (ts : List Token) (p : Span) (rest : List ℕ) : Type 0 where
  pub tokens : IsTokens first_place (cleared text) ts p (cleared rest)
  pub line : p.line + length rest < 2 ^ 32
  pub col : p.col + length rest < 2 ^ 32

pub step_on : (text : List ℕ) (ts us : List Token) (p q : Span) (rest front back : List ℕ) (next : Piece)
    → IsStep text ts p rest → IsPieceAhead rest next
    → us ≡ ts ++ tokens_at next.symbol p → front ≡ take next.length rest → back ≡ drop next.length rest
    → q ≡ moved_over p front → IsStep text us q back
step_on text ts us p q rest front back next s ahead e f b m =
    let w = moved_within front p in
    let parts : front ++ back ≡ rest =
    ap (λ x. x ++ back) f ∙ ap (λ x. take next.length rest ++ x) b ∙ take-append-drop next.length rest in
    let size : length front + length back ≡ length rest = sym (length-append front back) ∙ ap length parts in
    let line : q.line ≤ p.line + length front = subst (λ x. x.line ≤ p.line + length front) (sym m) w.line in
    let col : q.col ≤ p.col + length front = subst (λ x. x.col ≤ p.col + length front) (sym m) w.col in
    let before = s.line in let before' = s.col in
    record {
      tokens =
          subst (λ x. IsTokens first_place (cleared text) us x (cleared back)) (sym (m ∙ ap (moved_over p) f))
          (subst (λ x. IsTokens first_place (cleared text) us (moved_over p (take next.length rest)) (cleared x))
          (sym b)
          (piece_on text ts us p rest next s.tokens ahead e));
      line = omega arith;
      col = omega arith;
    }

-- all bytes are read exactly where none is left
pub none_left : (rest : List ℕ) (b : Bool) → b ≡ nat_eq (length rest) 0 → IsTrue b ↔ (cleared rest ≡ [])
none_left [] b e = (λ h. refl, λ h. e)
none_left (x ∷ rest) b e =
    let size = length-cleared (x ∷ rest) in
    let n : 0 ≡ suc (length rest) → ⊥ = λ (q : 0 ≡ suc (length rest)). omega arith in
    let f : nat_eq (suc (length rest)) 0 ≡ false = ne_eqb (suc (length rest)) 0 (λ q. n (sym q)) in (
      λ h. absurd (both_ways b (e ∙ f) h),
      λ h. absurd (let n : 0 ≡ suc (length rest) = sym (ap length h) ∙ size in omega arith),
    )

pub lexed_refusal : (text : List ℕ) (ts : List Token) (end : Span) (whole : Bool) → IsLexed text ts end whole
    → whole ≡ false
    → ((us : List Token) → HasTokens text us → ⊥) × IsStuckAt text end
lexed_refusal text ts end whole l e =
    let left : l.rest ≢ [] = λ h. both_ways whole e (l.all.1 h) in (
      λ us h. stuck_has_none text ts us end l.rest l.front l.stuck left h,
      record { tokens = ts; rest = l.rest; before = l.front; left = left; stuck = l.stuck },
    )

pub lexed_whole : (text : List ℕ) (ts : List Token) (end : Span) (whole : Bool) → IsLexed text ts end whole
    → whole ≡ true → HasTokens text ts
lexed_whole text ts end whole l e = (end, subst (λ x. IsTokens first_place (cleared text) ts end x) (l.all.0 e) l.front)
