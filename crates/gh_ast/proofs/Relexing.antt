-- The text of a list of tokens has these tokens.
use Rattle.std.proofs.Common.{◌≡◌, ℕ, ◌≤◌, List, [], ◌∷◌, ◌++◌, length, map, true, false, refl, sym, ◌∙◌, ap, subst}
use Rattle.std.proofs.Common.{arith, append_assoc}
use Rattle.std.specs.List.{list_all}
use Rattle.std.proofs.lemmas.Bool.{both_ways, and_parts}
use Rattle.gh_base.specs.declared.place.Span.{Span}
use Rattle.gh_ast.specs.declared.sign.Sign.{Sign}
use Rattle.gh_ast.specs.Tokens.{Token, named, key, sign, sign_text, keyword_text, cleared, moved, moved_over}
use Rattle.gh_ast.specs.Tokens.{first_place, EndsWord, IsLongest, IsPiece, a_blank, a_name, a_keyword, a_sign, IsTokens}
use Rattle.gh_ast.specs.Tokens.{nothing, piece, HasTokens}
use Rattle.gh_ast.specs.Printed.{Lexeme, word, reserved, mark, lexeme_of, lexeme_text, spaced, line_of}
use Rattle.gh_ast.specs.TokenLaws.{IsLexeme, AreLexemes}
use Rattle.gh_ast.proofs.Clearing.{is_plain, IsPlain, cleared_front}
use Rattle.gh_ast.proofs.Printing.{no_more}
use Rattle.gh_ast.proofs.Words.{sign_is_sign, keyword_is_word, word_is_plain}

-- a plain text before a byte that isn't plain is the longest plain front
plain_front : (v w : List ℕ) (b : ℕ) (rest more : List ℕ) → is_plain b ≡ false → list_all is_plain w ≡ true
    → v ++ b ∷ rest ≡ w ++ more → length w ≤ length v
plain_front v [] b rest more h p e = omega arith
plain_front [] (x ∷ w) b rest more h p e =
    let first : x ≡ b = cc in
    absurd (both_ways (is_plain b) h
    (subst (λ y. is_plain y ≡ true) first (and_parts (is_plain x) (list_all is_plain w) p).0))
plain_front (y ∷ v) (x ∷ w) b rest more h p e =
    let there : v ++ b ∷ rest ≡ w ++ more = cc in
    let n = plain_front v w b rest more h (and_parts (is_plain x) (list_all is_plain w) p).1 there in omega arith

longest_before : (s : Sign) (b : ℕ) (rest : List ℕ) → is_plain b ≡ false → IsLongest s (sign_text s ++ b ∷ rest)
longest_before s b rest h t more e = plain_front (sign_text s) (sign_text t) b rest more h (sign_is_sign t).plain.test e

lexeme_is_plain : (l : Lexeme) → IsLexeme l → IsPlain (lexeme_text l)
lexeme_is_plain (word w) h = word_is_plain w h.word.letters
lexeme_is_plain (reserved k) h = word_is_plain (keyword_text k) (keyword_is_word k).letters
lexeme_is_plain (mark s) h = (sign_is_sign s).plain

abbrev placed : Lexeme → Span → Token
placed (word w) p = named (record { name = w; span = p })
placed (reserved k) p = key k p
placed (mark s) p = sign s p

unplaced : (l : Lexeme) (p : Span) → lexeme_of (placed l p) ≡ l
unplaced (word w) p = refl
unplaced (reserved k) p = refl
unplaced (mark s) p = refl

-- a byte that ends words and signs
pub record IsEnd (b : ℕ) : Type 0 where
  pub plain : is_plain b ≡ false
  pub name : EndsWord (b ∷ [])

lexeme_piece : (l : Lexeme) (p : Span) (b : ℕ) (rest : List ℕ) → IsLexeme l → IsEnd b
    → IsPiece p (lexeme_text l) (b ∷ rest) (placed l p ∷ [])
lexeme_piece (word w) p b rest h e = a_name h.word e.name h.free
lexeme_piece (reserved k) p b rest h e = a_keyword k refl e.name
lexeme_piece (mark s) p b rest h e = a_sign s refl (longest_before s b rest e.plain)

-- what follows a token: a space and the next, or the line feed
abbrev ends_at : List Lexeme → List ℕ
ends_at ls = spaced ls ++ 10 ∷ []

-- the tokens of a text, of which these are the lexemes
pub record ReadsAs (p : Span) (text : List ℕ) (ls : List Lexeme) : Type 0 where
  pub tokens : List Token
  pub end : Span
  pub reads : IsTokens p text tokens end []
  pub same : map lexeme_of tokens ≡ ls

read_one : (l : Lexeme) (ls : List Lexeme) (p : Span) (b : ℕ) (rest : List ℕ) → IsLexeme l → IsEnd b
    → ReadsAs (moved_over p (lexeme_text l)) (b ∷ rest) ls
    → ReadsAs p (lexeme_text l ++ b ∷ rest) (l ∷ ls)
read_one l ls p b rest h e r =
    record {
      tokens = placed l p ∷ r.tokens;
      end = r.end;
      reads = piece refl (lexeme_piece l p b rest h e) r.reads refl;
      same = ap (λ x. x ∷ map lexeme_of r.tokens) (unplaced l p) ∙ ap (λ x. l ∷ x) r.same;
    }

blank_first : (text : List ℕ) (ls : List Lexeme) (p : Span) → ReadsAs (moved p 32) (text ++ 10 ∷ []) ls
    → ReadsAs p (32 ∷ text ++ 10 ∷ []) ls
blank_first text ls p r =
    record {
      tokens = r.tokens;
      end = r.end;
      reads = piece {w = 32 ∷ []} refl (a_blank 32 refl refl) r.reads refl;
      same = r.same;
    }

read_next : (l : Lexeme) (ls : List Lexeme) (p : Span) → IsLexeme l
    → ReadsAs (moved_over p (lexeme_text l)) (ends_at ls) ls
    → ReadsAs p ((lexeme_text l ++ spaced ls) ++ 10 ∷ []) (l ∷ ls)
read_next l [] p h r =
    subst (λ t. ReadsAs p t (l ∷ [])) (ap (λ t. t ++ 10 ∷ []) (sym (no_more (lexeme_text l))))
    (read_one l [] p 10 [] h (record { plain = refl; name = refl }) r)
read_next l (m ∷ ls) p h r =
    subst (λ t. ReadsAs p t (l ∷ m ∷ ls)) (sym (append_assoc (lexeme_text l) (spaced (m ∷ ls)) (10 ∷ [])))
    (read_one l (m ∷ ls) p 32 ((lexeme_text m ++ spaced ls) ++ 10 ∷ []) h (record { plain = refl; name = refl }) r)

read_all : (ls : List Lexeme) (p : Span) → AreLexemes ls → ReadsAs p (ends_at ls) ls
read_all [] p h = record {
  tokens = [];
  end = moved p 10;
  reads = piece {w = 10 ∷ []} refl (a_blank 10 refl refl) nothing refl;
  same = refl;
}
read_all (l ∷ ls) p h =
    blank_first (lexeme_text l ++ spaced ls) (l ∷ ls) p
    (read_next l ls (moved p 32) h.0 (read_all ls (moved_over (moved p 32) (lexeme_text l)) h.1))

-- nothing in such a text is a comment
clear : (ls : List Lexeme) → AreLexemes ls → cleared (ends_at ls) ≡ ends_at ls
clear [] h = refl
clear (l ∷ ls) h =
    ap (λ t. 32 ∷ cleared t) (append_assoc (lexeme_text l) (spaced ls) (10 ∷ []))
    ∙ ap (λ t. 32 ∷ t) (cleared_front (lexeme_text l) (ends_at ls) (lexeme_is_plain l h.0))
    ∙ ap (λ t. 32 ∷ lexeme_text l ++ t) (clear ls h.1)
    ∙ ap (λ t. 32 ∷ t) (sym (append_assoc (lexeme_text l) (spaced ls) (10 ∷ [])))

pub line_reads : (ls : List Lexeme) → AreLexemes ls
    → (ts : List Token) × HasTokens (line_of ls) ts × (map lexeme_of ts ≡ ls)
line_reads [] h =
    let r = read_all [] first_place h in (r.tokens, (r.end, r.reads), r.same)
line_reads (l ∷ ls) h =
    let r = read_next l ls first_place h.0 (read_all ls (moved_over first_place (lexeme_text l)) h.1) in
    let c : cleared (line_of (l ∷ ls)) ≡ line_of (l ∷ ls) =
    ap cleared (append_assoc (lexeme_text l) (spaced ls) (10 ∷ []))
    ∙ cleared_front (lexeme_text l) (ends_at ls) (lexeme_is_plain l h.0)
    ∙ ap (λ t. lexeme_text l ++ t) (clear ls h.1)
    ∙ sym (append_assoc (lexeme_text l) (spaced ls) (10 ∷ [])) in
    (r.tokens, (r.end, subst (λ t. IsTokens first_place t r.tokens r.end []) (sym c) r.reads), r.same)
