-- A text that spells a program has the characters of the grammar alone, so a printed program is read again.
use Rattle.std.proofs.Common.{◌≡◌, ℕ, List, [], ◌∷◌, Bool, true, false, ◌||◌, IsTrue, refl, sym, subst}
use Rattle.std.specs.Prelude.{codes, ◌==◌}
use Rattle.std.specs.List.{list_all, list_any, AllPass}
use Rattle.std.proofs.lemmas.Bool.{both_ways}
use Rattle.std.proofs.lemmas.Option.{get_or_from_slice_get, slice_get_within}
use Rattle.std.proofs.lemmas.List.Elements.{All-append, All-weaker, All-get_or}
use Rattle.std.proofs.lemmas.List.Sums.{AllPass-from_list_all}
use Rattle.gh_base.specs.Names.{is_name_byte}
use Rattle.gh_base.specs.declared.place.Span.{Span}
use Rattle.gh_ast.specs.declared.sign.Sign.{Sign}
use Rattle.gh_ast.specs.declared.sign.Sign.TheVariants.{BraceOpen, BraceClose, ParenOpen, ParenClose, Comma, Semicolon}
use Rattle.gh_ast.specs.declared.sign.Sign.TheVariants.{Colon, Dot, Assign, Equal, Unequal, Bang, And, Or, Star, Arrow}
use Rattle.gh_ast.specs.declared.sign.Keyword.{Keyword}
use Rattle.gh_ast.specs.declared.sign.Keyword.TheVariants as keyword
use Rattle.gh_ast.specs.Tokens.{Token, cleared, is_blank, is_character, keyword_text, sign_text, IsPiece, a_blank}
use Rattle.gh_ast.specs.Tokens.{a_name, a_keyword, a_sign, IsTokens, nothing, piece, HasTokens}
use Rattle.gh_ast.specs.Printed.{program_text}
use Rattle.gh_ast.proofs.Shown.{read_back}
use Rattle.gh_parse.specs.Parsing.{HasCharacters, PrintedParse}

abbrev AreKnown : List ℕ → Type 0
AreKnown = AllPass is_character

blank_known : (b : ℕ) → is_blank b ≡ true → is_character b ≡ true
blank_known b h = rw h refl

letter_known : (b : ℕ) → is_name_byte b ≡ true → is_character b ≡ true
letter_known b h = rw h (by_blank (is_blank b) (list_any (λ c. c == b) (codes "{}(),;:.=!&*|->/")))
  where
    by_blank : (c d : Bool) → (c || true || d) ≡ true
    by_blank true d = refl
    by_blank false d = refl

sign_known : (s : Sign) → list_all is_character (sign_text s) ≡ true
sign_known BraceOpen = refl
sign_known BraceClose = refl
sign_known ParenOpen = refl
sign_known ParenClose = refl
sign_known Comma = refl
sign_known Semicolon = refl
sign_known Colon = refl
sign_known Dot = refl
sign_known Assign = refl
sign_known Equal = refl
sign_known Unequal = refl
sign_known Bang = refl
sign_known And = refl
sign_known Or = refl
sign_known Star = refl
sign_known Arrow = refl

keyword_known : (k : Keyword) → list_all is_character (keyword_text k) ≡ true
keyword_known keyword.Struct = refl
keyword_known keyword.Node = refl
keyword_known keyword.Var = refl
keyword_known keyword.Next = refl
keyword_known keyword.Procedure = refl
keyword_known keyword.Returns = refl
keyword_known keyword.Requires = refl
keyword_known keyword.Ensures = refl
keyword_known keyword.Invariant = refl
keyword_known keyword.If = refl
keyword_known keyword.Else = refl
keyword_known keyword.While = refl
keyword_known keyword.Return = refl
keyword_known keyword.New = refl
keyword_known keyword.Free = refl
keyword_known keyword.Null = refl
keyword_known keyword.Emp = refl
keyword_known keyword.Acc = refl
keyword_known keyword.Lseg = refl

piece_known : {p : Span} {w rest : List ℕ} {us : List Token} → IsPiece p w rest us → AreKnown w
piece_known (a_blank b is blank) =
    subst AreKnown (sym is) (AllPass-from_list_all is_character (b ∷ []) (rw (blank_known b blank) refl))
piece_known {w} (a_name word ends free) =
    All-weaker (λ b. IsTrue (is_name_byte b)) (λ b. is_character b ≡ true) letter_known w word.letters
piece_known (a_keyword k is ends) =
    subst AreKnown (sym is) (AllPass-from_list_all is_character (keyword_text k) (keyword_known k))
piece_known (a_sign s is longest) =
    subst AreKnown (sym is) (AllPass-from_list_all is_character (sign_text s) (sign_known s))

tokens_known : {p end : Span} {text last : List ℕ} {ts : List Token} → IsTokens p text ts end last → last ≡ []
    → AreKnown text
tokens_known nothing none = subst AreKnown (sym none) (AllPass-from_list_all is_character [] refl)
tokens_known (piece {w} {rest} parts here more all) none =
    subst AreKnown (sym parts)
    (All-append (λ b. is_character b ≡ true) w rest (piece_known here) (tokens_known more none))

has_characters : (text : List ℕ) (ts : List Token) → HasTokens text ts → HasCharacters text
has_characters text ts has k f =
    let within = slice_get_within (cleared text) k f.byte f.here in
    let known = All-get_or (λ b. is_character b ≡ true) (cleared text) k 0 within (tokens_known has.1 refl) in
    both_ways (is_character f.byte) f.strange
    (subst (λ b. is_character b ≡ true) (get_or_from_slice_get (cleared text) k f.byte 0 f.here) known)

pub printed_parse : PrintedParse
printed_parse text p parsed shallow =
    let again = read_back text p parsed.spelled in (
      again.0,
      record {
        characters = has_characters (program_text p) again.1.0 again.1.1;
        shallow = shallow;
        spelled = again.1;
      },
      again.2,
    )
