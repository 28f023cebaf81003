-- What a text begins with, and what it begins with without its comments.
use Rattle.std.proofs.Common.{◌≡◌, ◌≢◌, ℕ, zero, suc, ◌+◌, ◌<◌, ◌≤◌, List, [], ◌∷◌, ◌++◌, length, take, drop, Some}
use Rattle.std.proofs.Common.{None, Bool, true, false, ◌||◌, ◌&&◌, nat_eq, nat_le, cond, IsTrue, All, refl, sym, ◌∙◌}
use Rattle.std.proofs.Common.{ap, subst, arith, inl, inr}
use Rattle.std.specs.Prelude.{replicate}
use Rattle.std.proofs.lemmas.Bool.{both_ways, ne_eqb, eqb-true, eqb-false, leb-true, and_parts, or_cases, or_left}
use Rattle.std.proofs.lemmas.Bool.{or_right, false_from_ne_true}
use Rattle.std.proofs.lemmas.List.{take-append-drop}
use Rattle.std.proofs.lemmas.List.Elements.{All-head, All-tail, All-replicate}
use Rattle.gh_base.specs.Names.{is_name_byte}
use Rattle.gh_base.specs.declared.place.Span.{Span}
use Rattle.gh_ast.specs.declared.sign.Sign.{Sign}
use Rattle.gh_ast.specs.declared.sign.Keyword.{Keyword}
use Rattle.gh_ast.specs.Tokens.{Token, cleared, wiped, is_ahead, moved, moved_over, sign_text, keyword_text, is_blank}
use Rattle.gh_ast.specs.Tokens.{begins_word, IsWord, IsFree, EndsWord, IsLongest, IsPiece, a_blank, a_name, a_keyword}
use Rattle.gh_ast.specs.Tokens.{a_sign, IsTokens, nothing, piece, IsStuck}
use Rattle.gh_ast.proofs.Clearing.{cleared_byte, cleared_front, uncleared_front, moved_right}
use Rattle.gh_ast.proofs.Words.{first_of, after_first, sign_is_sign, keyword_is_word, name_not_blank, blank_not_slash}
use Rattle.gh_ast.proofs.Words.{word_is_plain, one_run}
use Rattle.gh_ast.proofs.TokenLemmas.{piece_some, token_is_plain}
use Rattle.gh_parse.specs.Views.{symbol_at, symbol_text}
use Rattle.gh_parse.specs.Lexing.{BeginsWith, IsCommentAhead, EndsLine, IsSymbolAhead, IsPieceAhead}
use Rattle.gh_parse.specs.declared.token.Symbol.{Symbol}
use Rattle.gh_parse.specs.declared.token.Symbol.TheVariants as symbol
use Rattle.gh_parse.specs.declared.token.Word.{Word}

pub blank_ahead : (b : ℕ) (rest : List ℕ) → is_blank b ≡ true
    → IsPieceAhead (b ∷ rest) (record { length = 1; symbol = None })
blank_ahead b rest h =
    record {
      some = omega arith;
      within = omega arith;
      reads = λ p.
          rw (cleared_byte b rest (ne_eqb b 47 (blank_not_slash b h)))
          (piece {w = b ∷ []} refl (a_blank b refl h) nothing refl);
    }

abbrev spaces : ℕ → List ℕ
spaces n = replicate n 32

wiped_line : (n : ℕ) (text : List ℕ) → n ≤ length text → All (λ b. b ≢ 10) (take n text) → EndsLine (drop n text)
    → wiped text ≡ spaces n ++ cleared (drop n text)
wiped_line zero [] h plain ends = refl
wiped_line zero (b ∷ rest) h plain ends =
    let e : wiped (10 ∷ rest) ≡ cleared (10 ∷ rest) = refl in
    subst (λ x. wiped (x ∷ rest) ≡ cleared (x ∷ rest)) (sym ends) e
wiped_line (suc n) [] h plain ends = absurd (omega arith)
wiped_line (suc n) (b ∷ rest) h plain ends =
    let P : ℕ → Type 0 = λ x. x ≢ 10 in
    let here : nat_eq b 10 ≡ false = ne_eqb b 10 (All-head P b (take n rest) plain) in
    let more = wiped_line n rest (omega arith) (All-tail P b (take n rest) plain) ends in
    rw here (ap (λ t. 32 ∷ t) more)

spaces_tokens : (n : ℕ) (p : Span) (rest : List ℕ) → IsTokens p (spaces n ++ rest) [] (moved_over p (spaces n)) rest
spaces_tokens zero p rest = nothing
spaces_tokens (suc n) p rest = piece {w = 32 ∷ []} refl (a_blank 32 refl refl) (spaces_tokens n (moved p 32) rest) refl

spaces_length : (n : ℕ) → length (spaces n) ≡ n
spaces_length zero = refl
spaces_length (suc n) = ap suc (spaces_length n)

take_length : (n : ℕ) (text : List ℕ) → n ≤ length text → length (take n text) ≡ n
take_length zero text h = refl
take_length (suc n) [] h = absurd (omega arith)
take_length (suc n) (b ∷ rest) h = ap suc (take_length n rest (omega arith))

over_spaces : (n : ℕ) (text : List ℕ) (p : Span) → n ≤ length text → All (λ b. b ≢ 10) (take n text)
    → moved_over p (spaces n) ≡ moved_over p (take n text)
over_spaces n text p h plain =
    let not_feed : 32 ≢ 10 = eqb-false 32 10 refl in
    moved_right (spaces n) p (All-replicate (λ b. b ≢ 10) n 32 not_feed)
    ∙ ap (λ k. record { line = p.line; col = p.col + k }) (spaces_length n ∙ sym (take_length n text h))
    ∙ sym (moved_right (take n text) p plain)

some_line : (n : ℕ) (text rest : List ℕ) → text ≡ 47 ∷ 47 ∷ rest → EndsLine (drop n text) → 0 < n
some_line zero text rest e ends = absurd (let f : 47 ≡ 10 = subst EndsLine e ends in omega arith)
some_line (suc n) text rest e ends = omega arith

pub comment_ahead : (n : ℕ) (text : List ℕ) → IsCommentAhead text → n ≤ length text → All (λ b. b ≢ 10) (take n text)
    → EndsLine (drop n text)
    → IsPieceAhead text (record { length = n; symbol = None })
comment_ahead n text c h plain ends =
    let line = wiped_line n text h plain ends in
    let same : cleared text ≡ wiped text = rw c.1 refl in
    let e : cleared text ≡ spaces n ++ cleared (drop n text) = same ∙ line in
    record {
      some = some_line n text c.0 c.1 ends;
      within = omega arith;
      reads = λ p.
          subst (λ x. IsTokens p x [] (moved_over p (take n text)) (cleared (drop n text))) (sym e)
          (subst (λ q. IsTokens p (spaces n ++ cleared (drop n text)) [] q (cleared (drop n text)))
          (over_spaces n text p h plain)
          (spaces_tokens n p (cleared (drop n text))));
    }

take_front : (w rest : List ℕ) → take (length w) (w ++ rest) ≡ w
take_front [] rest = refl
take_front (b ∷ w) rest = ap (λ t. b ∷ t) (take_front w rest)

drop_front : (w rest : List ℕ) → drop (length w) (w ++ rest) ≡ rest
drop_front [] rest = refl
drop_front (b ∷ w) rest = drop_front w rest

length_front : (w rest : List ℕ) → length w ≤ length (w ++ rest)
length_front [] rest = omega arith
length_front (b ∷ w) rest = let h = length_front w rest in omega arith

front_some : (w : List ℕ) (b : ℕ) (v : List ℕ) → w ≡ b ∷ v → 0 < length w
front_some [] b v e = cc
front_some (x ∷ w) b v e = omega arith

pub symbol_ahead : (text : List ℕ) (s : Symbol) → IsSymbolAhead text s
    → IsPieceAhead text (record { length = length (symbol_text s); symbol = Some s })
symbol_ahead text s h =
    let w = symbol_text s in
    let here : Span = record { line = 1; col = 1 } in
    let some = piece_some here w (cleared h.rest) (symbol_at s here ∷ []) (h.piece here) in
    let plain = token_is_plain here w (cleared h.rest) (symbol_at s here) [] (h.piece here) in
    let long = length_front w h.rest in
    let whole : length text ≡ length (w ++ h.rest) = ap length h.front in
    record {
      some = front_some w (first_of w) (after_first w) some;
      within = omega arith;
      reads = λ p.
          rw (h.front, take_front w h.rest, drop_front w h.rest)
          (piece (cleared_front w h.rest plain) (h.piece p) nothing refl);
    }

pub ends_cleared : (rest : List ℕ) → EndsWord rest → EndsWord (cleared rest)
ends_cleared [] h = tt
ends_cleared (b ∷ rest) h =
    elim ((nat_eq b 47) && is_ahead 47 rest) as (λ v. EndsWord (cond v (32 ∷ wiped rest) (b ∷ cleared rest)))
    [ true ↦ refl | false ↦ h ]

name_first : (w : List ℕ) → 0 < length w → All (λ b. IsTrue (is_name_byte b)) w
    → (b : ℕ) × (v : List ℕ) × (w ≡ b ∷ v) × (is_name_byte b ≡ true)
name_first [] some letters = absurd (omega arith)
name_first (b ∷ w) some letters = (b, w, refl, All-head (λ x. IsTrue (is_name_byte x)) b w letters)

front_of : (w u r x : List ℕ) → w ≡ u → x ≡ w ++ r → x ≡ u ++ r
front_of w u r x e f = f ∙ ap (λ y. y ++ r) e

heads : (w : List ℕ) (b : ℕ) (v rest x : List ℕ) (c : ℕ) → w ≡ b ∷ v → w ++ rest ≡ c ∷ x → b ≡ c
heads [] b v rest x c e f = cc
heads (y ∷ w) b v rest x c e f = cc

sign_first_not_name : (s : Sign) (q v rest : List ℕ) (b : ℕ) → is_name_byte b ≡ true → b ∷ rest ≡ sign_text s ++ q → ⊥
sign_first_not_name s q v rest b h e =
    let i = sign_is_sign s in
    let first : first_of (sign_text s) ≡ b =
    heads (sign_text s) (first_of (sign_text s)) (after_first (sign_text s)) q rest b i.some (sym e) in
    both_ways (is_name_byte b) (subst (λ x. is_name_byte x ≡ false) first i.not_name) h

run_word : (w r v q : List ℕ) → All (λ b. IsTrue (is_name_byte b)) w → EndsWord r → (IsWord w → ⊥) → IsWord v
    → EndsWord q → w ++ r ≡ v ++ q → ⊥
run_word w r v q letters ends bad word ends' e =
    bad (subst IsWord (sym (one_run w r v q letters ends word.letters ends' e).run) word)

word_stuck_at : (w r : List ℕ) → 0 < length w → All (λ b. IsTrue (is_name_byte b)) w → EndsWord r → (IsWord w → ⊥)
    → (p : Span) (v q : List ℕ) (ts : List Token) → w ++ r ≡ v ++ q → IsPiece p v q ts → ⊥
word_stuck_at w r some letters ends bad p v q ts e (a_blank b i h) =
    let n = name_first w some letters in
    let first : n.0 ≡ b = heads w n.0 n.1 r q b n.2 (front_of v (b ∷ []) q (w ++ r) i e) in
    name_not_blank b (subst (λ x. is_name_byte x ≡ true) first n.3) h
word_stuck_at w r some letters ends bad p v q ts e (a_name word ends' free) =
    run_word w r v q letters ends bad word ends' e
word_stuck_at w r some letters ends bad p v q ts e (a_keyword k i ends') =
    run_word w r (keyword_text k) q letters ends bad (keyword_is_word k) ends'
    (front_of v (keyword_text k) q (w ++ r) i e)
word_stuck_at w r some letters ends bad p v q ts e (a_sign s i l) =
    let n = name_first w some letters in
    sign_first_not_name s q n.1 (n.1 ++ r) n.0 n.3
    (sym (ap (λ x. x ++ r) n.2) ∙ front_of v (sign_text s) q (w ++ r) i e)

-- where the letters, digits and `_` in front are no word, no token fits
pub word_stuck : (w rest : List ℕ) → 0 < length w → All (λ b. IsTrue (is_name_byte b)) w → EndsWord rest
    → (IsWord w → ⊥) → IsStuck (cleared (w ++ rest))
word_stuck w rest some letters ends bad p v q ts e h =
    word_stuck_at w (cleared rest) some letters (ends_cleared rest ends) bad p v q ts
    (sym (cleared_front w rest (word_is_plain w letters)) ∙ e) h

-- a sign in front of the cleared text is in front of the text
sign_uncleared : (s : Sign) (text more : List ℕ) → cleared text ≡ sign_text s ++ more → BeginsWith (sign_text s) text
sign_uncleared s text more e = let u = uncleared_front (sign_text s) text more (sign_is_sign s).plain e in (u.0, u.1)

pub longest_cleared : (s : Sign) (text : List ℕ) → IsLongest s text → IsLongest s (cleared text)
longest_cleared s text h t more e = let u = sign_uncleared t text more e in h t u.0 u.1

-- the first byte stays where no comment begins
slash_ahead : (b : ℕ) (rest : List ℕ) → ((nat_eq b 47) && is_ahead 47 rest) ≡ true → IsCommentAhead (b ∷ rest)
slash_ahead b [] h = absurd (both_ways false refl (and_parts (nat_eq b 47) false h).1)
slash_ahead b (c ∷ rest) h =
    let p = and_parts (nat_eq b 47) (nat_eq c 47) h in
    let first : b ≡ 47 = eqb-true b 47 p.0 in
    let second : c ≡ 47 = eqb-true c 47 p.1 in
    (rest, cc)

not_comment : (b : ℕ) (rest : List ℕ) → (IsCommentAhead (b ∷ rest) → ⊥) → cleared (b ∷ rest) ≡ b ∷ cleared rest
not_comment b rest plain =
    let test : ((nat_eq b 47) && is_ahead 47 rest) ≡ false =
    false_from_ne_true ((nat_eq b 47) && is_ahead 47 rest) (λ h. plain (slash_ahead b rest h)) in
    rw test refl

first_stays : (b : ℕ) (rest : List ℕ) → (IsCommentAhead (b ∷ rest) → ⊥) → (c : ℕ) (q : List ℕ)
    → cleared (b ∷ rest) ≡ c ∷ q → b ≡ c
first_stays b rest plain c q e = let f = not_comment b rest plain in cc

not_word : (b : ℕ) (rest : List ℕ) → (IsCommentAhead (b ∷ rest) → ⊥) → is_name_byte b ≡ false → (w q : List ℕ)
    → IsWord w → cleared (b ∷ rest) ≡ w ++ q → ⊥
not_word b rest plain not_name [] q word e = let f = word.begins.2 in cc
not_word b rest plain not_name (c ∷ w) q word e =
    let first : b ≡ c = first_stays b rest plain c (w ++ q) e in
    both_ways (is_name_byte b) not_name
    (subst (λ x. is_name_byte x ≡ true) (sym first) (All-head (λ x. IsTrue (is_name_byte x)) c w word.letters))

-- where no sign is in front, and no blank, comment or word, no token fits
pub sign_stuck : (b : ℕ) (rest : List ℕ) → is_blank b ≡ false → is_name_byte b ≡ false → (IsCommentAhead (b ∷ rest) → ⊥)
    → ((s : Sign) → BeginsWith (sign_text s) (b ∷ rest) → ⊥) → IsStuck (cleared (b ∷ rest))
sign_stuck b rest not_blank not_name plain no_sign p v q ts e (a_blank c i h) =
    let first : b ≡ c = first_stays b rest plain c q (front_of v (c ∷ []) q (cleared (b ∷ rest)) i e) in
    both_ways (is_blank b) not_blank (subst (λ x. is_blank x ≡ true) (sym first) h)
sign_stuck b rest not_blank not_name plain no_sign p v q ts e (a_name word ends free) =
    not_word b rest plain not_name v q word e
sign_stuck b rest not_blank not_name plain no_sign p v q ts e (a_keyword k i ends) =
    not_word b rest plain not_name (keyword_text k) q (keyword_is_word k)
    (front_of v (keyword_text k) q (cleared (b ∷ rest)) i e)
sign_stuck b rest not_blank not_name plain no_sign p v q ts e (a_sign s i l) =
    no_sign s (sign_uncleared s (b ∷ rest) q (front_of v (sign_text s) q (cleared (b ∷ rest)) i e))

-- what is in front is a token
pub sign_ahead : (text : List ℕ) (s : Sign) → BeginsWith (sign_text s) text → IsLongest s text
    → IsSymbolAhead text (symbol.Sign s)
sign_ahead text s begins longest =
    let e : cleared text ≡ sign_text s ++ cleared begins.0 =
    ap cleared begins.1 ∙ cleared_front (sign_text s) begins.0 (sign_is_sign s).plain in
    record {
      rest = begins.0;
      front = begins.1;
      piece = λ p. a_sign s refl (subst (IsLongest s) e (longest_cleared s text longest));
    }

-- the letters, digits and `_` in front
pub record IsRun (text : List ℕ) (n b : ℕ) : Type 0 where
  pub first : BeginsWith (b ∷ []) text
  pub letter : is_name_byte b ≡ true
  pub within : n ≤ length text
  pub letters : All (λ x. IsTrue (is_name_byte x)) (take n text)
  pub ends : EndsWord (drop n text)

run_begins : (n : ℕ) (text rest : List ℕ) (b : ℕ) → text ≡ b ∷ rest → is_name_byte b ≡ true → EndsWord (drop n text)
    → (v : List ℕ) × (take n text ≡ b ∷ v)
run_begins zero text rest b e h ends = absurd (both_ways (is_name_byte b) (subst EndsWord e ends) h)
run_begins (suc n) text rest b e h ends = (take n rest, ap (take (suc n)) e)

run_some : (text : List ℕ) (n b : ℕ) → IsRun text n b → (v : List ℕ) × (take n text ≡ b ∷ v)
run_some text n b r = run_begins n text r.first.0 b r.first.1 r.letter r.ends

pub run_stuck : (text : List ℕ) (n b : ℕ) → IsRun text n b → (IsWord (take n text) → ⊥) → IsStuck (cleared text)
run_stuck text n b r bad =
    let v = run_some text n b r in
    subst (λ t. IsStuck (cleared t)) (take-append-drop n text)
    (word_stuck (take n text) (drop n text) (front_some (take n text) b v.0 v.1) r.letters r.ends bad)

pub too_long : (text : List ℕ) (n b : ℕ) → IsRun text n b → 64 < length (take n text) → IsWord (take n text) → ⊥
too_long text n b r h word = let s = word.short in omega arith

no_more : (w : List ℕ) → w ++ [] ≡ w
no_more [] = refl
no_more (b ∷ w) = ap (λ t. b ∷ t) (no_more w)

between : (low high b : ℕ) → (nat_le low b && nat_le b high) ≡ true → (low ≤ b) × (b ≤ high)
between low high b h = let p = and_parts (nat_le low b) (nat_le b high) h in (leb-true low b p.0, leb-true b high p.1)

digit_begins_none : (b : ℕ) → (nat_le 48 b && nat_le b 57) ≡ true → begins_word b ≡ true → ⊥
digit_begins_none b h q =
    let d = between 48 57 b h in
    elim (or_cases ((nat_le 97 b && nat_le b 122) || (nat_le 65 b && nat_le b 90)) (nat_eq b 95) q) [
      | inl r ↦ elim (or_cases (nat_le 97 b && nat_le b 122) (nat_le 65 b && nat_le b 90) r) [
        | inl s ↦ let f = between 97 122 b s in omega arith
        | inr s ↦ let f = between 65 90 b s in omega arith
      ]
      | inr r ↦ let f = eqb-true b 95 r in omega arith
    ]

without : (x d u : Bool) → ((x || d) || u) ≡ true → d ≡ false → (x || u) ≡ true
without x d u h e =
    elim (or_cases (x || d) u h) [
      | inl r ↦ elim (or_cases x d r) [ inl s ↦ or_left x u s | inr s ↦ absurd (both_ways d e s) ]
      | inr r ↦ or_right x u r
    ]

no_digit : (b : ℕ) → is_name_byte b ≡ true → (nat_le 48 b && nat_le b 57) ≡ false → begins_word b ≡ true
no_digit b h e =
    without ((nat_le 97 b && nat_le b 122) || (nat_le 65 b && nat_le b 90)) (nat_le 48 b && nat_le b 57) (nat_eq b 95) h
    e

abbrev is_digit : ℕ → Bool
is_digit b = nat_le 48 b && nat_le b 57

pub begins_digit : (text : List ℕ) (n b : ℕ) → IsRun text n b → is_digit b ≡ true → IsWord (take n text) → ⊥
begins_digit text n b r h word =
    let v = run_some text n b r in
    let w = word.begins in
    let same : w.0 ≡ b = heads (take n text) w.0 w.1 [] v.0 b w.2 (no_more (take n text) ∙ v.1) in
    digit_begins_none b h (subst (λ x. begins_word x ≡ true) same w.3)

pub run_is_word : (text : List ℕ) (n b : ℕ) → IsRun text n b → length (take n text) ≤ 64 → is_digit b ≡ false
    → IsWord (take n text)
run_is_word text n b r h not_digit =
    let v = run_some text n b r in
    record { begins = (b, v.0, v.1, no_digit b r.letter not_digit); letters = r.letters; short = h }

pub run_key : (text : List ℕ) (n b : ℕ) (k : Keyword) → IsRun text n b → take n text ≡ keyword_text k
    → IsSymbolAhead text (symbol.Key k)
run_key text n b k r e =
    record {
      rest = drop n text;
      front = sym (take-append-drop n text) ∙ ap (λ x. x ++ drop n text) e;
      piece = λ p. a_keyword k refl (ends_cleared (drop n text) r.ends);
    }

pub run_name : (text : List ℕ) (n b : ℕ) (w : Word) → IsRun text n b → w.bytes.now ≡ take n text → IsWord (take n text)
    → IsFree (take n text) → IsSymbolAhead text (symbol.Name w)
run_name text n b w r e word free =
    record {
      rest = drop n text;
      front = sym (take-append-drop n text) ∙ ap (λ x. x ++ drop n text) (sym e);
      piece = λ p. a_name (subst IsWord (sym e) word) (ends_cleared (drop n text) r.ends) (subst IsFree (sym e) free);
    }

pub no_sign_stuck : (text : List ℕ) (b : ℕ) → BeginsWith (b ∷ []) text → is_blank b ≡ false → is_name_byte b ≡ false
    → (IsCommentAhead text → ⊥)
    → ((s : Sign) → BeginsWith (sign_text s) text → ⊥) → IsStuck (cleared text)
no_sign_stuck text b front not_blank not_name plain no_sign =
    subst (λ t. IsStuck (cleared t)) (sym front.1)
    (sign_stuck b front.0 not_blank not_name (λ h. plain (subst IsCommentAhead (sym front.1) h))
    (λ s h. no_sign s (subst (BeginsWith (sign_text s)) (sym front.1) h)))
