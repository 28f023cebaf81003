-- A text has at most one list of tokens.
use Rattle.std.proofs.Common.{◌≡◌, ◌≢◌, ℕ, List, [], ◌∷◌, ◌++◌, length, Option, Some, true, false, IsTrue, refl, sym}
use Rattle.std.proofs.Common.{◌∙◌, ap, subst, arith, append_assoc}
use Rattle.std.specs.List.{find}
use Rattle.std.specs.Str.{bytes_eq}
use Rattle.std.proofs.lemmas.Bool.{both_ways}
use Rattle.std.proofs.lemmas.Option.{same_Some}
use Rattle.std.proofs.lemmas.List.Elements.{All-head}
use Rattle.gh_base.specs.Names.{is_name_byte}
use Rattle.gh_base.specs.declared.place.Span.{Span}
use Rattle.gh_ast.specs.declared.sign.Sign.{Sign}
use Rattle.gh_ast.specs.declared.sign.Sign.TheVariants.{BraceOpen, BraceClose, ParenOpen, ParenClose, Comma, Semicolon}
use Rattle.gh_ast.specs.declared.sign.Sign.TheVariants.{Colon, Dot, Assign, Equal, Unequal, Bang, And, Or, Star, Arrow}
use Rattle.gh_ast.specs.declared.sign.Keyword.{Keyword}
use Rattle.gh_ast.specs.declared.sign.Keyword.TheVariants as keyword
use Rattle.gh_ast.specs.Tokens.{Token, named, key, sign, cleared, first_place, moved_over, sign_text, keyword_text}
use Rattle.gh_ast.specs.Tokens.{is_blank, IsWord, IsFree, EndsWord, IsLongest, IsPiece, a_blank, a_name, a_keyword}
use Rattle.gh_ast.specs.Tokens.{a_sign, IsTokens, nothing, piece, HasTokens, IsStuck}
use Rattle.gh_ast.specs.TokenLaws.{HaveOneList}
use Rattle.gh_ast.proofs.Words.{first_of, after_first, sign_is_sign, keyword_is_word, name_not_blank, word_is_plain}
use Rattle.gh_ast.proofs.Words.{one_run}
use Rattle.gh_ast.proofs.Clearing.{IsPlain}

abbrev signs : List Sign
signs =
    BraceOpen ∷ BraceClose ∷ ParenOpen ∷ ParenClose ∷ Comma ∷ Semicolon ∷ Colon ∷ Dot ∷ Assign ∷ Equal ∷ Unequal ∷ Bang
    ∷ And ∷ Or ∷ Star ∷ Arrow ∷ []

abbrev sign_of : List ℕ → Option Sign
sign_of w = find (λ s. bytes_eq (sign_text s) w) signs

sign_back : (s : Sign) → sign_of (sign_text s) ≡ Some s
sign_back BraceOpen = refl
sign_back BraceClose = refl
sign_back ParenOpen = refl
sign_back ParenClose = refl
sign_back Comma = refl
sign_back Semicolon = refl
sign_back Colon = refl
sign_back Dot = refl
sign_back Assign = refl
sign_back Equal = refl
sign_back Unequal = refl
sign_back Bang = refl
sign_back And = refl
sign_back Or = refl
sign_back Star = refl
sign_back Arrow = refl

-- a sign is known by its text
pub same_sign : (s t : Sign) → sign_text s ≡ sign_text t → s ≡ t
same_sign s t e = same_Some s t (sym (sign_back s) ∙ ap sign_of e ∙ sign_back t)

abbrev keywords : List Keyword
keywords =
    keyword.Struct ∷ keyword.Node ∷ keyword.Var ∷ keyword.Next ∷ keyword.Procedure ∷ keyword.Returns ∷ keyword.Requires
    ∷ keyword.Ensures ∷ keyword.Invariant
    ∷ keyword.If ∷ keyword.Else ∷ keyword.While ∷ keyword.Return ∷ keyword.New ∷ keyword.Free ∷ keyword.Null
    ∷ keyword.Emp ∷ keyword.Acc ∷ keyword.Lseg ∷ []

abbrev keyword_of : List ℕ → Option Keyword
keyword_of w = find (λ k. bytes_eq (keyword_text k) w) keywords

keyword_back : (k : Keyword) → keyword_of (keyword_text k) ≡ Some k
keyword_back keyword.Struct = refl
keyword_back keyword.Node = refl
keyword_back keyword.Var = refl
keyword_back keyword.Next = refl
keyword_back keyword.Procedure = refl
keyword_back keyword.Returns = refl
keyword_back keyword.Requires = refl
keyword_back keyword.Ensures = refl
keyword_back keyword.Invariant = refl
keyword_back keyword.If = refl
keyword_back keyword.Else = refl
keyword_back keyword.While = refl
keyword_back keyword.Return = refl
keyword_back keyword.New = refl
keyword_back keyword.Free = refl
keyword_back keyword.Null = refl
keyword_back keyword.Emp = refl
keyword_back keyword.Acc = refl
keyword_back keyword.Lseg = refl

-- a reserved word is known by its text
pub same_keyword : (k j : Keyword) → keyword_text k ≡ keyword_text j → k ≡ j
same_keyword k j e = same_Some k j (sym (keyword_back k) ∙ ap keyword_of e ∙ keyword_back j)

-- the first byte of a word may stand in a word
word_first : (w : List ℕ) → IsWord w → is_name_byte (first_of w) ≡ true
word_first [] h = absurd (let e = h.begins.2 in cc)
word_first (b ∷ w) h = All-head (λ x. IsTrue (is_name_byte x)) b w h.letters

word_some : (w : List ℕ) → IsWord w → w ≡ first_of w ∷ after_first w
word_some [] h = absurd (let e = h.begins.2 in cc)
word_some (b ∷ w) h = refl

firsts : (w r v q : List ℕ) → w ≡ first_of w ∷ after_first w → v ≡ first_of v ∷ after_first v → w ++ r ≡ v ++ q
    → first_of w ≡ first_of v
firsts [] r v q a b e = cc
firsts (x ∷ w) r [] q a b e = cc
firsts (x ∷ w) r (y ∷ v) q a b e = cc

pub blank_word : (b : ℕ) (r w q : List ℕ) → is_blank b ≡ true → IsWord w → b ∷ r ≡ w ++ q → ⊥
blank_word b r w q h word e =
    name_not_blank b (subst (λ x. is_name_byte x ≡ true) (sym (firsts (b ∷ []) r w q refl (word_some w word) e))
    (word_first w word)) h

pub blank_sign : (b : ℕ) (r : List ℕ) (s : Sign) (q : List ℕ) → is_blank b ≡ true → b ∷ r ≡ sign_text s ++ q → ⊥
blank_sign b r s q h e =
    let i = sign_is_sign s in
    both_ways (is_blank b) (subst (λ x. is_blank x ≡ false) (sym (firsts (b ∷ []) r (sign_text s) q refl i.some e))
    i.not_blank) h

pub word_sign : (w r : List ℕ) (s : Sign) (q : List ℕ) → IsWord w → w ++ r ≡ sign_text s ++ q → ⊥
word_sign w r s q h e =
    let i = sign_is_sign s in
    both_ways (is_name_byte (first_of w))
    (subst (λ x. is_name_byte x ≡ false) (sym (firsts w r (sign_text s) q (word_some w h) i.some e)) i.not_name)
    (word_first w h)

-- two fronts of one length are one
pub record IsOneFront (w r v q : List ℕ) : Type 0 where
  pub front : w ≡ v
  pub rest : r ≡ q

pub one_front : (w r v q : List ℕ) → length w ≡ length v → w ++ r ≡ v ++ q → IsOneFront w r v q
one_front [] r [] q n e = record { front = refl; rest = e }
one_front [] r (y ∷ v) q n e = absurd (omega arith)
one_front (x ∷ w) r [] q n e = absurd (omega arith)
one_front (x ∷ w) r (y ∷ v) q n e =
    let here : x ≡ y = cc in
    let there : w ++ r ≡ v ++ q = cc in
    let o = one_front w r v q (omega arith) there in
    let front = o.front in record { front = cc; rest = o.rest }

-- the longest sign is one
one_sign : (s t : Sign) (r q : List ℕ) → IsLongest s (sign_text s ++ r) → IsLongest t (sign_text t ++ q)
    → sign_text s ++ r ≡ sign_text t ++ q
    → IsOneFront (sign_text s) r (sign_text t) q
one_sign s t r q a b e =
    let down = b s r (sym e) in
    let up = a t q e in
    let n : length (sign_text s) ≡ length (sign_text t) = omega arith in
    one_front (sign_text s) r (sign_text t) q n e

-- what a text begins with is one
pub record IsOnePiece (w r v q : List ℕ) (us ts : List Token) : Type 0 where
  pub piece : w ≡ v
  pub rest : r ≡ q
  pub tokens : us ≡ ts

abbrev token_named : Span → List ℕ → List Token
token_named p w = named (record { name = w; span = p }) ∷ []

one_name : (p : Span) (w r v q : List ℕ) → IsWord w → EndsWord r → IsWord v → EndsWord q → w ++ r ≡ v ++ q
    → IsOnePiece w r v q (token_named p w) (token_named p v)
one_name p w r v q a b c d e =
    let o = one_run w r v q a.letters b c.letters d e in
    record { piece = o.run; rest = o.rest; tokens = ap (token_named p) o.run }

name_key : (w r : List ℕ) (k : Keyword) (q : List ℕ) → IsWord w → EndsWord r → IsFree w → EndsWord q
    → w ++ r ≡ keyword_text k ++ q → ⊥
name_key w r k q a b free d e = free k (one_run w r (keyword_text k) q a.letters b (keyword_is_word k).letters d e).run

one_key : (p : Span) (k j : Keyword) (r q : List ℕ) → EndsWord r → EndsWord q
    → keyword_text k ++ r ≡ keyword_text j ++ q
    → IsOnePiece (keyword_text k) r (keyword_text j) q (key k p ∷ []) (key j p ∷ [])
one_key p k j r q b d e =
    let o =
    one_run (keyword_text k) r (keyword_text j) q (keyword_is_word k).letters b (keyword_is_word j).letters d e in
    record { piece = o.run; rest = o.rest; tokens = ap (λ i. key i p ∷ []) (same_keyword k j o.run) }

one_mark : (p : Span) (s t : Sign) (r q : List ℕ) → IsLongest s (sign_text s ++ r) → IsLongest t (sign_text t ++ q)
    → sign_text s ++ r ≡ sign_text t ++ q
    → IsOnePiece (sign_text s) r (sign_text t) q (sign s p ∷ []) (sign t p ∷ [])
one_mark p s t r q a b e =
    let o = one_sign s t r q a b e in
    record { piece = o.front; rest = o.rest; tokens = ap (λ i. sign i p ∷ []) (same_sign s t o.front) }

front_is : (w u r v q : List ℕ) → w ≡ u → w ++ r ≡ v ++ q → u ++ r ≡ v ++ q
front_is w u r v q e f = ap (λ x. x ++ r) (sym e) ∙ f

back_is : (w r v u q : List ℕ) → v ≡ u → w ++ r ≡ v ++ q → w ++ r ≡ u ++ q
back_is w r v u q e f = f ∙ ap (λ x. x ++ q) e

pub one_piece : (p : Span) (w r v q : List ℕ) (us ts : List Token) → IsPiece p w r us → IsPiece p v q ts
    → w ++ r ≡ v ++ q → IsOnePiece w r v q us ts
one_piece p w r v q us ts (a_blank b i h) (a_blank c j k) e =
    let o = one_front w r v q (ap length i ∙ sym (ap length j)) e in
    record { piece = o.front; rest = o.rest; tokens = refl }
one_piece p w r v q us ts (a_blank b i h) (a_name word ends free) e =
    absurd (blank_word b r v q h word (front_is w (b ∷ []) r v q i e))
one_piece p w r v q us ts (a_blank b i h) (a_keyword k j ends) e =
    absurd (blank_word b r (keyword_text k) q h (keyword_is_word k)
    (back_is (b ∷ []) r v (keyword_text k) q j (front_is w (b ∷ []) r v q i e)))
one_piece p w r v q us ts (a_blank b i h) (a_sign s j l) e =
    absurd (blank_sign b r s q h (back_is (b ∷ []) r v (sign_text s) q j (front_is w (b ∷ []) r v q i e)))
one_piece p w r v q us ts (a_name word ends free) (a_blank b i h) e =
    absurd (blank_word b q w r h word (front_is v (b ∷ []) q w r i (sym e)))
one_piece p w r v q us ts (a_name word ends free) (a_name word' ends' free') e =
    one_name p w r v q word ends word' ends' e
one_piece p w r v q us ts (a_name word ends free) (a_keyword k j ends') e =
    absurd (name_key w r k q word ends free ends' (back_is w r v (keyword_text k) q j e))
one_piece p w r v q us ts (a_name word ends free) (a_sign s j l) e =
    absurd (word_sign w r s q word (back_is w r v (sign_text s) q j e))
one_piece p w r v q us ts (a_keyword k i ends) (a_blank b j h) e =
    absurd (blank_word b q (keyword_text k) r h (keyword_is_word k)
    (back_is (b ∷ []) q w (keyword_text k) r i (front_is v (b ∷ []) q w r j (sym e))))
one_piece p w r v q us ts (a_keyword k i ends) (a_name word ends' free) e =
    absurd (name_key v q k r word ends' free ends (back_is v q w (keyword_text k) r i (sym e)))
one_piece p w r v q us ts (a_keyword k i ends) (a_keyword l j ends') e =
    let o =
    one_key p k l r q ends ends'
    (back_is (keyword_text k) r v (keyword_text l) q j (front_is w (keyword_text k) r v q i e)) in
    record { piece = i ∙ o.piece ∙ sym j; rest = o.rest; tokens = o.tokens }
one_piece p w r v q us ts (a_keyword k i ends) (a_sign s j l) e =
    absurd (word_sign (keyword_text k) r s q (keyword_is_word k)
    (back_is (keyword_text k) r v (sign_text s) q j (front_is w (keyword_text k) r v q i e)))
one_piece p w r v q us ts (a_sign s i l) (a_blank b j h) e =
    absurd (blank_sign b q s r h (back_is (b ∷ []) q w (sign_text s) r i (front_is v (b ∷ []) q w r j (sym e))))
one_piece p w r v q us ts (a_sign s i l) (a_name word ends free) e =
    absurd (word_sign v q s r word (back_is v q w (sign_text s) r i (sym e)))
one_piece p w r v q us ts (a_sign s i l) (a_keyword k j ends) e =
    absurd (word_sign (keyword_text k) q s r (keyword_is_word k)
    (back_is (keyword_text k) q w (sign_text s) r i (front_is v (keyword_text k) q w r j (sym e))))
one_piece p w r v q us ts (a_sign s i l) (a_sign t j m) e =
    let l' = subst (λ x. IsLongest s (x ++ r)) i l in
    let m' = subst (λ x. IsLongest t (x ++ q)) j m in
    let o =
    one_mark p s t r q l' m' (back_is (sign_text s) r v (sign_text t) q j (front_is w (sign_text s) r v q i e)) in
    record { piece = i ∙ o.piece ∙ sym j; rest = o.rest; tokens = o.tokens }

-- the tokens up to a place where none fits, and that place, are one
pub record AreOneList (ts us : List Token) (p q : Span) (r last : List ℕ) : Type 0 where
  pub tokens : ts ≡ us
  pub place : p ≡ q
  pub rest : r ≡ last

pub one_list : (p q q' : Span) (text r r' : List ℕ) (ts us : List Token)
    → IsTokens p text ts q r → IsStuck r → IsTokens p text us q' r' → IsStuck r' → AreOneList ts us q q' r r'
one_list p q q' text r r' ts us nothing a nothing b = record { tokens = refl; place = refl; rest = refl }
one_list p q q' text r r' ts us nothing a (piece {w} {rest} {us = ks} e h more f) b = absurd (a p w rest ks e h)
one_list p q q' text r r' ts us (piece {w} {rest} {us = ks} e h more f) a nothing b = absurd (b p w rest ks e h)
one_list p q q' text r r' ts us (piece {w} {rest} {us = ks} {ts = ns} e h more f) a
    (piece {w = v} {rest = rest'} {us = ls} {ts = ms} e' h' more' f') b =
    let o = one_piece p w rest v rest' ks ls h h' (sym e ∙ e') in
    let same = subst (λ x. IsTokens (moved_over p x) rest' ms q' r') (sym o.piece) more' in
    let same' = subst (λ x. IsTokens (moved_over p w) x ms q' r') (sym o.rest) same in
    let l = one_list (moved_over p w) q q' rest r r' ns ms more a same' b in
    let front = o.tokens in let back = l.tokens in
    record { tokens = cc; place = l.place; rest = l.rest }

pub piece_some : (p : Span) (w r : List ℕ) (ts : List Token) → IsPiece p w r ts → w ≡ first_of w ∷ after_first w
piece_some p w r ts (a_blank b i h) = rw i refl
piece_some p w r ts (a_name word ends free) = word_some w word
piece_some p w r ts (a_keyword k i ends) = rw i (word_some (keyword_text k) (keyword_is_word k))
piece_some p w r ts (a_sign s i l) = rw i (sign_is_sign s).some

pub token_is_plain : (p : Span) (w r : List ℕ) (t : Token) (ts : List Token) → IsPiece p w r (t ∷ ts) → IsPlain w
token_is_plain p w r t ts (a_name word ends free) = word_is_plain w word.letters
token_is_plain p w r t ts (a_keyword k i ends) =
    subst IsPlain (sym i) (word_is_plain (keyword_text k) (keyword_is_word k).letters)
token_is_plain p w r t ts (a_sign s i l) = subst IsPlain (sym i) (sign_is_sign s).plain

no_front : (w : List ℕ) (b : ℕ) (v r : List ℕ) → w ≡ b ∷ v → [] ≡ w ++ r → ⊥
no_front [] b v r some e = cc
no_front (x ∷ w) b v r some e = cc

pub stuck_end : IsStuck []
stuck_end p w r ts e h = let some = piece_some p w r ts h in no_front w (first_of w) (after_first w) r some e

-- tokens after tokens
pub tokens_on : (p q q' : Span) (text r r' : List ℕ) (ts us : List Token) → IsTokens p text ts q r
    → IsTokens q r us q' r' → IsTokens p text (ts ++ us) q' r'
tokens_on p q q' text r r' ts us nothing more = more
tokens_on p q q' text r r' ts us (piece {w} {rest} {us = ks} {ts = ns} e h first f) more =
    piece e h (tokens_on (moved_over p w) q q' rest r r' ns us first more) (ap (λ x. x ++ us) f ∙ append_assoc ks ns us)

-- the whole text has at most one list
pub one_whole : HaveOneList
one_whole text ts us a b = (one_list first_place a.0 b.0 (cleared text) [] [] ts us a.1 stuck_end b.1 stuck_end).tokens

-- where no token fits there is no list
pub stuck_has_none : (text : List ℕ) (ts us : List Token) (q : Span) (rest : List ℕ)
    → IsTokens first_place (cleared text) ts q rest → IsStuck rest → rest ≢ [] → HasTokens text us → ⊥
stuck_has_none text ts us q rest a s n b =
    n (one_list first_place q b.0 (cleared text) rest [] ts us a s b.1 stuck_end).rest
