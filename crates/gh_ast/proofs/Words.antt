-- Blanks, words and signs begin differently.
use Rattle.std.proofs.Common.{◌≡◌, ◌≢◌, ℕ, List, [], ◌∷◌, ◌++◌, length, Bool, true, false, ◌||◌, ◌&&◌, nat_eq, nat_le}
use Rattle.std.proofs.Common.{not, IsTrue, All, refl, sym, subst, arith, inl, inr}
use Rattle.std.specs.List.{list_all}
use Rattle.std.proofs.lemmas.Bool.{and_parts, and_from, or_cases, eqb-true, leb-true, both_ways}
use Rattle.std.proofs.lemmas.List.Elements.{All-head, All-tail}
use Rattle.std.proofs.lemmas.List.Sums.{AllPass-from_list_all}
use Rattle.gh_base.specs.Names.{is_name_byte}
use Rattle.gh_ast.specs.declared.sign.Sign.{Sign}
use Rattle.gh_ast.specs.declared.sign.Sign.TheVariants.{BraceOpen, BraceClose, ParenOpen, ParenClose, Comma, Semicolon}
use Rattle.gh_ast.specs.declared.sign.Sign.TheVariants.{Colon, Dot, Assign, Equal, Unequal, Bang, And, Or, Star, Arrow}
use Rattle.gh_ast.specs.declared.sign.Keyword.{Keyword}
use Rattle.gh_ast.specs.declared.sign.Keyword.TheVariants as keyword
use Rattle.gh_ast.specs.Tokens.{sign_text, keyword_text, is_blank, begins_word, IsWord, EndsWord}
use Rattle.gh_ast.proofs.Clearing.{is_plain, IsPlain, plain_byte}

-- a byte that one test passes and another doesn't is another byte
apart : (p : ℕ → Bool) (b c : ℕ) → p b ≡ true → p c ≡ false → b ≢ c
apart p b c h n e = both_ways (p c) n (subst (λ x. p x ≡ true) e h)

-- the first byte, 0 where there is none
abbrev pub first_of : List ℕ → ℕ
first_of [] = 0
first_of (b ∷ rest) = b

abbrev pub after_first : List ℕ → List ℕ
after_first [] = []
after_first (b ∷ rest) = rest

abbrev is_sign_text : List ℕ → Bool
is_sign_text w =
    list_all is_plain w && (nat_le 1 (length w) && (not (is_blank (first_of w)) && not (is_name_byte (first_of w))))

sign_test : (s : Sign) → is_sign_text (sign_text s) ≡ true
sign_test BraceOpen = refl
sign_test BraceClose = refl
sign_test ParenOpen = refl
sign_test ParenClose = refl
sign_test Comma = refl
sign_test Semicolon = refl
sign_test Colon = refl
sign_test Dot = refl
sign_test Assign = refl
sign_test Equal = refl
sign_test Unequal = refl
sign_test Bang = refl
sign_test And = refl
sign_test Or = refl
sign_test Star = refl
sign_test Arrow = refl

abbrev is_keyword_text : List ℕ → Bool
is_keyword_text w =
    list_all is_name_byte w && (nat_le 1 (length w) && (nat_le (length w) 64 && begins_word (first_of w)))

keyword_test : (k : Keyword) → is_keyword_text (keyword_text k) ≡ true
keyword_test keyword.Struct = refl
keyword_test keyword.Node = refl
keyword_test keyword.Var = refl
keyword_test keyword.Next = refl
keyword_test keyword.Procedure = refl
keyword_test keyword.Returns = refl
keyword_test keyword.Requires = refl
keyword_test keyword.Ensures = refl
keyword_test keyword.Invariant = refl
keyword_test keyword.If = refl
keyword_test keyword.Else = refl
keyword_test keyword.While = refl
keyword_test keyword.Return = refl
keyword_test keyword.New = refl
keyword_test keyword.Free = refl
keyword_test keyword.Null = refl
keyword_test keyword.Emp = refl
keyword_test keyword.Acc = refl
keyword_test keyword.Lseg = refl

two_of : (w : List ℕ) → nat_le 1 (length w) ≡ true → w ≡ first_of w ∷ after_first w
two_of [] h = absurd (omega (arith, leb-true 1 0 h))
two_of (b ∷ w) h = refl

-- what a sign begins with
pub record IsSignText (w : List ℕ) : Type 0 where
  pub plain : IsPlain w
  pub some : w ≡ first_of w ∷ after_first w
  pub not_blank : is_blank (first_of w) ≡ false
  pub not_name : is_name_byte (first_of w) ≡ false

not-true' : (b : Bool) → not b ≡ true → b ≡ false
not-true' true h = cc
not-true' false h = refl

pub sign_is_sign : (s : Sign) → IsSignText (sign_text s)
sign_is_sign s =
    let w = sign_text s in
    let a =
    and_parts (list_all is_plain w)
    (nat_le 1 (length w) && (not (is_blank (first_of w)) && not (is_name_byte (first_of w)))) (sign_test s) in
    let b = and_parts (nat_le 1 (length w)) (not (is_blank (first_of w)) && not (is_name_byte (first_of w))) a.1 in
    let d = and_parts (not (is_blank (first_of w))) (not (is_name_byte (first_of w))) b.1 in
    record {
      plain = record { test = a.0 };
      some = two_of w b.0;
      not_blank = not-true' (is_blank (first_of w)) d.0;
      not_name = not-true' (is_name_byte (first_of w)) d.1;
    }

pub keyword_is_word : (k : Keyword) → IsWord (keyword_text k)
keyword_is_word k =
    let w = keyword_text k in
    let a =
    and_parts (list_all is_name_byte w) (nat_le 1 (length w) && (nat_le (length w) 64 && begins_word (first_of w)))
    (keyword_test k) in
    let b = and_parts (nat_le 1 (length w)) (nat_le (length w) 64 && begins_word (first_of w)) a.1 in
    let d = and_parts (nat_le (length w) 64) (begins_word (first_of w)) b.1 in
    record {
      begins = (first_of w, after_first w, two_of w b.0, d.1);
      letters = AllPass-from_list_all is_name_byte w a.0;
      short = leb-true (length w) 64 d.0;
    }

-- a byte of a word is no blank
pub name_not_blank : (b : ℕ) → is_name_byte b ≡ true → is_blank b ≡ true → ⊥
name_not_blank b h q =
    elim (or_cases (((nat_eq b 32) || (nat_eq b 9)) || (nat_eq b 13)) (nat_eq b 10) q) [
      | inl r ↦ elim (or_cases ((nat_eq b 32) || (nat_eq b 9)) (nat_eq b 13) r) [
        | inl s ↦ elim (or_cases (nat_eq b 32) (nat_eq b 9) s) [
          | inl t ↦ apart is_name_byte b 32 h refl (eqb-true b 32 t)
          | inr t ↦ apart is_name_byte b 9 h refl (eqb-true b 9 t)
        ]
        | inr s ↦ apart is_name_byte b 13 h refl (eqb-true b 13 s)
      ]
      | inr r ↦ apart is_name_byte b 10 h refl (eqb-true b 10 r)
    ]

pub name_not_slash : (b : ℕ) → is_name_byte b ≡ true → b ≢ 47
name_not_slash b h = apart is_name_byte b 47 h refl

pub blank_not_slash : (b : ℕ) → is_blank b ≡ true → b ≢ 47
blank_not_slash b h = apart is_blank b 47 h refl

pub name_is_plain : (b : ℕ) → is_name_byte b ≡ true → is_plain b ≡ true
name_is_plain b h =
    plain_byte b (apart is_name_byte b 47 h refl) (apart is_name_byte b 32 h refl) (apart is_name_byte b 10 h refl)

pub word_is_plain : (w : List ℕ) → All (λ b. IsTrue (is_name_byte b)) w → IsPlain w
word_is_plain [] h = record { test = refl }
word_is_plain (b ∷ w) h =
    let P : ℕ → Type 0 = λ x. IsTrue (is_name_byte x) in
    record {
      test = and_from (is_plain b) (list_all is_plain w) (name_is_plain b (All-head P b w h))
          (word_is_plain w (All-tail P b w h)).test;
    }

-- the letters, digits and `_` at the front of a text are one list
pub record IsOneRun (w r v q : List ℕ) : Type 0 where
  pub run : w ≡ v
  pub rest : r ≡ q

ended : (b : ℕ) (r rest : List ℕ) → EndsWord r → is_name_byte b ≡ true → r ≡ b ∷ rest → ⊥
ended b r rest h n e = both_ways (is_name_byte b) (subst EndsWord e h) n

pub one_run : (w r v q : List ℕ) → All (λ b. IsTrue (is_name_byte b)) w → EndsWord r
    → All (λ b. IsTrue (is_name_byte b)) v → EndsWord q
    → w ++ r ≡ v ++ q → IsOneRun w r v q
one_run [] r [] q a b c d e = record { run = refl; rest = e }
one_run [] r (x ∷ v) q a b c d e = absurd (ended x r (v ++ q) b (All-head (λ y. IsTrue (is_name_byte y)) x v c) e)
one_run (x ∷ w) r [] q a b c d e = absurd (ended x q (w ++ r) d (All-head (λ y. IsTrue (is_name_byte y)) x w a) (sym e))
one_run (x ∷ w) r (y ∷ v) q a b c d e =
    let P : ℕ → Type 0 = λ z. IsTrue (is_name_byte z) in
    let here : x ≡ y = cc in
    let there : w ++ r ≡ v ++ q = cc in
    let o = one_run w r v q (All-tail P x w a) b (All-tail P y v c) d there in
    let run = o.run in record { run = cc; rest = o.rest }
