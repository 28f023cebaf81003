-- The tables of signs and reserved words.
use Rattle.std.proofs.Common.{◌≡◌, ◌≢◌, ℕ, zero, suc, ◌<◌, ◌≤◌, List, [], ◌∷◌, ◌++◌, length, Option, Some, None, Bool}
use Rattle.std.proofs.Common.{true, ◌&&◌, nat_le, get_or, refl, sym, ◌∙◌, ap, subst, arith, lit<}
use Rattle.std.specs.Option.{MatchOption}
use Rattle.std.specs.List.{list_all, AllWithin, HoldsAt}
use Rattle.std.proofs.lemmas.Bool.{and_parts, leb-true}
use Rattle.std.proofs.lemmas.List.Sums.{AllPass-from_list_all}
use Rattle.gh_ast.specs.declared.sign.Sign.{Sign}
use Rattle.gh_ast.specs.declared.sign.Sign.TheVariants.{BraceOpen, BraceClose, ParenOpen, ParenClose, Comma, Semicolon}
use Rattle.gh_ast.specs.declared.sign.Sign.TheVariants.{Colon, Dot, Assign, Equal, Unequal, Bang, And, Or, Star, Arrow}
use Rattle.gh_ast.specs.declared.sign.Keyword.{Keyword}
use Rattle.gh_ast.specs.declared.sign.Keyword.TheVariants as keyword
use Rattle.gh_ast.specs.Tokens.{sign_text, keyword_text, IsFree, IsLongest}
use Rattle.gh_parse.specs.Lexing.{BeginsWith}

abbrev pub signs : List Sign
signs =
    Star ∷ Arrow ∷ Assign ∷ Equal ∷ Unequal ∷ And ∷ Or ∷ BraceOpen ∷ BraceClose ∷ ParenOpen ∷ ParenClose ∷ Comma
    ∷ Semicolon ∷ Colon ∷ Dot ∷ Bang ∷ []

abbrev pub keywords : List Keyword
keywords =
    keyword.Struct ∷ keyword.Node ∷ keyword.Var ∷ keyword.Next ∷ keyword.Procedure ∷ keyword.Returns ∷ keyword.Requires
    ∷ keyword.Ensures ∷ keyword.Invariant ∷ keyword.If ∷ keyword.Else ∷ keyword.While ∷ keyword.Return ∷ keyword.New
    ∷ keyword.Free ∷ keyword.Null ∷ keyword.Emp ∷ keyword.Acc ∷ keyword.Lseg ∷ []

-- the place of each in its table
pub record IsIn {A : Type 0} (xs : List A) (x : A) : Type 0 where
  pub place : ℕ
  pub within : place < length xs
  pub here : (d : A) → get_or xs place d ≡ x

sign_place : (s : Sign) → IsIn signs s
sign_place Star = record { place = 0; within = lit< tt; here = λ d. refl }
sign_place Arrow = record { place = 1; within = lit< tt; here = λ d. refl }
sign_place Assign = record { place = 2; within = lit< tt; here = λ d. refl }
sign_place Equal = record { place = 3; within = lit< tt; here = λ d. refl }
sign_place Unequal = record { place = 4; within = lit< tt; here = λ d. refl }
sign_place And = record { place = 5; within = lit< tt; here = λ d. refl }
sign_place Or = record { place = 6; within = lit< tt; here = λ d. refl }
sign_place BraceOpen = record { place = 7; within = lit< tt; here = λ d. refl }
sign_place BraceClose = record { place = 8; within = lit< tt; here = λ d. refl }
sign_place ParenOpen = record { place = 9; within = lit< tt; here = λ d. refl }
sign_place ParenClose = record { place = 10; within = lit< tt; here = λ d. refl }
sign_place Comma = record { place = 11; within = lit< tt; here = λ d. refl }
sign_place Semicolon = record { place = 12; within = lit< tt; here = λ d. refl }
sign_place Colon = record { place = 13; within = lit< tt; here = λ d. refl }
sign_place Dot = record { place = 14; within = lit< tt; here = λ d. refl }
sign_place Bang = record { place = 15; within = lit< tt; here = λ d. refl }

keyword_place : (k : Keyword) → IsIn keywords k
keyword_place keyword.Struct = record { place = 0; within = lit< tt; here = λ d. refl }
keyword_place keyword.Node = record { place = 1; within = lit< tt; here = λ d. refl }
keyword_place keyword.Var = record { place = 2; within = lit< tt; here = λ d. refl }
keyword_place keyword.Next = record { place = 3; within = lit< tt; here = λ d. refl }
keyword_place keyword.Procedure = record { place = 4; within = lit< tt; here = λ d. refl }
keyword_place keyword.Returns = record { place = 5; within = lit< tt; here = λ d. refl }
keyword_place keyword.Requires = record { place = 6; within = lit< tt; here = λ d. refl }
keyword_place keyword.Ensures = record { place = 7; within = lit< tt; here = λ d. refl }
keyword_place keyword.Invariant = record { place = 8; within = lit< tt; here = λ d. refl }
keyword_place keyword.If = record { place = 9; within = lit< tt; here = λ d. refl }
keyword_place keyword.Else = record { place = 10; within = lit< tt; here = λ d. refl }
keyword_place keyword.While = record { place = 11; within = lit< tt; here = λ d. refl }
keyword_place keyword.Return = record { place = 12; within = lit< tt; here = λ d. refl }
keyword_place keyword.New = record { place = 13; within = lit< tt; here = λ d. refl }
keyword_place keyword.Free = record { place = 14; within = lit< tt; here = λ d. refl }
keyword_place keyword.Null = record { place = 15; within = lit< tt; here = λ d. refl }
keyword_place keyword.Emp = record { place = 16; within = lit< tt; here = λ d. refl }
keyword_place keyword.Acc = record { place = 17; within = lit< tt; here = λ d. refl }
keyword_place keyword.Lseg = record { place = 18; within = lit< tt; here = λ d. refl }

abbrev width : Sign → ℕ
width s = length (sign_text s)

-- none is longer than one before it
abbrev descends : List Sign → Bool
descends [] = true
descends (s ∷ ss) = list_all (λ t. nat_le (width t) (width s)) ss && descends ss

no_longer : (xs : List Sign) (i j : ℕ) (d e : Sign) → descends xs ≡ true → i ≤ j → j < length xs
    → width (get_or xs j d) ≤ width (get_or xs i e)
no_longer [] i j d e h le lt = absurd (omega arith)
no_longer (x ∷ xs) zero zero d e h le lt = omega arith
no_longer (x ∷ xs) zero (suc j) d e h le lt =
    let p = and_parts (list_all (λ t. nat_le (width t) (width x)) xs) (descends xs) h in
    leb-true (width (get_or xs j d)) (width x)
    (AllPass-from_list_all (λ t. nat_le (width t) (width x)) xs p.0 j d (omega arith))
no_longer (x ∷ xs) (suc i) zero d e h le lt = absurd (omega arith)
no_longer (x ∷ xs) (suc i) (suc j) d e h le lt =
    let p = and_parts (list_all (λ t. nat_le (width t) (width x)) xs) (descends xs) h in
    no_longer xs i j d e p.1 (omega arith) (omega arith)

abbrev pub HasNoSign : List ℕ → Sign → Type 0
HasNoSign text s = BeginsWith (sign_text s) text → ⊥

-- the first sign of the table that is in front is the longest
first_is_longest : (text : List ℕ) (s : Sign) (i : ℕ) → i < length signs → HoldsAt (λ t. t ≡ s) signs i
    → AllWithin (HasNoSign text) signs 0 i → IsLongest s text
first_is_longest text s i lt here before t more e =
    let p = sign_place t in
    let not_before : p.place < i → ⊥ =
    λ q. before p.place t (omega arith) q (more, e ∙ ap (λ u. sign_text u ++ more) (sym (p.here t))) in
    let after : i ≤ p.place = omega arith in
    let n = no_longer signs i p.place t s refl after p.within in
    subst (λ u. length (sign_text u) ≤ length (sign_text s)) (p.here t)
    (subst (λ u. width (get_or signs p.place t) ≤ width u) (here s) n)

pub longest_found : (text : List ℕ) (r : Option Sign)
    → MatchOption r (AllWithin (HasNoSign text) signs 0 (length signs))
    (λ s. BeginsWith (sign_text s) text × (i : ℕ) × (i < length signs) × HoldsAt (λ t. t ≡ s) signs i
    × AllWithin (HasNoSign text) signs 0 i)
    → MatchOption r ((s : Sign) → BeginsWith (sign_text s) text → ⊥)
    (λ s. BeginsWith (sign_text s) text × IsLongest s text)
longest_found text None h = λ s b. let p = sign_place s in
    h p.place s (omega arith) p.within (b.0, b.1 ∙ ap (λ u. sign_text u ++ b.0) (sym (p.here s)))
longest_found text (Some s) h = (h.0, first_is_longest text s h.1 h.2 h.3 h.4)

pub reserved_found : (w : List ℕ) (r : Option Keyword)
    → MatchOption r (AllWithin (λ k. w ≢ keyword_text k) keywords 0 (length keywords))
    (λ k. (w ≡ keyword_text k) × (i : ℕ) × (i < length keywords) × HoldsAt (λ j. j ≡ k) keywords i
    × AllWithin (λ k. w ≢ keyword_text k) keywords 0 i)
    → MatchOption r (IsFree w) (λ k. w ≡ keyword_text k)
reserved_found w None h = λ k e. let p = keyword_place k in
    h p.place k (omega arith) p.within (e ∙ ap keyword_text (sym (p.here k)))
reserved_found w (Some k) h = h.0
