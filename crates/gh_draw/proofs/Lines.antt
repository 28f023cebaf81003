-- Texts without a line feed: names, numbers and the words of a report.
use Rattle.std.specs.Prelude.{◌≡◌, ◌≢◌, ℕ, suc, zero, ◌+◌, ◌==◌, ◌/◌, ◌%◌, List, [], ◌∷◌, ◌++◌, codes, Bool, true}
use Rattle.std.specs.Prelude.{false, IsTrue, if◌then◌else◌, nat_lt, All, Contains}
use Rattle.std.specs.Fmt.{decimal, digits, digits_onto, digit_glyph}
use Rattle.std.proofs.Common.{refl, subst, inl, inr, arith}
use Rattle.std.proofs.lemmas.Bool.Decides.{nat_tests}
use Rattle.std.proofs.lemmas.List.Elements.{All-head, All-tail}
use Rattle.gh_base.specs.Names.{is_name_byte}
use Rattle.gh_ast.specs.TokenLaws.{IsNameWord}
use Rattle.gh_ast.proofs.Lists.{member_cases, no_member}
use Rattle.gh_draw.specs.Drawn.{IsOtherLine}
use Rattle.gh_draw.proofs.Fronts.{Each, IsNotEnd}

abbrev pub IsOneLine : List ℕ → Type 0
IsOneLine l = Each IsNotEnd l

pub no_feed : (l : List ℕ) → IsOneLine l → Contains l 10 → ⊥
no_feed [] h there = no_member 10 there
no_feed (c ∷ cs) h there = elim (member_cases c cs 10 there) [ inl same ↦ h.0 same | inr later ↦ no_feed cs h.1 later ]

pub line_both : (l m : List ℕ) → IsOneLine l → IsOneLine m → IsOneLine (l ++ m)
line_both [] m p q = q
line_both (c ∷ cs) m p q = (p.0, line_both cs m p.1 q)

-- words that are known

abbrev pub has_no_feed : List ℕ → Bool
has_no_feed [] = true
has_no_feed (c ∷ cs) = if c == 10 then false else has_no_feed cs

word_step : (b : Bool) (rest : Bool) → (if b then false else rest) ≡ true → (b ≡ false) × (rest ≡ true)
word_step true rest e = absurd cc
word_step false rest e = (refl, e)

not_ten : (c : ℕ) → (c == 10) ≡ false → c ≢ 10
not_ten c e is = grind (arith, nat_tests)

pub word_line : (w : List ℕ) → has_no_feed w ≡ true → IsOneLine w
word_line [] e = tt
word_line (c ∷ cs) e = let step = word_step (c == 10) (has_no_feed cs) e in (not_ten c step.0, word_line cs step.1)

-- names

no_name_byte : (c : ℕ) → IsTrue (is_name_byte c) → c ≢ 10
no_name_byte c h e = let bad : is_name_byte 10 ≡ true = subst (λ d. is_name_byte d ≡ true) e h in absurd cc

bytes_line : (w : List ℕ) → All (λ b. IsTrue (is_name_byte b)) w → IsOneLine w
bytes_line [] h = tt
bytes_line (c ∷ cs) h = (
  no_name_byte c (All-head (λ b. IsTrue (is_name_byte b)) c cs h),
  bytes_line cs (All-tail (λ b. IsTrue (is_name_byte b)) c cs h),
)

pub name_line : (w : List ℕ) → IsNameWord w → IsOneLine w
name_line w h = bytes_line w h.word.letters

-- numbers

glyph_line : (d : ℕ) → digit_glyph false d ≢ 10
glyph_line d e = by_case (nat_lt d 10) e
  where
    by_case : (b : Bool) → (if b then 48 + d else 87 + d) ≡ 10 → ⊥
    by_case true e = omega (arith, e)
    by_case false e = omega (arith, e)

either_line : (b : Bool) (l m : List ℕ) → IsOneLine l → IsOneLine m → IsOneLine (if b then l else m)
either_line true l m p q = p
either_line false l m p q = q

onto_line : (k n : ℕ) (acc : List ℕ) → IsOneLine acc → IsOneLine (digits_onto k 10 false n acc)
onto_line zero n acc h = h
onto_line (suc k) n acc h =
    let more : List ℕ = digit_glyph false (n % 10) ∷ acc in
    let one : IsOneLine more = (glyph_line (n % 10), h) in
    either_line (n / 10 == 0) more (digits_onto k 10 false (n / 10) more) one (onto_line k (n / 10) more one)

pub decimal_line : (n : ℕ) → IsOneLine (decimal n)
unfolding digits
decimal_line n = onto_line 64 n [] tt

-- the line that says which condition is refuted
abbrev pub headline : ℕ → ℕ → ℕ → List ℕ
headline k count before =
    codes "refuted: condition " ++ decimal k ++ codes " of " ++ decimal count ++ codes ", " ++ decimal before
    ++ codes " valid before it"

headline_line : (k count before : ℕ) → IsOneLine (headline k count before)
headline_line k count before =
    line_both (codes "refuted: condition " ++ decimal k ++ codes " of " ++ decimal count ++ codes ", "
    ++ decimal before) (codes " valid before it")
    (line_both (codes "refuted: condition " ++ decimal k ++ codes " of " ++ decimal count ++ codes ", ")
    (decimal before)
    (line_both (codes "refuted: condition " ++ decimal k ++ codes " of " ++ decimal count) (codes ", ")
    (line_both (codes "refuted: condition " ++ decimal k ++ codes " of ") (decimal count)
    (line_both (codes "refuted: condition " ++ decimal k) (codes " of ")
    (line_both (codes "refuted: condition ") (decimal k) (word_line (codes "refuted: condition ") refl)
    (decimal_line k)) (word_line (codes " of ") refl))
    (decimal_line count))
    (word_line (codes ", ") refl))
    (decimal_line before))
    (word_line (codes " valid before it") refl)

other_first : (x y : ℕ) (a b : List ℕ) → x ∷ a ≡ y ∷ b → x ≡ y
other_first x y a b e = cc

pub headline_is_other : (k count before : ℕ) → IsOtherLine (headline k count before)
headline_is_other k count before = record {
  one = no_feed (headline k count before) (headline_line k count before);
  other = λ e. let same : 114 ≡ 100 = other_first 114 100 _ _ e in absurd (omega (arith, same));
}
