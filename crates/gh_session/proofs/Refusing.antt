-- A text that is a session has no first bad line, and another has one.
use Rattle.std.specs.Prelude.{◌≡◌, ◌⊎◌, ℕ, suc, ◌+◌, List, [], ◌∷◌, ◌++◌, length, cond, nat_eq, Bool, true, false}
use Rattle.std.specs.Prelude.{Contains}
use Rattle.std.proofs.Common.{refl, sym, ◌∙◌, ap, subst, inl, inr, arith}
use Rattle.std.proofs.lemmas.Bool.{eqb-true}
use Rattle.std.proofs.lemmas.List.Elements.{Contains-append_cases, Contains-append_right}
use Rattle.gh_ast.specs.Programs.{Name}
use Rattle.gh_ast.proofs.Lists.{member_first, member_later, member_cases, no_member}
use Rattle.gh_session.specs.declared.edits.Edit.{Edit}
use Rattle.gh_session.specs.declared.edits.Edits.{Edits}
use Rattle.gh_session.specs.declared.error.SessionError.TheVariants.{Line, TooMany}
use Rattle.gh_session.specs.Lines.{lines, IsMarked, IsSeparator, IsPiece, ArePieces, AreSessionLines, IsSession, IsBad}
use Rattle.gh_session.specs.Lines.{IsLineAfter, IsFirstBad}
use Rattle.gh_session.proofs.Orders.{IsOrder, one_place, left_first, right_first, ordered}

-- lines that begin with `%` are counted

abbrev one_if : Bool → ℕ
one_if b = cond b 1 0

abbrev marked_one : List ℕ → ℕ
marked_one [] = 0
marked_one (b ∷ l) = one_if (nat_eq b 37)

abbrev marks : List (List ℕ) → ℕ
marks [] = 0
marks (l ∷ ls) = marked_one l + marks ls

two_values : (b : Bool) → (b ≡ true) ⊎ (b ≡ false)
two_values true = inl refl
two_values false = inr refl

sum_up : (x s a b : ℕ) → s ≡ a + b → x + s ≡ x + a + b
sum_up x s a b e = omega (arith, e)

none_up : (x y : ℕ) → x ≡ 0 → y ≡ 0 → x + y ≡ 0
none_up x y e f = omega (arith, e, f)

one_up : (x y n : ℕ) → x ≡ 1 → y ≡ n → x + y ≡ suc n
one_up x y n e f = omega (arith, e, f)

none_before : (x y n : ℕ) → x ≡ 0 → y ≡ n → x + y ≡ n
none_before x y n e f = omega (arith, e, f)

marks_append : (a b : List (List ℕ)) → marks (a ++ b) ≡ marks a + marks b
marks_append [] b = omega arith
marks_append (l ∷ a) b = sum_up (marked_one l) (marks (a ++ b)) (marks a) (marks b) (marks_append a b)

plain_line : (l : List ℕ) → (IsMarked l → ⊥) → marked_one l ≡ 0
plain_line [] h = refl
plain_line (b ∷ l) h = elim (two_values (nat_eq b 37)) as (λ _. one_if (nat_eq b 37) ≡ 0) [
  | inl is ↦ absurd (h (l, ap (λ c. c ∷ l) (eqb-true b 37 is)))
  | inr not ↦ ap one_if not
]

plain_lines : (ls : List (List ℕ)) → ((l : List ℕ) → Contains ls l → IsMarked l → ⊥) → marks ls ≡ 0
plain_lines [] h = refl
plain_lines (l ∷ ls) h =
    none_up (marked_one l) (marks ls) (plain_line l (h l (member_first l ls)))
    (plain_lines ls (λ k i. h k (member_later l k ls i)))

separator_line : (l : List ℕ) (asks : Bool) (n : Name) → IsSeparator l asks n → marked_one l ≡ 1
separator_line l asks n s = elim s.is as (λ _. marked_one l ≡ 1) [ inl e ↦ ap marked_one e | inr e ↦ ap marked_one e ]

piece_marks : (e : Edit) (ls : List (List ℕ)) → IsPiece e ls → marks ls ≡ 1
piece_marks e ls p =
    ap marks p.whole ∙ one_up (marked_one p.mark) (marks p.more) 0 (separator_line p.mark e.asks e.name p.separator)
    (plain_lines p.more p.text.plain)

pieces_marks : (es : List Edit) (ls : List (List ℕ)) → ArePieces es ls → marks ls ≡ length es
pieces_marks [] ls e = ap marks e
pieces_marks (e ∷ es) ls (own, more, whole, piece, rest) =
    ap marks whole ∙ marks_append own more
    ∙ one_up (marks own) (marks more) (length es) (piece_marks e own piece) (pieces_marks es more rest)

session_marks : (head : List ℕ) (es : List Edit) (ls : List (List ℕ)) → AreSessionLines head es ls
    → marks ls ≡ length es
session_marks head es ls s =
    ap marks s.whole ∙ marks_append s.first s.more
    ∙ none_before (marks s.first) (marks s.more) (length es) (plain_lines s.first s.text.plain)
    (pieces_marks es s.more s.pieces)

-- lines with 256 pieces and one more separator are no lines of a session
too_many_marks : (head first : List ℕ) (es fs : List Edit) (ls before after : List (List ℕ)) (here : List ℕ)
    (asks : Bool) (name : Name) → AreSessionLines head es ls → AreSessionLines first fs before → length fs ≡ 256
    → IsSeparator here asks name → ls ≡ before ++ here ∷ after → ⊥
too_many_marks head first es fs ls before after here asks name is read count separator whole =
    let all = session_marks head es ls is in
    let front = session_marks first fs before read in
    let parts : marks ls ≡ marks before + (marked_one here + marks after) =
    ap marks whole ∙ marks_append before (here ∷ after) in
    let mark = separator_line here asks name separator in
    let few = is.few in
    absurd (omega (arith, all, front, parts, mark, few, count))

-- what begins with `%` is a separator

abbrev Separates : List ℕ → Type 0
Separates l = (asks : Bool) × (n : Name) × IsSeparator l asks n

piece_separates : (e : Edit) (ls : List (List ℕ)) (l : List ℕ) → IsPiece e ls → Contains ls l → IsMarked l → Separates l
piece_separates e ls l p i m =
    elim (member_cases p.mark p.more l (subst (λ ks. Contains ks l) p.whole i)) as (λ _. Separates l) [
      | inl same ↦ (e.asks, e.name, subst (λ k. IsSeparator k e.asks e.name) same p.separator)
      | inr later ↦ absurd (p.text.plain l later m)
    ]

pieces_separate : (es : List Edit) (ls : List (List ℕ)) (l : List ℕ) → ArePieces es ls → Contains ls l → IsMarked l
    → Separates l
pieces_separate [] ls l e i m = absurd (no_member l (subst (λ ks. Contains ks l) e i))
pieces_separate (e ∷ es) ls l (own, more, whole, piece, rest) i m =
    elim (Contains-append_cases own more l (subst (λ ks. Contains ks l) whole i)) as (λ _. Separates l) [
      | inl here ↦ piece_separates e own l piece here m
      | inr later ↦ pieces_separate es more l rest later m
    ]

no_bad : (head : List ℕ) (es : List Edit) (ls : List (List ℕ)) (l : List ℕ) → AreSessionLines head es ls → Contains ls l
    → IsBad l → ⊥
no_bad head es ls l is there bad =
    elim (Contains-append_cases is.first is.more l (subst (λ ks. Contains ks l) is.whole there)) as (λ _. ⊥) [
      | inl plain ↦ is.text.plain l plain bad.0
      | inr later ↦ let s = pieces_separate es is.more l is.pieces later bad.0 in bad.1 s.0 s.1 s.2
    ]

among : (before after : List (List ℕ)) (here : List ℕ) (ls : List (List ℕ)) → ls ≡ before ++ here ∷ after
    → Contains ls here
among before after here ls whole =
    subst (λ ks. Contains ks here) (sym whole)
    (Contains-append_right before (here ∷ after) here (member_first here after))

-- a session has neither
pub sessions_are_read : (text : List ℕ) (s : Edits) (n : ℕ) → IsSession text s
    → (IsFirstBad text (Line n) → ⊥) × (IsFirstBad text (TooMany n) → ⊥)
sessions_are_read text s n is = (
  λ (here, es, stops, bad). no_bad s.head s.edits.items (lines text) here is
      (among stops.before stops.after here (lines text) stops.whole) bad,
  λ (here, es, asks, name, stops, count, separator).
      too_many_marks s.head stops.head s.edits.items es (lines text) stops.before stops.after here asks name is
      stops.read count separator stops.whole,
)

-- a text has one first bad line, or one first separator too many

same_place : (text : List ℕ) (n m : ℕ) (l k : List ℕ) (es fs : List Edit) → (a : IsLineAfter text n l es)
    → (b : IsLineAfter text m k fs) → a.before ≡ b.before → n ≡ m
same_place text n m l k es fs a b e = a.number ∙ ap (λ ls. length ls + 1) e ∙ sym b.number

places : (text : List ℕ) (n m : ℕ) (l k : List ℕ) (es fs : List Edit) → (a : IsLineAfter text n l es)
    → (b : IsLineAfter text m k fs) → IsOrder a.before b.before l k
places text n m l k es fs a b = ordered a.before b.before a.after b.after l k (sym a.whole ∙ b.whole)

pub one_bad_line : (text : List ℕ) (n m : ℕ) → IsFirstBad text (Line n) → IsFirstBad text (Line m) → n ≡ m
one_bad_line text n m (l, es, a, bad) (k, fs, b, worse) = elim (places text n m l k es fs a b) as (λ _. n ≡ m) [
  | one_place e f ↦ same_place text n m l k es fs a b e
  | left_first d e ↦ absurd (no_bad b.head fs b.before l b.read (among a.before d l b.before e) bad)
  | right_first d e ↦ absurd (no_bad a.head es a.before k a.read (among b.before d k a.before e) worse)
]

pub one_too_many : (text : List ℕ) (n m : ℕ) → IsFirstBad text (TooMany n) → IsFirstBad text (TooMany m) → n ≡ m
one_too_many text n m (l, es, asks, name, a, count, separator) (k, fs, others, other, b, number, mark) =
    elim (places text n m l k es fs a b) as (λ _. n ≡ m) [
      | one_place e f ↦ same_place text n m l k es fs a b e
      | left_first d e ↦ absurd
          (too_many_marks b.head a.head fs es b.before a.before d l asks name b.read a.read count separator e)
      | right_first d e ↦ absurd
          (too_many_marks a.head b.head es fs a.before b.before d k others other a.read b.read number mark e)
    ]

pub bad_or_too_many : (text : List ℕ) (n m : ℕ) → IsFirstBad text (Line n) → IsFirstBad text (TooMany m) → ⊥
bad_or_too_many text n m (l, es, a, bad) (k, fs, asks, name, b, count, separator) =
    elim (places text n m l k es fs a b) as (λ _. ⊥) [
      | one_place e f ↦ bad.1 asks name (subst (λ x. IsSeparator x asks name) (sym f) separator)
      | left_first d e ↦ no_bad b.head fs b.before l b.read (among a.before d l b.before e) bad
      | right_first d e ↦ too_many_marks a.head b.head es fs a.before b.before d k asks name a.read b.read count separator e
    ]
