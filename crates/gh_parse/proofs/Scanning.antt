-- The first strange byte, and the first bracket that is too deep.
use Rattle.std.proofs.Common.{◌≡◌, ℕ, zero, suc, ◌+◌, ◌<◌, ◌≤◌, List, [], ◌∷◌, ◌++◌, length, take, get_or, Option, Some}
use Rattle.std.proofs.Common.{None, Bool, true, false, ◌&&◌, nat_eq, cond, refl, sym, ◌∙◌, ap, subst, arith, inl, inr}
use Rattle.std.specs.Prelude.{count_by}
use Rattle.std.specs.Int.{from_bool}
use Rattle.std.specs.Option.{MatchOption}
use Rattle.std.specs.List.{AllWithin, HoldsAt}
use Rattle.std.proofs.lemmas.Bool.{both_ways, and_parts, eqb-true, cases_lt}
use Rattle.std.proofs.lemmas.List.{get_or-take, take_at, append_assoc, length-append, length-take-le}
use Rattle.std.proofs.lemmas.List.Sums.{sum_by_push, count_by-le-length}
use Rattle.std.proofs.lemmas.Option.{slice_get-get_or, slice_get_within, get_or_from_slice_get}
use Rattle.gh_base.specs.declared.place.Span.{Span}
use Rattle.gh_ast.specs.Tokens.{cleared, wiped, is_ahead, is_character, moved, moved_over, first_place, opens, closes}
use Rattle.gh_ast.specs.Tokens.{IsFirstByte, IsTooDeep}
use Rattle.gh_ast.proofs.Clearing.{length-cleared}
use Rattle.gh_parse.specs.Scanning.{IsDeepPlace}
use Rattle.gh_parse.proofs.Lexing.{moved_within}

abbrev pub IsStrange : ℕ → Type 0
IsStrange b = is_character b ≡ false

abbrev pub IsKnown : ℕ → Type 0
IsKnown b = is_character b ≡ true

first_byte : (text : List ℕ) (i : ℕ) → i < length (cleared text) → HoldsAt IsStrange (cleared text) i
    → AllWithin IsKnown (cleared text) 0 i → IsFirstByte text i
first_byte text i lt here before =
    record {
      byte = get_or (cleared text) i 0;
      here = slice_get-get_or (cleared text) i 0 lt;
      strange = here 0;
      before = λ k d h.
          let le : k < i = let n = length-take-le i (cleared text) (omega arith) in omega arith in
          subst (λ b. is_character b ≡ true) (sym (get_or-take i (cleared text) k d le)) (before k d (omega arith) le);
    }

pub strange_found : (text : List ℕ) (r : Option ℕ)
    → MatchOption r (AllWithin IsKnown (cleared text) 0 (length (cleared text)))
    (λ i. (i < length (cleared text)) × HoldsAt IsStrange (cleared text) i × AllWithin IsKnown (cleared text) 0 i)
    → MatchOption r ((k : ℕ) → IsFirstByte text k → ⊥) (λ k. IsFirstByte text k)
strange_found text None h = λ k f.
    let lt = slice_get_within (cleared text) k f.byte f.here in
    both_ways (is_character f.byte) f.strange
    (subst (λ b. is_character b ≡ true) (get_or_from_slice_get (cleared text) k f.byte 0 f.here)
    (h k 0 (omega arith) lt))
strange_found text (Some i) h = first_byte text i h.0 h.1 h.2

in_line : (p : Span) (b : ℕ) → nat_eq b 10 ≡ false → moved p b ≡ moved p 32
in_line p b e = rw e refl

by_comment : (k b : ℕ) (rest : List ℕ) (p : Span) (v : Bool) → ((nat_eq b 47) && is_ahead 47 rest) ≡ v
    → moved_over (moved p 32) (take k (wiped rest)) ≡ moved_over (moved p 32) (take k rest)
    → moved_over (moved p b) (take k (cleared rest)) ≡ moved_over (moved p b) (take k rest)
    → moved_over p (take (suc k) (cond v (32 ∷ wiped rest) (b ∷ cleared rest))) ≡ moved_over (moved p b) (take k rest)
by_comment k b rest p true e w c =
    let slash : b ≡ 47 = eqb-true b 47 (and_parts (nat_eq b 47) (is_ahead 47 rest) e).0 in
    let same : moved p b ≡ moved p 32 = ap (moved p) slash in
    w ∙ ap (λ q. moved_over q (take k rest)) (sym same)
by_comment k b rest p false e w c = c

by_line : (k b : ℕ) (rest : List ℕ) (p : Span) (v : Bool) → nat_eq b 10 ≡ v
    → moved_over (moved p 32) (take k (wiped rest)) ≡ moved_over (moved p 32) (take k rest)
    → moved_over (moved p b) (take k (cleared rest)) ≡ moved_over (moved p b) (take k rest)
    → moved_over p (take (suc k) (cond v (b ∷ cleared rest) (32 ∷ wiped rest))) ≡ moved_over (moved p b) (take k rest)
by_line k b rest p true e w c = c
by_line k b rest p false e w c = w ∙ ap (λ q. moved_over q (take k rest)) (sym (in_line p b e))

-- a place moves over a text as it does without the comments
mutual
  pub moved_cleared : (k : ℕ) (text : List ℕ) (p : Span)
      → moved_over p (take k (cleared text)) ≡ moved_over p (take k text)
  moved_cleared zero text p = refl
  moved_cleared (suc k) [] p = refl
  moved_cleared (suc k) (b ∷ rest) p =
      by_comment k b rest p ((nat_eq b 47) && is_ahead 47 rest) refl (moved_wiped k rest (moved p 32))
      (moved_cleared k rest (moved p b))

  pub moved_wiped : (k : ℕ) (text : List ℕ) (p : Span) → moved_over p (take k (wiped text)) ≡ moved_over p (take k text)
  moved_wiped zero text p = refl
  moved_wiped (suc k) [] p = refl
  moved_wiped (suc k) (b ∷ rest) p =
      by_line k b rest p (nat_eq b 10) refl (moved_wiped k rest (moved p 32)) (moved_cleared k rest (moved p b))

-- the bytes that were read, and what they say
pub record IsScan (text done left : List ℕ) (p : Span) (o c : ℕ) : Type 0 where
  pub parts : done ++ left ≡ cleared text
  pub place : p ≡ moved_over first_place done
  pub opened : o ≡ count_by opens done
  pub closed : c ≡ count_by closes done
  pub before : (k : ℕ) → k ≤ length done → IsTooDeep text k → ⊥

front_done : (text done left : List ℕ) → done ++ left ≡ cleared text → take (length done) (cleared text) ≡ done
front_done text done left e = ap (take (length done)) (sym e) ∙ take_at done left (length done) refl

pub done_within : (text done left : List ℕ) → done ++ left ≡ cleared text → length done + length left ≡ length text
done_within text done left e = sym (length-append done left) ∙ ap length e ∙ length-cleared text

split_on : (text done left more : List ℕ) (b : ℕ) → done ++ left ≡ cleared text → left ≡ b ∷ more
    → (done ++ b ∷ []) ++ more ≡ cleared text
split_on text done left more b e f = append_assoc done (b ∷ []) more ∙ ap (λ x. done ++ x) (sym f) ∙ e

from_bool_is : (b : Bool) → from_bool b ≡ cond b 1 0
from_bool_is true = refl
from_bool_is false = refl

pub one_more : (p : ℕ → Bool) (done : List ℕ) (b n m : ℕ) → n ≡ count_by p done → m ≡ n + from_bool (p b)
    → m ≡ count_by p (done ++ b ∷ [])
one_more p done b n m e f =
    f ∙ ap (λ x. n + x) (from_bool_is (p b)) ∙ ap (λ x. x + cond (p b) 1 0) e
    ∙ sym (sum_by_push (λ x. cond (p x) 1 0) done b)

-- the counts after one byte more
pub record IsByteMore (text done left more : List ℕ) (b o c : ℕ) : Type 0 where
  pub parts : (done ++ b ∷ []) ++ more ≡ cleared text
  pub opened : o ≡ count_by opens (done ++ b ∷ [])
  pub closed : c ≡ count_by closes (done ++ b ∷ [])

deep_is : (text done left more : List ℕ) (b o c : ℕ) → IsByteMore text done left more b o c → (n : ℕ)
    → n ≡ length (done ++ b ∷ [])
    → (IsTooDeep text n → c + 64 < o) × (c + 64 < o → IsTooDeep text n)
deep_is text done left more b o c s n e =
    let front : take n (cleared text) ≡ done ++ b ∷ [] =
    ap (λ k. take k (cleared text)) e ∙ front_done text (done ++ b ∷ []) more s.parts in
    let opened : o ≡ count_by opens (take n (cleared text)) = s.opened ∙ ap (count_by opens) (sym front) in
    let closed : c ≡ count_by closes (take n (cleared text)) = s.closed ∙ ap (count_by closes) (sym front) in
    (λ h. omega arith, λ h. omega arith)

long_by_one : (done : List ℕ) (b : ℕ) → length (done ++ b ∷ []) ≡ length done + 1
long_by_one done b = length-append done (b ∷ [])

pub scan_deep : (text done left more : List ℕ) (p : Span) (o c b o' c' : ℕ) → IsScan text done left p o c
    → left ≡ b ∷ more → IsByteMore text done left more b o' c'
    → c' + 64 < o' → IsDeepPlace text p
scan_deep text done left more p o c b o' c' s f n deep =
    let size = done_within text done left s.parts in
    let some : length left ≡ suc (length more) = ap length f in (
      length done,
      record {
        within = omega arith;
        deep = (deep_is text done left more b o' c' n (length done + 1) (sym (long_by_one done b))).1 deep;
        before = s.before;
      },
      s.place ∙ ap (moved_over first_place) (sym (front_done text done left s.parts))
          ∙ moved_cleared (length done) text first_place,
    )

moved_push : (done : List ℕ) (p : Span) (b : ℕ) → moved_over p (done ++ b ∷ []) ≡ moved (moved_over p done) b
moved_push [] p b = refl
moved_push (x ∷ done) p b = moved_push done (moved p x) b

pub scan_next : (text done left more : List ℕ) (p q : Span) (o c b o' c' : ℕ) → IsScan text done left p o c
    → IsByteMore text done left more b o' c'
    → o' ≤ c' + 64 → q ≡ moved p b → IsScan text (done ++ b ∷ []) more q o' c'
scan_next text done left more p q o c b o' c' s n flat m =
    record {
      parts = n.parts;
      place = m ∙ ap (λ r. moved r b) s.place ∙ sym (moved_push done first_place b);
      opened = n.opened;
      closed = n.closed;
      before = λ k h deep.
          let size = long_by_one done b in
          elim (cases_lt (length done) k) [
            | inl late ↦
                let e : k ≡ length (done ++ b ∷ []) = omega arith in
                let h' = (deep_is text done left more b o' c' n k e).0 deep in omega arith
            | inr early ↦ s.before k early deep
          ];
    }

-- while a byte is left the counts and the place have room
pub record IsRoomy (text : List ℕ) (p : Span) (o c : ℕ) : Type 0 where
  pub opened : o < length text
  pub closed : c < length text
  pub line : p.line ≤ length text
  pub col : p.col ≤ length text

pub roomy : (text done left more : List ℕ) (p : Span) (o c b : ℕ) → IsScan text done left p o c → left ≡ b ∷ more
    → IsRoomy text p o c
roomy text done left more p o c b s f =
    let size = done_within text done left s.parts in
    let some : length left ≡ suc (length more) = ap length f in
    let w = moved_within done first_place in
    let line : p.line ≤ 1 + length done = subst (λ q. q.line ≤ 1 + length done) (sym s.place) w.line in
    let col : p.col ≤ 1 + length done = subst (λ q. q.col ≤ 1 + length done) (sym s.place) w.col in
    let a = count_by-le-length opens done in
    let e = s.opened in
    let d = count_by-le-length closes done in
    let g = s.closed in
    record { opened = omega arith; closed = omega arith; line = omega arith; col = omega arith }

pub from_bool_small : (b : Bool) → from_bool b ≤ 1
from_bool_small true = omega arith
from_bool_small false = omega arith

pub next_of : (text done left more : List ℕ) (p : Span) (o c b x y : ℕ) (r s : Bool) → IsScan text done left p o c
    → left ≡ b ∷ more
    → x ≡ from_bool r → r ≡ opens b → y ≡ from_bool s → s ≡ closes b → IsByteMore text done left more b (o + x) (c + y)
next_of text done left more p o c b x y r s scan f xe re ye se =
    record {
      parts = split_on text done left more b scan.parts f;
      opened = one_more opens done b o (o + x) scan.opened (ap (λ n. o + n) (xe ∙ ap from_bool re));
      closed = one_more closes done b c (c + y) scan.closed (ap (λ n. c + n) (ye ∙ ap from_bool se));
    }
