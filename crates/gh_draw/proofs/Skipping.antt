-- Lines are skipped one by one.
use Rattle.std.specs.Prelude.{◌≡◌, ℕ, List, [], ◌∷◌, ◌++◌, codes, All, Contains}
use Rattle.std.specs.List.{flat_map}
use Rattle.std.proofs.Common.{sym, ◌∙◌, ap, subst}
use Rattle.std.proofs.lemmas.List.{append_assoc, get_or_default}
use Rattle.std.proofs.lemmas.List.Elements.{All-cons, All-head, All-tail, All-nil}
use Rattle.gh_ast.proofs.Lists.{member_first, member_later}
use Rattle.gh_draw.specs.Drawings.{line}
use Rattle.gh_draw.specs.Drawn.{IsOtherLine}
use Rattle.gh_draw.specs.Reading.{Skips, HasNoEnd}
use Rattle.gh_draw.proofs.Fronts.{line_one, line_first}

-- what is found in what is left is what is found in the whole
pub record SameFile (now old : List ℕ) : Type 0 where
  pub back : (rest : List ℕ) → Skips now rest → Skips old rest
  pub ahead : (rest : List ℕ) → Skips old rest → Skips now rest

pub same_file : (t : List ℕ) → SameFile t t
same_file t = record { back = λ rest s. s; ahead = λ rest s. s }

line_more : (now l next rest : List ℕ) → ((r : List ℕ) → now ≡ codes "drawing\n" ++ r → ⊥) → (Contains l 10 → ⊥)
    → now ≡ line l ++ next → Skips next rest → Skips now rest
line_more now l next rest more_to_come one e s = record {
  skipped = l ∷ s.skipped;
  others =
      All-cons IsOtherLine l s.skipped
      (record { one = one; other = λ same. more_to_come next (e ∙ ap (λ z. line z ++ next) same) }) s.others;
  whole =
      e ∙ ap (λ z. line l ++ z) s.whole
      ∙ sym (append_assoc (line l) (flat_map line s.skipped) (codes "drawing\n" ++ rest));
}

line_less : (now l next rest : List ℕ) → ((r : List ℕ) → now ≡ codes "drawing\n" ++ r → ⊥) → (Contains l 10 → ⊥)
    → now ≡ line l ++ next → Skips now rest → Skips next rest
line_less now l next rest more_to_come one e s = by_lines s.skipped s.others s.whole
  where
    by_lines : (ms : List (List ℕ)) → All IsOtherLine ms → now ≡ flat_map line ms ++ (codes "drawing\n" ++ rest)
        → Skips next rest
    by_lines [] others whole = absurd (more_to_come rest whole)
    by_lines (m ∷ ms) others whole =
        let other = All-head IsOtherLine m ms others in
        let both =
        line_one l m next (flat_map line ms ++ (codes "drawing\n" ++ rest)) one other.one
        (sym (append_assoc l (10 ∷ []) next) ∙ sym e ∙ whole
        ∙ line_first m (flat_map line ms) (codes "drawing\n" ++ rest)) in
        record { skipped = ms; others = All-tail IsOtherLine m ms others; whole = both.1 }

pub skip_turn : (now old l next : List ℕ) → ((r : List ℕ) → now ≡ codes "drawing\n" ++ r → ⊥) → (Contains l 10 → ⊥)
    → now ≡ line l ++ next → SameFile now old → SameFile next old
skip_turn now old l next more_to_come one e same = record {
  back = λ rest s. same.back rest (line_more now l next rest more_to_come one e s);
  ahead = λ rest s. line_less now l next rest more_to_come one e (same.ahead rest s);
}

pub skip_end : (now old new : List ℕ) → now ≡ codes "drawing\n" ++ new → SameFile now old → Skips old new
skip_end now old new e same = same.back new (record { skipped = []; others = All-nil IsOtherLine; whole = e })

member_right : (xs ys : List ℕ) (x : ℕ) → Contains ys x → Contains (xs ++ ys) x
member_right [] ys x there = there
member_right (y ∷ xs) ys x there = member_later y x (xs ++ ys) (member_right xs ys x there)

has_end : (rest : List ℕ) → Contains (codes "drawing\n" ++ rest) 10
has_end rest = member_right (codes "drawing") (10 ∷ rest) 10 (member_first 10 rest)

from_place : (t : List ℕ) → HasNoEnd t → Contains t 10 → ⊥
from_place t none (k, within, is) = none k within (get_or_default t k 0 10 within ∙ is)

pub skip_none : (now old : List ℕ) → HasNoEnd now → SameFile now old → (rest : List ℕ) → Skips old rest → ⊥
skip_none now old none same rest s =
    let here = same.ahead rest s in
    from_place now none (subst (λ z. Contains z 10) (sym here.whole)
    (member_right (flat_map line here.skipped) (codes "drawing\n" ++ rest) 10 (has_end rest)))
