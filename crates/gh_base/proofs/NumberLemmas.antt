-- Numbers of atoms.
use Rattle.std.proofs.Common.{lit<, ◌≡◌, ℕ, suc, zero, ◌+◌, ◌-◌, ◌*◌, ◌^◌, ◌<◌, ◌≤◌, inl, inr, arith, sym, ap, refl}
use Rattle.std.proofs.Common.{◌∙◌}
use Rattle.std.proofs.lemmas.Bool.{cases_order, cases_lt}
use Rattle.std.proofs.Math.Nat.{mul-le-mul_right}
use Rattle.std.proofs.lemmas.Nat.{mul-add-lt, mul-lt, same_from_place}
use Rattle.gh_base.specs.declared.atom.Term.{Term}
use Rattle.gh_base.specs.declared.atom.Atom.{Atom}
use Rattle.gh_base.specs.declared.atom.Atom.TheVariants.{Eq, Btwn, Hop, Alloc, Def}
use Rattle.gh_base.specs.declared.sizes.Sizes.{Sizes}
use Rattle.gh_base.specs.Atoms.{IsInRange, pairs_below, btwn_start, hop_start, alloc_start, def_start, count_of}
use Rattle.gh_base.specs.Atoms.{number_of, IsRow, AreNumbersApart}

pub pairs_more : (b : ℕ) → pairs_below (b + 1) ≡ pairs_below b + (b + 1)
pairs_more b = omega arith

pub pairs_above : (a d : ℕ) → pairs_below a ≤ pairs_below (a + d)
pairs_above a zero = omega arith
pairs_above a (suc d) = let more : pairs_below (a + suc d) ≡ pairs_below (a + d) + (a + d + 1) = omega arith in
    omega (arith, pairs_above a d)

pub pairs_grow : (a b : ℕ) → a < b → pairs_below a + (a + 1) ≤ pairs_below b
pairs_grow a b h =
    let e : a + 1 + (b - (a + 1)) ≡ b = omega arith in
    omega (arith, pairs_more a, pairs_above (a + 1) (b - (a + 1)), ap pairs_below e)

-- a number of an equality tells its greater term
same_greater : (a b a' b' : ℕ) → a ≤ b → a' ≤ b' → pairs_below b + a ≡ pairs_below b' + a' → b ≡ b'
same_greater a b a' b' h h' e =
    elim (cases_order b b') as (λ _. b ≡ b') [
      | inl same ↦ same
      | inr w ↦ elim w as (λ _. b ≡ b')
          [ inl lt ↦ absurd (omega (arith, pairs_grow b b' lt)) | inr gt ↦ absurd (omega (arith, pairs_grow b' b gt)) ]
    ]

same_term : (a b : Term) → a.0 ≡ b.0 → a ≡ b
same_term a b e = ap (λ (n : ℕ). let t : Term = record { 0 = n } in t) e

-- places in tables of two, three and four columns
pub place_2 : (v n x V : ℕ) → v < V → x < n → v * n + x < V * n
place_2 v n x V h i = omega (arith, mul-add-lt v n x V h i)

pub place_3 : (v n x y V : ℕ) → v < V → x < n → y < n → (v * n + x) * n + y < V * n * n
place_3 v n x y V h i j = omega (arith, place_2 (v * n + x) n y (V * n) (place_2 v n x V h i) j)

pub place_4 : (v n x y z V : ℕ) → v < V → x < n → y < n → z < n → ((v * n + x) * n + y) * n + z < V * n * n * n
place_4 v n x y z V h i j k = omega (arith, place_2 ((v * n + x) * n + y) n z (V * n * n) (place_3 v n x y V h i j) k)

pub eq_below : (s : Sizes) (a b : Term) → IsInRange s (Eq a b) → number_of s (Eq a b) < btwn_start s
eq_below s a b p = omega (arith, pairs_grow b.0 s.terms p.1, p.0)

pub btwn_below : (s : Sizes) (v : ℕ) (x y z : Term) → IsInRange s (Btwn v x y z)
    → number_of s (Btwn v x y z) < hop_start s
btwn_below s v x y z p = omega (arith, place_4 v s.terms x.0 y.0 z.0 s.versions p.0 p.1 p.2 p.3)

pub hop_below : (s : Sizes) (v : ℕ) (x y : Term) → IsInRange s (Hop v x y) → number_of s (Hop v x y) < alloc_start s
hop_below s v x y p = omega (arith, place_3 v s.terms x.0 y.0 s.versions p.0 p.1 p.2)

pub alloc_below : (s : Sizes) (v : ℕ) (x : Term) → IsInRange s (Alloc v x) → number_of s (Alloc v x) < def_start s
alloc_below s v x p = omega (arith, place_2 v s.terms x.0 s.versions p.0 p.1)

-- a row of a place that lies among this many rows is one of them
pub row_below : (place terms row rows : ℕ) (t : Term) → IsRow place terms row t → place < rows * terms → row < rows
row_below place terms row rows t h within =
    elim (cases_lt row rows) as (λ _. row < rows)
    [ inl lt ↦ lt | inr ge ↦ absurd (omega (arith, h.is, mul-le-mul_right terms ge)) ]

pub cube_below : (v n : ℕ) → v < 2 ^ 8 → n < 2 ^ 8 → v * n * n * n < 2 ^ 32
cube_below v n h i =
    omega (
      arith,
      mul-lt v n (2 ^ 8) (2 ^ 8) h i,
      mul-lt (v * n) n (2 ^ 16) (2 ^ 8) (mul-lt v n (2 ^ 8) (2 ^ 8) h i) i,
      mul-lt (v * n * n) n (2 ^ 24) (2 ^ 8) (mul-lt (v * n) n (2 ^ 16) (2 ^ 8) (mul-lt v n (2 ^ 8) (2 ^ 8) h i) i) i,
    )

pub number_below : (s : Sizes) (a : Atom) → IsInRange s a → number_of s a < count_of s
number_below s (Eq a b) p = omega (arith, eq_below s a b p)
number_below s (Btwn v x y z) p = omega (arith, btwn_below s v x y z p)
number_below s (Hop v x y) p = omega (arith, hop_below s v x y p)
number_below s (Alloc v x) p = omega (arith, alloc_below s v x p)
number_below s (Def k) p = omega arith

-- the shapes in the order of their numbers
abbrev shape : Atom → ℕ
shape (Eq a b) = 0
shape (Btwn v x y z) = 1
shape (Hop v x y) = 2
shape (Alloc v x) = 3
shape (Def k) = 4

-- the shape of a number
abbrev IsShape : Sizes → ℕ → ℕ → Type 0
IsShape s n shape =
    (n < btwn_start s → shape ≡ 0) × (btwn_start s ≤ n → n < hop_start s → shape ≡ 1)
    × (hop_start s ≤ n → n < alloc_start s → shape ≡ 2)
    × (alloc_start s ≤ n → n < def_start s → shape ≡ 3) × (def_start s ≤ n → shape ≡ 4)

shape_is : (s : Sizes) (a : Atom) → IsInRange s a → IsShape s (number_of s a) (shape a)
shape_is s (Eq a b) p =
    let h = eq_below s a b p in
    let n = number_of s (Eq a b) in (
      λ _. refl,
      λ g _. absurd (omega arith),
      λ g _. absurd (omega arith),
      λ g _. absurd (omega arith),
      λ g. absurd (omega arith),
    )
shape_is s (Btwn v x y z) p =
    let h = btwn_below s v x y z p in (
      λ g. absurd (omega arith),
      λ _ _. refl,
      λ g _. absurd (omega arith),
      λ g _. absurd (omega arith),
      λ g. absurd (omega arith),
    )
shape_is s (Hop v x y) p =
    let h = hop_below s v x y p in (
      λ g. absurd (omega arith),
      λ _ g. absurd (omega arith),
      λ _ _. refl,
      λ g _. absurd (omega arith),
      λ g. absurd (omega arith),
    )
shape_is s (Alloc v x) p =
    let h = alloc_below s v x p in (
      λ g. absurd (omega arith),
      λ _ g. absurd (omega arith),
      λ _ g. absurd (omega arith),
      λ _ _. refl,
      λ g. absurd (omega arith),
    )
shape_is s (Def k) p = (
  λ g. absurd (omega arith),
  λ _ g. absurd (omega arith),
  λ _ g. absurd (omega arith),
  λ _ g. absurd (omega arith),
  λ _. refl,
)

one_shape : (s : Sizes) (n i j : ℕ) → IsShape s n i → IsShape s n j → i ≡ j
one_shape s n i j p q =
    elim (cases_lt n (btwn_start s)) as (λ _. i ≡ j) [
      | inl a ↦ p.0 a ∙ sym (q.0 a)
      | inr a ↦ elim (cases_lt n (hop_start s)) as (λ _. i ≡ j) [
        | inl b ↦ p.1 a b ∙ sym (q.1 a b)
        | inr b ↦ elim (cases_lt n (alloc_start s)) as (λ _. i ≡ j) [
          | inl c ↦ p.2 b c ∙ sym (q.2 b c)
          | inr c ↦ elim (cases_lt n (def_start s)) as (λ _. i ≡ j)
              [ inl d ↦ p.3 c d ∙ sym (q.3 c d) | inr d ↦ p.4 d ∙ sym (q.4 d) ]
        ]
      ]
    ]

same_shape : (s : Sizes) (a b : Atom) → IsInRange s a → IsInRange s b → number_of s a ≡ number_of s b
    → shape a ≡ shape b
same_shape s a b p q e = one_shape s (number_of s a) (shape a) (shape b) (shape_is s a p) (rw e (shape_is s b q))

lower : {X : Type 0} (i j : ℕ) → i ≡ j → i < j → X
lower i j e h = absurd (omega arith)

higher : {X : Type 0} (i j : ℕ) → i ≡ j → j < i → X
higher i j e h = absurd (omega arith)

pub apart : AreNumbersApart
apart s (Eq a b) (Eq a' b') p q e =
    let e : pairs_below b.0 + a.0 ≡ pairs_below b'.0 + a'.0 = e in
    let same : b.0 ≡ b'.0 = same_greater _ _ _ _ p.0 q.0 e in
    let other : a.0 ≡ a'.0 = omega (arith, ap pairs_below same) in
    cc (same_term a a' other, same_term b b' same)
apart s (Eq a b) (Btwn v' x' y' z') p q e =
    lower 0 1 (same_shape s (Eq a b) (Btwn v' x' y' z') p q e) (lit< tt)
apart s (Eq a b) (Hop v' x' y') p q e =
    lower 0 2 (same_shape s (Eq a b) (Hop v' x' y') p q e) (lit< tt)
apart s (Eq a b) (Alloc v' x') p q e =
    lower 0 3 (same_shape s (Eq a b) (Alloc v' x') p q e) (lit< tt)
apart s (Eq a b) (Def k') p q e =
    lower 0 4 (same_shape s (Eq a b) (Def k') p q e) (lit< tt)
apart s (Btwn v x y z) (Eq a' b') p q e =
    higher 1 0 (same_shape s (Btwn v x y z) (Eq a' b') p q e) (lit< tt)
apart s (Btwn v x y z) (Btwn v' x' y' z') p q e =
    let e : btwn_start s + (((v * s.terms + x.0) * s.terms + y.0) * s.terms + z.0)
    ≡ btwn_start s + (((v' * s.terms + x'.0) * s.terms + y'.0) * s.terms + z'.0) = e in
    let places : ((v * s.terms + x.0) * s.terms + y.0) * s.terms + z.0
    ≡ ((v' * s.terms + x'.0) * s.terms + y'.0) * s.terms + z'.0 = omega arith in
    let h =
    same_from_place ((v * s.terms + x.0) * s.terms + y.0) z.0 ((v' * s.terms + x'.0) * s.terms + y'.0) z'.0 s.terms
    p.3 q.3 places in
    let i = same_from_place (v * s.terms + x.0) y.0 (v' * s.terms + x'.0) y'.0 s.terms p.2 q.2 h.0 in
    let j = same_from_place v x.0 v' x'.0 s.terms p.1 q.1 i.0 in
    cc (j.0, same_term x x' j.1, same_term y y' i.1, same_term z z' h.1)
apart s (Btwn v x y z) (Hop v' x' y') p q e =
    lower 1 2 (same_shape s (Btwn v x y z) (Hop v' x' y') p q e) (lit< tt)
apart s (Btwn v x y z) (Alloc v' x') p q e =
    lower 1 3 (same_shape s (Btwn v x y z) (Alloc v' x') p q e) (lit< tt)
apart s (Btwn v x y z) (Def k') p q e =
    lower 1 4 (same_shape s (Btwn v x y z) (Def k') p q e) (lit< tt)
apart s (Hop v x y) (Eq a' b') p q e =
    higher 2 0 (same_shape s (Hop v x y) (Eq a' b') p q e) (lit< tt)
apart s (Hop v x y) (Btwn v' x' y' z') p q e =
    higher 2 1 (same_shape s (Hop v x y) (Btwn v' x' y' z') p q e) (lit< tt)
apart s (Hop v x y) (Hop v' x' y') p q e =
    let e : hop_start s + ((v * s.terms + x.0) * s.terms + y.0)
    ≡ hop_start s + ((v' * s.terms + x'.0) * s.terms + y'.0) = e in
    let places : (v * s.terms + x.0) * s.terms + y.0 ≡ (v' * s.terms + x'.0) * s.terms + y'.0 = omega arith in
    let i = same_from_place (v * s.terms + x.0) y.0 (v' * s.terms + x'.0) y'.0 s.terms p.2 q.2 places in
    let j = same_from_place v x.0 v' x'.0 s.terms p.1 q.1 i.0 in
    cc (j.0, same_term x x' j.1, same_term y y' i.1)
apart s (Hop v x y) (Alloc v' x') p q e =
    lower 2 3 (same_shape s (Hop v x y) (Alloc v' x') p q e) (lit< tt)
apart s (Hop v x y) (Def k') p q e =
    lower 2 4 (same_shape s (Hop v x y) (Def k') p q e) (lit< tt)
apart s (Alloc v x) (Eq a' b') p q e =
    higher 3 0 (same_shape s (Alloc v x) (Eq a' b') p q e) (lit< tt)
apart s (Alloc v x) (Btwn v' x' y' z') p q e =
    higher 3 1 (same_shape s (Alloc v x) (Btwn v' x' y' z') p q e) (lit< tt)
apart s (Alloc v x) (Hop v' x' y') p q e =
    higher 3 2 (same_shape s (Alloc v x) (Hop v' x' y') p q e) (lit< tt)
apart s (Alloc v x) (Alloc v' x') p q e =
    let e : alloc_start s + (v * s.terms + x.0) ≡ alloc_start s + (v' * s.terms + x'.0) = e in
    let places : v * s.terms + x.0 ≡ v' * s.terms + x'.0 = omega arith in
    let j = same_from_place v x.0 v' x'.0 s.terms p.1 q.1 places in
    cc (j.0, same_term x x' j.1)
apart s (Alloc v x) (Def k') p q e =
    lower 3 4 (same_shape s (Alloc v x) (Def k') p q e) (lit< tt)
apart s (Def k) (Eq a' b') p q e =
    higher 4 0 (same_shape s (Def k) (Eq a' b') p q e) (lit< tt)
apart s (Def k) (Btwn v' x' y' z') p q e =
    higher 4 1 (same_shape s (Def k) (Btwn v' x' y' z') p q e) (lit< tt)
apart s (Def k) (Hop v' x' y') p q e =
    higher 4 2 (same_shape s (Def k) (Hop v' x' y') p q e) (lit< tt)
apart s (Def k) (Alloc v' x') p q e =
    higher 4 3 (same_shape s (Def k) (Alloc v' x') p q e) (lit< tt)
apart s (Def k) (Def k') p q e =
    let e : def_start s + k ≡ def_start s + k' = e in
    let j : k ≡ k' = omega arith in
    ap Def j
