-- What is shown at the front of a text is one: numbers, words, entries, cells, states, and lines.
use Rattle.std.specs.Prelude.{◌≡◌, ◌≢◌, ℕ, suc, ◌<◌, ◌^◌, List, [], ◌∷◌, ◌++◌, codes, true, All, Contains}
use Rattle.std.specs.Int.{IsInRange}
use Rattle.std.specs.List.{flat_map}
use Rattle.std.specs.Fmt.{decimal}
use Rattle.std.specs.Str.{all_ascii_digits}
use Rattle.std.specs.Str.Parse.{digits_value}
use Rattle.std.specs.FinMap.{entries, same_entries_map}
use Rattle.std.proofs.Common.{refl, sym, ◌∙◌, ap, subst, inl, inr, arith}
use Rattle.std.proofs.lemmas.List.{append_assoc, append_cancel_left}
use Rattle.std.proofs.lemmas.List.Elements.{All-head, All-tail}
use Rattle.std.proofs.lemmas.Fmt.{digits_decimal, decimal_injective}
use Rattle.std.proofs.lemmas.Str.Parse.{IsNumeralModel, numerals_by_value, tells_all_ascii_digits}
use Rattle.gh_ast.specs.Programs.{Name}
use Rattle.gh_ast.proofs.Lists.{member_first, member_later, member_cases, no_member}
use Rattle.gh_assert.specs.declared.store.Entry.{Entry}
use Rattle.gh_trace.specs.declared.state.State.{State}
use Rattle.gh_draw.specs.Drawings.{line}
use Rattle.gh_draw.specs.Drawn.{IsOtherLine}
use Rattle.gh_draw.specs.Reading.{After, NoDigitFirst, ShowsNumber, ShowsValue, ShowsEntries, ShowsCell, ShowsCellAbove}
use Rattle.gh_draw.specs.Reading.{ShowsCells, ShowsHeap, ShowsState, ShowsStates, ShowsCondition, Skips, heading}

abbrev pub IsOne : {X : Type 0} → (List ℕ → X → List ℕ → Type 0) → Type 0
IsOne {X} S = (t : List ℕ) (x y : X) (a b : List ℕ) → S t x a → S t y b → (x ≡ y) × (a ≡ b)

-- each byte has a property
abbrev pub Each : (ℕ → Type 0) → List ℕ → Type 0
Each P [] = Unit {0}
Each P (c ∷ cs) = P c × Each P cs

-- the longest front of bytes with a property is one
pub span_one : (P : ℕ → Type 0) (Stops : List ℕ → Type 0) → ((c : ℕ) (cs : List ℕ) → Stops (c ∷ cs) → P c → ⊥)
    → (l m a b : List ℕ) → Each P l → Each P m → Stops a → Stops b → l ++ a ≡ m ++ b → (l ≡ m) × (a ≡ b)
span_one P Stops stop [] [] a b one other s t e = (refl, e)
span_one P Stops stop [] (y ∷ ys) a b one other s t e = absurd (stop y (ys ++ b) (subst Stops e s) other.0)
span_one P Stops stop (x ∷ xs) [] a b one other s t e = absurd (stop x (xs ++ a) (subst Stops (sym e) t) one.0)
span_one P Stops stop (x ∷ xs) (y ∷ ys) a b one other s t e =
    let first : x ≡ y = cc in
    let others : xs ++ a ≡ ys ++ b = cc in
    let rest = span_one P Stops stop xs ys a b one.1 other.1 s t others in
    (rw (first, rest.0) refl, rest.1)

pub own_digits : IsNumeralModel (λ ds. all_ascii_digits ds ≡ true) (digits_value 10)
own_digits = numerals_by_value (λ ds. all_ascii_digits ds ≡ true) tells_all_ascii_digits

pub each_digit : (ds : List ℕ) → all_ascii_digits ds ≡ true → Each (IsInRange 48 57) ds
each_digit [] h = tt
each_digit (c ∷ cs) h = let parts = tells_all_ascii_digits.parts c cs h in (parts.0, each_digit cs parts.1)

pub wide : (n : ℕ) → n < 2 ^ 32 → n < 2 ^ 64
wide n h = omega arith

pub decimal_digits : (n : ℕ) → n < 2 ^ 32 → Each (IsInRange 48 57) (decimal n)
decimal_digits n h = each_digit (decimal n) (digits_decimal own_digits n (wide n h))

pub number_one : IsOne ShowsNumber
number_one t n m a b s u =
    let both =
    span_one (IsInRange 48 57) NoDigitFirst (λ c cs h. h) (decimal n) (decimal m) a b (decimal_digits n s.fits)
    (decimal_digits m u.fits) s.ends u.ends (sym s.shown ∙ u.shown) in
    (decimal_injective n m (wide n s.fits) (wide m u.fits) both.0, both.1)

pub after_one : {X : Type 0} (w : List ℕ) (S : List ℕ → X → List ℕ → Type 0) → IsOne S → IsOne (After w S)
after_one {X} w S one t x y a b (m, e, s) (n, f, u) =
    let same : m ≡ n = append_cancel_left w m n (sym e ∙ f) in
    one n x y a b (subst (λ z. S z x a) same s) u

pub value_one : (name : Name) → IsOne (ShowsValue name)
value_one name = after_one (codes " ") _ (after_one name _ (after_one (codes "=") ShowsNumber number_one))

abbrev pub entry : Name → ℕ → Entry
entry n v = record { name = n; value = v }

pub entries_one : (ns : List Name) → IsOne (ShowsEntries ns)
entries_one [] t es fs a b (p, q) (r, s) = (p ∙ sym r, sym q ∙ s)
entries_one (n ∷ ns) t es fs a b (v, m, gs, is, sv, se) (w, k, hs, js, sw, sf) =
    let one = value_one n t v w m k sv sw in
    let rest = entries_one ns k gs hs a b (subst (λ z. ShowsEntries ns z gs a) one.1 se) sf in
    (is ∙ ap (λ z. entry n z ∷ gs) one.0 ∙ ap (λ z. entry n w ∷ z) rest.0 ∙ sym js, rest.1)

pub cell_one : IsOne ShowsCell
cell_one t c d a b (m, s, u) (k, p, q) =
    let at = number_one t c.0 d.0 m k s p in
    let to =
    after_one (codes "->") ShowsNumber number_one k c.1 d.1 a b
    (subst (λ z. After (codes "->") ShowsNumber z c.1 a) at.1 u) q in
    (λ i. (at.0 i, to.0 i), to.1)

pub above_one : (low : ℕ) → IsOne (ShowsCellAbove low)
above_one low t c d a b s u = after_one (codes " ") ShowsCell cell_one t c d a b s.cell u.cell

apart : (x y : ℕ) (a b : List ℕ) → x ∷ a ≡ y ∷ b → x ≡ y
apart x y a b e = cc

pub no_cell : (low : ℕ) (t : List ℕ) (c : ℕ × ℕ) (a b : List ℕ) → t ≡ codes "\n" ++ a → ShowsCellAbove low t c b → ⊥
no_cell low t c a b e s = let bad : 10 ≡ 32 = apart 10 32 a s.cell.0 (sym e ∙ s.cell.1) in absurd (omega (arith, bad))

pub cells_one : (low : ℕ) (t : List ℕ) (cs ds : List (ℕ × ℕ)) (a b : List ℕ) → ShowsCells low t cs a
    → ShowsCells low t ds b → (cs ≡ ds) × (a ≡ b)
cells_one low t [] [] a b s u = (refl, append_cancel_left (codes "\n") a b (sym s ∙ u))
cells_one low t [] (d ∷ ds) a b s u = absurd (no_cell low t d a u.0 s u.1)
cells_one low t (c ∷ cs) [] a b s u = absurd (no_cell low t c b s.0 u s.1)
cells_one low t (c ∷ cs) (d ∷ ds) a b (m, s, ss) (k, u, us) =
    let one = above_one low t c d m k s u in
    let moved : ShowsCells d.0 k cs a =
    subst (λ z. ShowsCells d.0 z cs a) one.1 (subst (λ (z : ℕ × ℕ). ShowsCells z.0 m cs a) one.0 ss) in
    let rest = cells_one d.0 k cs ds a b moved us in
    (λ i. one.0 i ∷ rest.0 i, rest.1)

pub heap_one : IsOne ShowsHeap
heap_one t g h a b s u = let both = cells_one 0 t (entries g) (entries h) a b s u in
    (same_entries_map g h both.0, both.1)

pub state_one : (ns : List Name) (k : ℕ) → IsOne (ShowsState ns k)
state_one ns k t x y a b s u =
    let values : s.values ≡ u.values = append_cancel_left (heading k) s.values u.values (sym s.begins ∙ u.begins) in
    let stores =
    entries_one ns u.values x.store y.store (codes "\nheap" ++ s.cells) (codes "\nheap" ++ u.cells)
    (subst (λ z. ShowsEntries ns z x.store (codes "\nheap" ++ s.cells)) values s.store) u.store in
    let cells : s.cells ≡ u.cells = append_cancel_left (codes "\nheap") s.cells u.cells stores.1 in
    let heaps = heap_one u.cells x.heap y.heap a b (subst (λ z. ShowsHeap z x.heap a) cells s.heap) u.heap in
    (λ i. record { store = stores.0 i; heap = heaps.0 i }, heaps.1)

pub no_state : (ns : List Name) (k : ℕ) (t : List ℕ) (x : State) (a b : List ℕ) → t ≡ codes "end\n" ++ a
    → ShowsState ns k t x b → ⊥
no_state ns k t x a b e s = let bad : 101 ≡ 115 = apart 101 115 _ _ (sym e ∙ s.begins) in absurd (omega (arith, bad))

pub states_one : (ns : List Name) (k : ℕ) (t : List ℕ) (xs ys : List State) (a b : List ℕ) → ShowsStates ns k t xs a
    → ShowsStates ns k t ys b → (xs ≡ ys) × (a ≡ b)
states_one ns k t [] [] a b s u = (refl, append_cancel_left (codes "end\n") a b (sym s ∙ u))
states_one ns k t [] (y ∷ ys) a b s u = absurd (no_state ns k t y a u.0 s u.1)
states_one ns k t (x ∷ xs) [] a b s u = absurd (no_state ns k t x b s.0 u s.1)
states_one ns k t (x ∷ xs) (y ∷ ys) a b (m, s, ss) (n, u, us) =
    let one = state_one ns k t x y m n s u in
    let rest = states_one ns (suc k) n xs ys a b (subst (λ z. ShowsStates ns (suc k) z xs a) one.1 ss) us in
    (λ i. one.0 i ∷ rest.0 i, rest.1)

pub condition_one : IsOne ShowsCondition
condition_one t n m a b (c, e, s) (d, f, u) =
    let same : c ≡ d = append_cancel_left (codes "condition ") c d (sym e ∙ f) in
    let both =
    number_one d n m (codes "\n" ++ a) (codes "\n" ++ b) (subst (λ z. ShowsNumber z n (codes "\n" ++ a)) same s)
    u in
    (both.0, append_cancel_left (codes "\n") a b both.1)

-- lines

abbrev pub IsNotEnd : ℕ → Type 0
IsNotEnd c = c ≢ 10

abbrev pub StartsEnd : List ℕ → Type 0
StartsEnd a = (b : List ℕ) × (a ≡ 10 ∷ b)

pub within_line : (l : List ℕ) → (Contains l 10 → ⊥) → Each IsNotEnd l
within_line [] h = tt
within_line (c ∷ cs) h = (
  λ e. h (subst (λ z. Contains (c ∷ cs) z) e (member_first c cs)),
  within_line cs (λ there. h (member_later c 10 cs there)),
)

pub line_one : (l m a b : List ℕ) → (Contains l 10 → ⊥) → (Contains m 10 → ⊥) → l ++ 10 ∷ a ≡ m ++ 10 ∷ b
    → (l ≡ m) × (a ≡ b)
line_one l m a b p q e =
    let both =
    span_one IsNotEnd StartsEnd (λ c cs s h. h (apart c 10 cs s.0 s.1)) l m (10 ∷ a) (10 ∷ b) (within_line l p)
    (within_line m q) (a, refl) (b, refl) e in
    (both.0, append_cancel_left (10 ∷ []) a b both.1)

-- a line, the others and what follows
pub line_first : (l x y : List ℕ) → (line l ++ x) ++ y ≡ l ++ 10 ∷ (x ++ y)
line_first l x y = append_assoc (line l) x y ∙ append_assoc l (10 ∷ []) (x ++ y)

pub no_member_of : (l : List ℕ) → Each IsNotEnd l → Contains l 10 → ⊥
no_member_of [] h there = no_member 10 there
no_member_of (c ∷ cs) h there =
    elim (member_cases c cs 10 there) [ inl same ↦ h.0 same | inr later ↦ no_member_of cs h.1 later ]

pub no_ends : Contains (codes "drawing") 10 → ⊥
no_ends =
    no_member_of (codes "drawing") (
      λ e. absurd (omega arith),
      (
        λ e. absurd (omega arith),
        (
          λ e. absurd (omega arith),
          (
            λ e. absurd (omega arith),
            (λ e. absurd (omega arith), (λ e. absurd (omega arith), (λ e. absurd (omega arith), tt))),
          ),
        ),
      ),
    )

skipped_one : (ls ms : List (List ℕ)) (a b : List ℕ) → All IsOtherLine ls → All IsOtherLine ms
    → flat_map line ls ++ (codes "drawing\n" ++ a) ≡ flat_map line ms ++ (codes "drawing\n" ++ b) → a ≡ b
skipped_one [] [] a b p q e = append_cancel_left (codes "drawing\n") a b e
skipped_one [] (m ∷ ms) a b p q e =
    let other = All-head IsOtherLine m ms q in
    let both =
    line_one (codes "drawing") m a (flat_map line ms ++ (codes "drawing\n" ++ b)) no_ends other.one
    (e ∙ line_first m (flat_map line ms) (codes "drawing\n" ++ b)) in
    absurd (other.other (sym both.0))
skipped_one (l ∷ ls) [] a b p q e =
    let other = All-head IsOtherLine l ls p in
    let both =
    line_one l (codes "drawing") (flat_map line ls ++ (codes "drawing\n" ++ a)) b other.one no_ends
    (sym (line_first l (flat_map line ls) (codes "drawing\n" ++ a)) ∙ e) in
    absurd (other.other both.0)
skipped_one (l ∷ ls) (m ∷ ms) a b p q e =
    let first = All-head IsOtherLine l ls p in
    let second = All-head IsOtherLine m ms q in
    let both =
    line_one l m (flat_map line ls ++ (codes "drawing\n" ++ a)) (flat_map line ms ++ (codes "drawing\n" ++ b))
    first.one second.one (sym (line_first l (flat_map line ls) (codes "drawing\n" ++ a)) ∙ e
    ∙ line_first m (flat_map line ms) (codes "drawing\n" ++ b)) in
    skipped_one ls ms a b (All-tail IsOtherLine l ls p) (All-tail IsOtherLine m ms q) both.1

pub skips_one : (t a b : List ℕ) → Skips t a → Skips t b → a ≡ b
skips_one t a b s u = skipped_one s.skipped u.skipped a b s.others u.others (sym s.whole ∙ u.whole)
