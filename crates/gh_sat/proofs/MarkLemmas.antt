-- Marks on the trail.
use Rattle.std.proofs.Common.{◌≡◌, ◌≢◌, ◌⊎◌, ℕ, zero, suc, ◌+◌, ◌-◌, ◌<◌, ◌≤◌, List, [], ◌∷◌, ◌++◌, length, get_or}
use Rattle.std.proofs.Common.{take, drop, Some, Bool, true, false, inl, inr, refl, sym, ap, ◌∙◌, subst, arith, All}
use Rattle.std.proofs.Common.{Contains, cond, eq-eqb, length-set, length-take-le}
use Rattle.std.specs.Prelude.{slice_get, slice_set, nat_eq}
use Rattle.std.proofs.lemmas.Bool.{cases_eq}
use Rattle.std.proofs.lemmas.Bool.Decides.{nat_tests}
use Rattle.std.proofs.lemmas.List.{take_more, drop-append-le}
use Rattle.std.proofs.lemmas.Option.{get_or_from_slice_get}
use Rattle.std.proofs.lemmas.List.Elements.{All-push, Contains-push, Contains-append_left, All-set}
use Rattle.gh_base.specs.declared.atom.Lit.{Lit}
use Rattle.gh_base.specs.Atoms.{opposite}
use Rattle.gh_sat.specs.declared.trail.Step.{Step}
use Rattle.gh_sat.specs.Learn.{Marking, HasRound, HasMark, AllMarked, one_if, marked, IsBounded, AreMarks, MarksMore}
use Rattle.gh_base.proofs.ListLemmas.{get_within, get_take, take_get, get_set_same, get_set_other}
use Rattle.gh_sat.proofs.TrailLemmas.{opposite_twice}

pub get_drop : {X : Type 0} (n : ℕ) (xs : List X) (i : ℕ) → slice_get (drop n xs) i ≡ slice_get xs (n + i)
get_drop zero xs i = let e : i ≡ 0 + i = omega arith in ap (slice_get xs) e
get_drop (suc n) [] i = refl
get_drop (suc n) (x ∷ xs) i =
    let e : suc (n + i) ≡ suc n + i = omega arith in get_drop n xs i ∙ ap (slice_get (x ∷ xs)) e

pub one_if_is : (round : ℕ) → one_if round round ≡ 1
one_if_is round = ap (λ b. cond b 1 0) (eq-eqb round round refl)

pub one_if_not : (s round : ℕ) → s ≢ round → one_if s round ≡ 0
one_if_not s round h = grind (arith, nat_tests)

cond_few : (b : Bool) → cond b 1 0 ≤ 1
cond_few true = omega arith
cond_few false = omega arith

one_if_few : (s round : ℕ) → one_if s round ≤ 1
one_if_few s round = cond_few (nat_eq s round)

pub opposite_from : (l m : Lit) → l ≡ opposite m → m ≡ opposite l
opposite_from l m e = sym (opposite_twice m) ∙ ap opposite (sym e)

pub marked_few : (round : ℕ) (xs : List ℕ) → marked round xs ≤ length xs
marked_few round [] = omega arith
marked_few round (x ∷ xs) = omega (arith, marked_few round xs, one_if_few x round)

-- a place is marked that wasn't
marked_set : (round : ℕ) (xs : List ℕ) (q x : ℕ) → slice_get xs q ≡ Some x → x ≢ round
    → marked round (slice_set xs q round) ≡ marked round xs + 1
marked_set round [] q x at n = cc
marked_set round (y ∷ xs) zero x at n =
    let ne : y ≢ round = λ e. n (let same : y ≡ x = cc in sym same ∙ e) in
    omega (arith, one_if_is round, one_if_not y round ne)
marked_set round (y ∷ xs) (suc q) x at n = omega (arith, marked_set round xs q x at n)

-- a mark counts
pub marked_some : (round : ℕ) (xs : List ℕ) (q : ℕ) → slice_get xs q ≡ Some round → 0 < marked round xs
marked_some round [] q at = cc
marked_some round (x ∷ xs) zero at =
    let same : x ≡ round = cc in let one : one_if x round ≡ 1 = ap (λ s. one_if s round) same ∙ one_if_is round in
    omega arith
marked_some round (x ∷ xs) (suc q) at = omega (arith, marked_some round xs q at)

-- where some count, one is marked
pub marked_has : (round : ℕ) (xs : List ℕ) → 0 < marked round xs → (q : ℕ) × (slice_get xs q ≡ Some round)
marked_has round [] h = absurd (omega arith)
marked_has round (x ∷ xs) h = elim (cases_eq x round) [
  | inl e ↦ (0, ap Some e)
  | inr n ↦ let r = marked_has round xs (omega (arith, one_if_not x round n)) in (suc r.0, r.1)
]

drop_set : (n q x : ℕ) (xs : List ℕ) → drop n (slice_set xs (n + q) x) ≡ slice_set (drop n xs) q x
drop_set zero q x xs = let e : 0 + q ≡ q = omega arith in ap (λ i. slice_set xs i x) e
drop_set (suc n) q x [] = refl
drop_set (suc n) q x (y ∷ xs) =
    let e : suc n + q ≡ suc (n + q) = omega arith in
    ap (λ i. drop (suc n) (slice_set (y ∷ xs) i x)) e ∙ drop_set n q x xs

drop_set_low : (n q x : ℕ) (xs : List ℕ) → q < n → drop n (slice_set xs q x) ≡ drop n xs
drop_set_low zero q x xs h = absurd (omega arith)
drop_set_low (suc n) q x [] h = refl
drop_set_low (suc n) zero x (y ∷ xs) h = refl
drop_set_low (suc n) (suc q) x (y ∷ xs) h = drop_set_low n q x xs (omega arith)

take_set : (n q x : ℕ) (xs : List ℕ) → q < n → take n (slice_set xs q x) ≡ slice_set (take n xs) q x
take_set zero q x xs h = absurd (omega arith)
take_set (suc n) q x [] h = refl
take_set (suc n) zero x (y ∷ xs) h = refl
take_set (suc n) (suc q) x (y ∷ xs) h = ap (λ ys. y ∷ ys) (take_set n q x xs (omega arith))

pub keeps_mark : (stamps : List ℕ) (round a b : ℕ) → slice_get stamps b ≡ Some round
    → slice_get (slice_set stamps a round) b ≡ Some round
keeps_mark stamps round a b e = elim (cases_eq b a) [
  | inl same ↦
      let w = get_within stamps b round e in
      subst (λ c. slice_get (slice_set stamps a round) c ≡ Some round) (sym same)
      (get_set_same stamps a round (omega arith))
  | inr n ↦ get_set_other stamps a b round n ∙ e
]

was_marked : (stamps : List ℕ) (round a b : ℕ) → b ≢ a → slice_get (slice_set stamps a round) b ≡ Some round
    → slice_get stamps b ≡ Some round
was_marked stamps round a b n e = sym (get_set_other stamps a b round n) ∙ e

-- a literal is marked that wasn't: `place` is that of its opposite
module _ (trail : List Step) (m : Marking) (lit : Lit) (place x : ℕ) (y : Step) (h : AreMarks trail m)
    (here : slice_get m.stamps place ≡ Some x) (free : x ≢ m.round)
    (before : place < m.end) (at : slice_get trail place ≡ Some y) (is : y.lit ≡ opposite lit) where
  inside : place < length m.stamps
  inside = get_within m.stamps place x here

  pub mark_high : m.start ≤ place
      → AreMarks trail (record m { stamps = slice_set m.stamps place m.round; waiting = m.waiting + 1 })
  mark_high high = record {
    start = h.start;
    end = h.end;
    long = let l = length-set m.stamps place m.round in let o = h.long in omega arith;
    lower = λ k d lt. let r = h.lower k d lt in
        (r.0, r.1, r.2, r.3, r.4, r.5, keeps_mark m.stamps m.round place r.0 r.6);
    lower_all = λ j z lt at' mark. h.lower_all j z lt at'
        (was_marked m.stamps m.round place j (λ e. absurd (omega arith)) mark);
    greatest = h.greatest;
    waiting =
        let q : ℕ = place - m.start in
        let e : m.start + q ≡ place = omega arith in
        let list : drop m.start (take m.end (slice_set m.stamps place m.round))
        ≡ slice_set (drop m.start (take m.end m.stamps)) q m.round =
        ap (drop m.start) (take_set m.end place m.round m.stamps before)
        ∙ ap (λ i. drop m.start (slice_set (take m.end m.stamps) i m.round)) (sym e)
        ∙ drop_set m.start q m.round (take m.end m.stamps) in
        let there : slice_get (drop m.start (take m.end m.stamps)) q ≡ Some x =
        get_drop m.start (take m.end m.stamps) q ∙ ap (slice_get (take m.end m.stamps)) e
        ∙ take_get m.end m.stamps place x before here in
        let one = marked_set m.round (drop m.start (take m.end m.stamps)) q x there free in
        ap (λ n. n + 1) h.waiting ∙ sym one ∙ ap (marked m.round) (sym list);
  }

  pub mark_low : (level : ℕ) → place < m.start → m.level ≤ level → y.level ≤ level
      → (level ≡ m.level) ⊎ (level ≡ y.level)
      → AreMarks trail (record m {
        stamps = slice_set m.stamps place m.round;
        lower = m.lower ++ lit ∷ [];
        level = level;
      })
  mark_low level low up up' which = record {
    start = h.start;
    end = h.end;
    long = let l = length-set m.stamps place m.round in let o = h.long in omega arith;
    lower =
        All-push (λ l. (j : ℕ) × (z : Step) × (j < m.start) × (slice_get trail j ≡ Some z) × (z.lit ≡ opposite l)
        × (z.level ≤ level) × (slice_get (slice_set m.stamps place m.round) j ≡ Some m.round)) m.lower lit
        (λ k d lt. let r = h.lower k d lt in
        (r.0, r.1, r.2, r.3, r.4, omega (arith, r.5), keeps_mark m.stamps m.round place r.0 r.6))
        (place, y, low, at, is, up', get_set_same m.stamps place m.round inside);
    lower_all = λ j z lt at' mark. elim (cases_eq j place) [
      | inl e ↦
          let one : z ≡ y = let t : slice_get trail place ≡ Some z = subst (λ i. slice_get trail i ≡ Some z) e at' in
          cc in
          subst (Contains (m.lower ++ lit ∷ [])) (opposite_from z.lit lit (ap (λ (t : Step). t.lit) one ∙ is))
          (Contains-push m.lower lit)
      | inr n ↦
          Contains-append_left m.lower (lit ∷ []) (opposite z.lit)
          (h.lower_all j z lt at' (was_marked m.stamps m.round place j n mark))
    ];
    greatest = elim which [
      | inl e ↦ elim h.greatest [
        | inl zero_is ↦ inl (e ∙ zero_is)
        | inr g ↦ inr (g.0, g.1, g.2, g.3, Contains-append_left m.lower (lit ∷ []) (opposite g.1.lit) g.4, g.5 ∙ sym e)
      ]
      | inr e ↦
          inr (
            place,
            y,
            low,
            at,
            subst (Contains (m.lower ++ lit ∷ [])) (opposite_from y.lit lit is)
                (Contains-push m.lower lit),
            sym e,
          )
    ];
    waiting =
        let list : drop m.start (take m.end (slice_set m.stamps place m.round)) ≡ drop m.start (take m.end m.stamps) =
        ap (drop m.start) (take_set m.end place m.round m.stamps before)
        ∙ drop_set_low m.start place m.round (take m.end m.stamps) low in
        h.waiting ∙ ap (marked m.round) (sym list);
  }

  pub more_mark : (lower : List Lit) (level waiting : ℕ) → IsBounded m → m.waiting ≤ waiting
      → MarksMore trail (lit ∷ []) m
      (record m { stamps = slice_set m.stamps place m.round; lower = lower; level = level; waiting = waiting })
  more_mark lower level waiting b w = record {
    round = refl;
    start = refl;
    end = refl;
    long = length-set m.stamps place m.round;
    bounded = All-set (λ s. s ≤ m.round) m.stamps place m.round (omega arith) b;
    keeps = λ j e. keeps_mark m.stamps m.round place j e;
    only = λ j e. elim (cases_eq j place) [
      | inl s ↦
          inr (
            y,
            omega arith,
            subst (λ i. slice_get trail i ≡ Some y) (sym s) at,
            (0, omega arith, opposite_from y.lit lit is),
          )
      | inr n ↦ inl (was_marked m.stamps m.round place j n e)
    ];
    waiting = w;
  }

  pub has_mark : (lower : List Lit) (level waiting : ℕ)
      → HasMark trail (record m {
        stamps = slice_set m.stamps place m.round;
        lower = lower;
        level = level;
        waiting = waiting;
      }) lit
  has_mark lower level waiting = (place, y, at, ap (λ (l : Lit). l.atom) is, get_set_same m.stamps place m.round inside)

marked_push : (round : ℕ) (xs : List ℕ) (x : ℕ) → marked round (xs ++ x ∷ []) ≡ marked round xs + one_if x round
marked_push round [] x = omega arith
marked_push round (y ∷ xs) x = omega (arith, marked_push round xs x)

-- one place less is looked at
pub step_down : (round : ℕ) (stamps : List ℕ) (start i d : ℕ) → start < i → i ≤ length stamps
    → marked round (drop start (take i stamps))
    ≡ marked round (drop start (take (i - 1) stamps)) + one_if (get_or stamps (i - 1) d) round
step_down round stamps start i d h k =
    let e : i ≡ (i - 1) + 1 = omega arith in
    let long : length (take (i - 1) stamps) ≡ i - 1 = length-take-le (i - 1) stamps (omega arith) in
    let x = get_or stamps (i - 1) d in
    let one : take i stamps ≡ take (i - 1) stamps ++ x ∷ [] =
    ap (λ n. take n stamps) e ∙ take_more stamps (i - 1) d (omega arith) in
    let two : drop start (take i stamps) ≡ drop start (take (i - 1) stamps) ++ x ∷ [] =
    ap (drop start) one ∙ drop-append-le start (take (i - 1) stamps) (x ∷ []) (omega arith) in
    ap (marked round) two ∙ marked_push round (drop start (take (i - 1) stamps)) x

pub step_down_is : (round : ℕ) (stamps : List ℕ) (start i d : ℕ) → start < i → i ≤ length stamps
    → get_or stamps (i - 1) d ≡ round
    → marked round (drop start (take i stamps)) ≡ marked round (drop start (take (i - 1) stamps)) + 1
step_down_is round stamps start i d h k e =
    step_down round stamps start i d h k ∙ ap (λ s. marked round (drop start (take (i - 1) stamps)) + one_if s round) e
    ∙ ap (λ n. marked round (drop start (take (i - 1) stamps)) + n) (one_if_is round)

pub step_down_not : (round : ℕ) (stamps : List ℕ) (start i d : ℕ) → start < i → i ≤ length stamps
    → get_or stamps (i - 1) d ≢ round
    → marked round (drop start (take i stamps)) ≡ marked round (drop start (take (i - 1) stamps))
step_down_not round stamps start i d h k n =
    let z = one_if_not (get_or stamps (i - 1) d) round n in omega (arith, step_down round stamps start i d h k)

in_last : (xs : List Lit) (l m : Lit) → Contains (l ∷ []) m → Contains (xs ++ l ∷ []) m
in_last xs l m (zero, h, e) = subst (Contains (xs ++ l ∷ [])) e (Contains-push xs l)
in_last xs l m (suc k, h, e) = absurd (omega arith)

pub more_more : (trail : List Step) (xs : List Lit) (l : Lit) (a b c : Marking) → MarksMore trail xs a b
    → MarksMore trail (l ∷ []) b c → MarksMore trail (xs ++ l ∷ []) a c
more_more trail xs l a b c p q = record {
  round = q.round ∙ p.round;
  start = q.start ∙ p.start;
  end = q.end ∙ p.end;
  long = q.long ∙ p.long;
  bounded = q.bounded;
  keeps = λ n e. q.keeps n (p.keeps n e);
  only = λ j e. elim (q.only j e) [
    | inl old ↦ elim (p.only j old) [
      | inl older ↦ inl older
      | inr w ↦ inr (w.0, w.1, w.2, Contains-append_left xs (l ∷ []) (opposite w.0.lit) w.3)
    ]
    | inr w ↦ inr (w.0, omega (arith, w.1, p.end), w.2, in_last xs l (opposite w.0.lit) w.3)
  ];
  waiting = omega (arith, p.waiting, q.waiting);
}

pub has_more : (trail : List Step) (a b : Marking) (l : Lit) → ((j : ℕ) → HasRound a j → HasRound b j)
    → HasMark trail a l → HasMark trail b l
has_more trail a b l keeps h = (h.0, h.1, h.2, h.3, keeps h.0 h.4)

pub all_marked_more : (trail : List Step) (a b : Marking) (clause : List Lit) → ((j : ℕ) → HasRound a j → HasRound b j)
    → AllMarked trail a clause → AllMarked trail b clause
all_marked_more trail a b clause keeps h k d lt = has_more trail a b (get_or clause k d) keeps (h k d lt)

pub more_none : (trail : List Step) (m : Marking) → IsBounded m → MarksMore trail [] m m
more_none trail m b = record {
  round = refl;
  start = refl;
  end = refl;
  long = refl;
  bounded = b;
  keeps = λ j e. e;
  only = λ j e. inl e;
  waiting = omega arith;
}

pub marks_down : (trail : List Step) (m : Marking) (p w : ℕ) → AreMarks trail m → m.start ≤ p → p < m.end
    → w ≡ marked m.round (drop m.start (take p m.stamps)) → AreMarks trail (record m { end = p; waiting = w })
marks_down trail m p w h s e c = record {
  start = s;
  end = let f = h.end in omega arith;
  long = h.long;
  lower = h.lower;
  lower_all = h.lower_all;
  greatest = h.greatest;
  waiting = c;
}

-- a mark of the present level waits
pub marks_some : (trail : List Step) (m : Marking) (j : ℕ) → AreMarks trail m → m.start ≤ j → j < m.end → HasRound m j
    → 0 < m.waiting
marks_some trail m j h ge lt mark =
    let q : ℕ = j - m.start in
    let e : m.start + q ≡ j = omega arith in
    let here : slice_get (drop m.start (take m.end m.stamps)) q ≡ Some m.round =
    get_drop m.start (take m.end m.stamps) q ∙ ap (slice_get (take m.end m.stamps)) e
    ∙ take_get m.end m.stamps j m.round lt mark in
    let some = marked_some m.round (drop m.start (take m.end m.stamps)) q here in
    omega (arith, h.waiting)

-- where a mark waits, there is one
pub some_marked : (round : ℕ) (stamps : List ℕ) (start end : ℕ) → 0 < marked round (drop start (take end stamps))
    → (j : ℕ) × (start ≤ j) × (j < end) × (slice_get stamps j ≡ Some round)
some_marked round stamps start end h =
    let r = marked_has round (drop start (take end stamps)) h in
    let t = get_take end stamps (start + r.0) round (sym (get_drop start (take end stamps) r.0) ∙ r.1) in
    (start + r.0, omega arith, t.0, t.1)

-- no mark of the next round
pub none_next : (stamps : List ℕ) (round a : ℕ) → All (λ s. s ≤ round) stamps → slice_get stamps a ≢ Some (round + 1)
none_next stamps round a b e =
    let w = get_within stamps a (round + 1) e in
    let at : get_or stamps a 0 ≡ round + 1 = get_or_from_slice_get stamps a (round + 1) 0 e in
    let le = b a 0 w in absurd (omega arith)

none_marked : (round : ℕ) (xs : List ℕ) → ((q : ℕ) → slice_get xs q ≢ Some round) → marked round xs ≡ 0
none_marked round [] b = refl
none_marked round (x ∷ xs) b =
    let n : x ≢ round = λ e. b 0 (ap Some e) in
    omega (arith, one_if_not x round n, none_marked round xs (λ q. b (suc q)))

pub marks_none : (trail : List Step) (stamps : List ℕ) (round start end : ℕ) → All (λ s. s ≤ round) stamps → start ≤ end
    → end ≤ length trail → length trail ≤ length stamps
    → AreMarks trail (record {
      stamps = stamps;
      round = round + 1;
      lower = [];
      level = 0;
      start = start;
      end = end;
      waiting = 0;
    })
marks_none trail stamps round start end b h k long = record {
  start = h;
  end = k;
  long = long;
  lower = λ i d lt. absurd (omega arith);
  lower_all = λ j x lt at mark. absurd (none_next stamps round j b mark);
  greatest = inl refl;
  waiting =
      sym (none_marked (round + 1) (drop start (take end stamps))
      (λ q e. none_next stamps round (start + q) b
      (get_take end stamps (start + q) (round + 1) (sym (get_drop start (take end stamps) q) ∙ e)).1));
}

pub more_whole : (trail : List Step) (xs ys : List Lit) (a b : Marking) → ((l : Lit) → Contains xs l → Contains ys l)
    → MarksMore trail xs a b → MarksMore trail ys a b
more_whole trail xs ys a b part p = record {
  round = p.round;
  start = p.start;
  end = p.end;
  long = p.long;
  bounded = p.bounded;
  keeps = p.keeps;
  only = λ j e. elim (p.only j e) [ inl old ↦ inl old | inr w ↦ inr (w.0, w.1, w.2, part (opposite w.0.lit) w.3) ];
  waiting = p.waiting;
}
