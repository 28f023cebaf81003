-- Reasons as hints, in the order of the trail.
use Rattle.std.proofs.Common.{◌≡◌, ◌≢◌, ◌⊎◌, ℕ, zero, suc, ◌+◌, ◌-◌, ◌<◌, ◌≤◌, List, [], ◌∷◌, ◌++◌, length, map, drop}
use Rattle.std.proofs.Common.{get_or, Option, Some, Bool, false, if◌then◌else◌, inl, inr, refl, sym, ap, ◌∙◌, subst}
use Rattle.std.proofs.Common.{arith, All, Contains, eq-eqb}
use Rattle.std.specs.Prelude.{slice_get, slice_index_or, nat_eq}
use Rattle.std.specs.List.{cons_option}
use Rattle.std.proofs.lemmas.Bool.{cases_eq, cases_lt}
use Rattle.std.proofs.lemmas.Bool.Decides.{nat_tests}
use Rattle.std.proofs.lemmas.Option.{get_or_from_slice_get, slice_get-get_or}
use Rattle.std.proofs.lemmas.List.Elements.{All-cons, All-contains, Contains-append_left, Contains-push}
use Rattle.gh_base.specs.declared.atom.Lit.{Lit}
use Rattle.gh_base.specs.Atoms.{opposite}
use Rattle.gh_base.specs.Hints.{HasAllButOne, IsRefutedByHints, refuted, joined}
use Rattle.gh_sat.specs.declared.trail.Step.{Step}
use Rattle.gh_sat.specs.Trail.{Line, SearchState, Stands, IsReason, IsOpenedOrForced, IsFalseIn, AreSteps, IsSound}
use Rattle.gh_sat.specs.Learn.{Marking, HasRound, HasMark, AllMarked, AreMarks, ResolvedFrom, IsLastMarked, AreReasons}
use Rattle.gh_sat.specs.Learn.{AllHaveReasons, reasons_of}
use Rattle.gh_base.proofs.ListLemmas.{get_within, get_some}
use Rattle.gh_sat.proofs.ListLemmas.{drop_past, lt_le}
use Rattle.gh_sat.proofs.TrailLemmas.{opposite_twice, stands_below}
use Rattle.gh_sat.proofs.ResolveLemmas.{HasReason, mark_at}
use Rattle.gh_sat.proofs.LearnLemmas.{reason_or_start, in_map, only_place}

pub drop_get : {X : Type 0} (xs : List X) (i : ℕ) (x : X) → slice_get xs i ≡ Some x → drop i xs ≡ x ∷ drop (i + 1) xs
drop_get [] i x at = cc
drop_get (y ∷ xs) zero x at =
    let same : y ≡ x = cc in let e : 0 + 1 ≡ suc 0 = omega arith in
    ap (λ z. z ∷ xs) same ∙ ap (λ n. x ∷ drop n (y ∷ xs)) (sym e)
drop_get (y ∷ xs) (suc i) x at =
    let e : suc i + 1 ≡ suc (i + 1) = omega arith in drop_get xs i x at ∙ ap (λ n. x ∷ drop n (y ∷ xs)) (sym e)

-- one step less is left
reasons_step : (round : ℕ) (ss : List ℕ) (xs : List Step) (i s : ℕ) (x : Step) → slice_get ss i ≡ Some s
    → slice_get xs i ≡ Some x
    → reasons_of round (drop i ss) (drop i xs)
    ≡ (if nat_eq s round then cons_option x.reason
    (reasons_of round (drop (i + 1) ss) (drop (i + 1) xs)) else reasons_of round (drop (i + 1) ss) (drop (i + 1) xs))
reasons_step round ss xs i s x here at =
    ap (λ ys. reasons_of round ys (drop i xs)) (drop_get ss i s here)
    ∙ ap (λ ys. reasons_of round (s ∷ drop (i + 1) ss) ys) (drop_get xs i x at)

-- a marked one has its reason first
pub reasons_marked : (round : ℕ) (ss : List ℕ) (xs : List Step) (i s : ℕ) (x : Step) → slice_get ss i ≡ Some s
    → s ≡ round → slice_get xs i ≡ Some x
    → reasons_of round (drop i ss) (drop i xs)
    ≡ cons_option x.reason (reasons_of round (drop (i + 1) ss) (drop (i + 1) xs))
reasons_marked round ss xs i s x here is at =
    let rest = reasons_of round (drop (i + 1) ss) (drop (i + 1) xs) in
    reasons_step round ss xs i s x here at
    ∙ ap (λ (d : Bool). if d then cons_option x.reason rest else rest) (eq-eqb s round is)

-- another one is left out
pub reasons_unmarked : (round : ℕ) (ss : List ℕ) (xs : List Step) (i s : ℕ) (x : Step) → slice_get ss i ≡ Some s
    → s ≢ round → slice_get xs i ≡ Some x
    → reasons_of round (drop i ss) (drop i xs) ≡ reasons_of round (drop (i + 1) ss) (drop (i + 1) xs)
reasons_unmarked round ss xs i s x here n at =
    let rest = reasons_of round (drop (i + 1) ss) (drop (i + 1) xs) in
    let not : nat_eq s round ≡ false = grind (arith, nat_tests) in
    reasons_step round ss xs i s x here at ∙ ap (λ (d : Bool). if d then cons_option x.reason rest else rest) not

-- as the code reads it
pub unmarked_read : (round : ℕ) (ss : List ℕ) (xs : List Step) (i s d : ℕ) → i < length xs → length xs ≤ length ss
    → s ≡ get_or ss i d → s ≢ round
    → reasons_of round (drop i ss) (drop i xs) ≡ reasons_of round (drop (i + 1) ss) (drop (i + 1) xs)
unmarked_read round ss xs i s d lt long read n =
    let x = get_some xs i lt in
    reasons_unmarked round ss xs i s x.0 (slice_get-get_or ss i d (omega arith) ∙ ap Some (sym read)) n x.1

-- the reason of a marked step, as the code reads it
pub reason_read : (clauses : List (List Lit)) (trail steps : List Step) (place : ℕ) (x d : Step) (o : Option ℕ)
    → AllHaveReasons clauses trail → slice_get trail place ≡ Some x → steps ≡ trail → (get_or steps place d).reason ≡ o
    → (k : ℕ) × (o ≡ Some k) × (x.reason ≡ Some k) × IsReason clauses trail place x.lit k
reason_read clauses trail steps place x d o h at same read =
    let r = h place x at in
    let e : x.reason ≡ o =
    ap (λ (y : Step). y.reason) (sym (get_or_from_slice_get trail place x d at))
    ∙ ap (λ (t : List Step). (get_or t place d).reason) (sym same) ∙ read in
    (r.0, sym e ∙ r.1, r.1, r.2)

-- .. where it reads one
pub reason_held : (clauses : List (List Lit)) (trail steps : List Step) (m : Marking) (place : ℕ) (d : Step) (k : ℕ)
    → AllHaveReasons clauses trail → AreMarks trail m → place < m.end → steps ≡ trail
    → (get_or steps place d).reason ≡ Some k → HasReason clauses trail place k
reason_held clauses trail steps m place d k h marks lt same_steps read =
    let at = get_some trail place (lt_le lt marks.end) in
    let r = reason_read clauses trail steps place at.0 d (Some k) h at.1 same_steps read in
    let same : r.0 ≡ k = let e = r.1 in cc in
    let within = get_within clauses r.0 r.3.clause r.3.at in
    subst (HasReason clauses trail place) same
    (record { step = at.0; at = at.1; within = within; why = r.2; reason = r.3 })

reasons_nothing : (round : ℕ) (ss : List ℕ) → reasons_of round ss [] ≡ []
reasons_nothing round [] = refl
reasons_nothing round (s ∷ ss) = refl

pub reasons_past : (round : ℕ) (ss : List ℕ) (xs : List Step) (i : ℕ) → length xs ≤ i
    → reasons_of round (drop i ss) (drop i xs) ≡ []
reasons_past round ss xs i h = ap (reasons_of round (drop i ss)) (drop_past xs i h) ∙ reasons_nothing round (drop i ss)

head_in : (x : Lit) (xs : List Lit) (l : Lit) → x ≡ l → Contains (x ∷ xs) l
head_in x xs l e = (0, omega arith, e)

tail_in : (x : Lit) (xs : List Lit) (l : Lit) → Contains xs l → Contains (x ∷ xs) l
tail_in x xs l (k, lt, e) = (suc k, omega arith, e)

head_or_tail : (x : Lit) (xs : List Lit) (l : Lit) → Contains (x ∷ xs) l → (x ≡ l) ⊎ Contains xs l
head_or_tail x xs l (zero, lt, e) = inl e
head_or_tail x xs l (suc k, lt, e) = inr (k, omega arith, e)

numbered_is : (clauses : List (List Lit)) (k : ℕ) (c : List Lit) → slice_get clauses k ≡ Some c
    → slice_index_or clauses k [] ≡ c
numbered_is clauses k c at = get_or_from_slice_get clauses k c [] at

abbrev hints : List (List Lit) → List ℕ → List (List Lit)
hints clauses numbers = map (λ k. slice_index_or clauses k []) numbers

-- the numbers show a contradiction of the set
record Shows (clauses : List (List Lit)) (numbers : List ℕ) (set : List Lit) : Type 0 where
  within : All (λ k. k < length clauses) numbers
  by_hints : IsRefutedByHints (hints clauses numbers) set

shows_false : (clauses : List (List Lit)) (k : ℕ) (c set : List Lit) → slice_get clauses k ≡ Some c
    → All (λ m. Contains set (opposite m)) c → Shows clauses (k ∷ []) set
shows_false clauses k c set at all = record {
  within = All-cons (λ n. n < length clauses) k [] (get_within clauses k c at) (λ i d lt. absurd (omega arith));
  by_hints = refuted (slice_index_or clauses k []) [] set
      (subst (λ (d : List Lit). All (λ m. Contains set (opposite m)) d) (sym (numbered_is clauses k c at)) all);
}

-- what holds of the literals at a place of the trail: those of the marked steps before it are in the set, and the set
-- stands before it
pub record IsSetAt (trail : List Step) (m : Marking) (i : ℕ) (set : List Lit) : Type 0 where
  pub has : (j : ℕ) (x : Step) → j < i → slice_get trail j ≡ Some x → HasRound m j → Contains set x.lit
  pub only : (l : Lit) → Contains set l → Stands trail i l

-- past a marked step its literal is in the set
set_marked : (trail : List Step) (m : Marking) (i : ℕ) (set : List Lit) (x : Step) → IsSetAt trail m i set
    → slice_get trail i ≡ Some x → IsSetAt trail m (i + 1) (x.lit ∷ set)
set_marked trail m i set x h at = record {
  has = λ j y lt at' mark. elim (cases_eq j i) as (λ _. Contains (x.lit ∷ set) y.lit) [
    | inl e ↦
        let same : x ≡ y = let there : slice_get trail i ≡ Some y = subst (λ n. slice_get trail n ≡ Some y) e at' in
        cc in
        head_in x.lit set y.lit (ap (λ (z : Step). z.lit) same)
    | inr ne ↦ tail_in x.lit set y.lit (h.has j y (omega arith) at' mark)
  ];
  only = λ l there. elim (head_or_tail x.lit set l there) as (λ _. Stands trail (i + 1) l) [
    | inl e ↦ (i, x, omega arith, at, e)
    | inr before ↦ stands_below trail i (i + 1) l (omega arith) (h.only l before)
  ];
}

set_unmarked : (trail : List Step) (m : Marking) (i : ℕ) (set : List Lit) → IsSetAt trail m i set → (HasRound m i → ⊥)
    → IsSetAt trail m (i + 1) set
set_unmarked trail m i set h n = record {
  has = λ j y lt at' mark. elim (cases_eq j i) as (λ _. Contains set y.lit) [
    | inl e ↦ absurd (n (subst (HasRound m) e mark))
    | inr ne ↦ h.has j y (omega arith) at' mark
  ];
  only = λ l there. stands_below trail i (i + 1) l (omega arith) (h.only l there);
}

-- the literal of a clause whose place is marked, and before a place, is in the set with its sign turned
set_has : (t : Line) (m : Marking) (i : ℕ) (set : List Lit) (l : Lit) → AreSteps t → IsSetAt t.steps m i set
    → HasMark t.steps m l → Stands t.steps i (opposite l) → Contains set (opposite l)
set_has t m i set l v h mark z =
    let mark' : HasRound m z.0 = mark_at t m l z.0 z.1 v z.3 (ap (λ (q : Lit). q.atom) z.4) mark in
    subst (Contains set) z.4 (h.has z.0 z.1 z.2 z.3 mark')

-- the reason of a marked step has all literals but one
shows_marked : (t : Line) (clauses : List (List Lit)) (m : Marking) (i k : ℕ) (c set : List Lit) (x : Step)
    (rest : List ℕ) → AreSteps t → IsSetAt t.steps m i set
    → slice_get t.steps i ≡ Some x → slice_get clauses k ≡ Some c → AllMarked t.steps m c
    → IsReason clauses t.steps i x.lit k → Shows clauses rest (x.lit ∷ set) → Shows clauses (k ∷ rest) set
shows_marked t clauses m i k c set x rest v h at has all reason more =
    let is : slice_index_or clauses k [] ≡ c = numbered_is clauses k c has in
    let same : reason.clause ≡ c = let r = reason.at in cc in
    record {
      within = All-cons (λ n. n < length clauses) k rest (get_within clauses k c has) more.within;
      by_hints = joined (slice_index_or clauses k []) (hints clauses rest) set x.lit
          (subst (λ (d : List Lit). HasAllButOne set d x.lit) (sym is) (record {
            there = subst (λ (d : List Lit). Contains d x.lit) same reason.there;
            missing = λ there.
                let z = h.only (opposite x.lit) there in
                let e = v.apart z.0 z.1 i x z.3 at (ap (λ (l : Lit). l.atom) z.4) in
                absurd (let lt = z.2 in omega arith);
            others = λ l there ne.
                elim (All-contains (λ q. (q ≡ x.lit) ⊎ Stands t.steps i (opposite q)) reason.clause l reason.others
                (subst (λ (d : List Lit). Contains d l) (sym same) there)) as (λ _. Contains set (opposite l)) [
                  | inl e ↦ absurd (ne e)
                  | inr z ↦ set_has t m i set l v h (All-contains (λ q. HasMark t.steps m q) c l all there) z
                ];
          }))
          more.by_hints;
    }

-- the steps from a place on and the false clause, with the set at that place
shown : (s : SearchState) (conflict : List Lit) (k : ℕ) (m : Marking) (from n i : ℕ) (set : List Lit)
    → IsSound s → slice_get s.clauses k ≡ Some conflict → IsFalseIn s.trail conflict → AllMarked s.trail m conflict
    → ResolvedFrom s.clauses s.trail m from → length s.trail ≤ length m.stamps
    → from ≤ i → i + n ≡ length s.trail → IsSetAt s.trail m i set
    → Shows s.clauses (reasons_of m.round (drop i m.stamps) (drop i s.trail) ++ k ∷ []) set
shown s conflict k m from zero i set h at f all res long low e z =
    let none = reasons_past m.round m.stamps s.trail i (omega arith) in
    let whole : i ≡ length s.trail = omega arith in
    subst (λ (ks : List ℕ). Shows s.clauses (ks ++ k ∷ []) set) (sym none)
    (shows_false s.clauses k conflict set at (λ d w lt.
    set_has (record { sizes = s.sizes; steps = s.trail }) m i set (get_or conflict d w) h.steps z (all d w lt)
    (subst (λ n. Stands s.trail n (opposite (get_or conflict d w))) (sym whole) (f d w lt))))
shown s conflict k m from (suc n) i set h at f all res long low e z =
    let x = get_some s.trail i (omega arith) in
    let st = get_some m.stamps i (omega arith) in
    elim (cases_eq st.0 m.round) as (λ _. Shows s.clauses
    (reasons_of m.round (drop i m.stamps) (drop i s.trail) ++ k ∷ []) set) [
      | inl is ↦
          let mark : HasRound m i = st.1 ∙ ap Some is in
          let r = res i x.0 low x.1 mark in
          let reason : IsReason s.clauses s.trail i x.0.lit r.0 =
          subst (λ o. IsOpenedOrForced s.clauses s.trail s.starts i x.0.lit x.0.level o) r.2 (h.caused i x.0 x.1) in
          let rest = shown s conflict k m from n (i + 1) (x.0.lit ∷ set) h at f all res long (omega arith) (omega arith)
          (set_marked s.trail m i set x.0 z x.1) in
          let rest_is = reasons_of m.round (drop (i + 1) m.stamps) (drop (i + 1) s.trail) in
          let first = reasons_marked m.round m.stamps s.trail i st.0 x.0 st.1 is x.1
          ∙ ap (λ (o : Option ℕ). cons_option o rest_is) r.2 in
          subst (λ (ks : List ℕ). Shows s.clauses (ks ++ k ∷ []) set) (sym first)
          (shows_marked (record { sizes = s.sizes; steps = s.trail }) s.clauses m i r.0 r.1 set x.0
          (reasons_of m.round (drop (i + 1) m.stamps) (drop (i + 1) s.trail) ++ k ∷ []) h.steps z x.1 r.3 r.4 reason
          rest)
      | inr ne ↦
          let not : HasRound m i → ⊥ = λ (mark : HasRound m i). ne (let there = st.1 in cc) in
          let rest = shown s conflict k m from n (i + 1) set h at f all res long (omega arith) (omega arith)
          (set_unmarked s.trail m i set z not) in
          subst (λ (ks : List ℕ). Shows s.clauses (ks ++ k ∷ []) set)
          (sym (reasons_unmarked m.round m.stamps s.trail i st.0 x.0 st.1 ne x.1)) rest
    ]

-- the reasons of the marked steps past a place, and the false clause, show a clause whose literals are those that are
-- marked up to the place, turned
pub reasons_show : (s : SearchState) (conflict : List Lit) (k : ℕ) (m : Marking) (from : ℕ) (clause : List Lit)
    → IsSound s → slice_get s.clauses k ≡ Some conflict → IsFalseIn s.trail conflict → AllMarked s.trail m conflict
    → ResolvedFrom s.clauses s.trail m from → length s.trail ≤ length m.stamps
    → from ≤ length s.trail → IsSetAt s.trail m from (map opposite clause)
    → AreReasons s.clauses (reasons_of m.round (drop from m.stamps) (drop from s.trail) ++ k ∷ []) clause
reasons_show s conflict k m from clause h at f all res long low z =
    let n : ℕ = length s.trail - from in
    let w = shown s conflict k m from n from (map opposite clause) h at f all res long (omega arith) (omega arith) z in
    record { within = w.within; shows = inr w.by_hints }

-- at level 0, of the empty clause
pub refutation_shows : (s : SearchState) (conflict : List Lit) (k : ℕ) (m : Marking) → IsSound s
    → slice_get s.clauses k ≡ Some conflict → IsFalseIn s.trail conflict → AllMarked s.trail m conflict
    → ResolvedFrom s.clauses s.trail m 0 → length s.trail ≤ length m.stamps
    → AreReasons s.clauses (reasons_of m.round (drop 0 m.stamps) (drop 0 s.trail) ++ k ∷ []) []
refutation_shows s conflict k m h at f all res long =
    reasons_show s conflict k m 0 [] h at f all res long (omega arith)
    (record {
      has = λ j x lt at' mark. absurd (omega arith);
      only = λ l there. absurd (let lt = there.1 in omega arith);
    })

in_map_back : (xs : List Lit) (l : Lit) → Contains (map opposite xs) l → (y : Lit) × Contains xs y × (opposite y ≡ l)
in_map_back [] l (k, lt, e) = absurd (omega arith)
in_map_back (x ∷ xs) l (zero, lt, e) = (x, (0, omega arith, refl), e)
in_map_back (x ∷ xs) l (suc k, lt, e) = let r = in_map_back xs l (k, omega arith, e) in (r.0, tail_in x xs r.0 r.1, r.2)

in_push_back : (xs : List Lit) (y l : Lit) → Contains (xs ++ y ∷ []) l → Contains xs l ⊎ (y ≡ l)
in_push_back [] y l (zero, lt, e) = inr e
in_push_back [] y l (suc k, lt, e) = absurd (omega arith)
in_push_back (x ∷ xs) y l (zero, lt, e) = inl (0, omega arith, e)
in_push_back (x ∷ xs) y l (suc k, lt, e) = elim (in_push_back xs y l (k, omega arith, e)) [
  | inl h ↦ inl (tail_in x xs l h)
  | inr h ↦ inr h
]

-- what is learnt, turned, are the literals that are marked up to the point
set_learnt : (s : SearchState) (conflict : List Lit) (m : Marking) (place last : ℕ) → IsSound s
    → slice_get s.starts last ≡ Some m.start → length s.starts ≡ last + 1
    → (p : IsLastMarked s.clauses s.trail conflict m place)
    → IsSetAt s.trail m (place + 1) (map opposite (m.lower ++ opposite p.step.lit ∷ []))
set_learnt s conflict m place last h here n p =
    let u = opposite p.step.lit in
    let clause = m.lower ++ u ∷ [] in
    record {
      has = λ j x lt at mark. in_map clause (opposite x.lit) x.lit
          (elim (cases_lt j m.start) as (λ _. Contains clause (opposite x.lit)) [
            | inl low ↦ Contains-append_left m.lower (u ∷ []) (opposite x.lit) (p.marks.lower_all j x low at mark)
            | inr high ↦
                let e = only_place s conflict m place last h here n p j mark high (omega arith) in
                let same : p.step ≡ x =
                let w : slice_get s.trail place ≡ Some x = subst (λ i. slice_get s.trail i ≡ Some x) e at in
                let v = p.at in cc in
                subst (λ (y : Step). Contains clause (opposite y.lit)) same (Contains-push m.lower u)
          ]) (opposite_twice x.lit);
      only = λ l there.
          let y = in_map_back clause l there in
          elim (in_push_back m.lower u y.0 y.1) as (λ _. Stands s.trail (place + 1) l) [
            | inl low ↦
                let r =
                All-contains (λ q. (j : ℕ) × (z : Step) × (j < m.start) × (slice_get s.trail j ≡ Some z)
                × (z.lit ≡ opposite q) × (z.level ≤ m.level) × HasRound m j) m.lower y.0 p.marks.lower low in
                (r.0, r.1, (let a = r.2 in let b = p.low in omega arith), r.3, r.4 ∙ y.2)
            | inr e ↦ (place, p.step, omega arith, p.at, sym (opposite_twice p.step.lit) ∙ ap opposite e ∙ y.2)
          ];
    }

pub learnt_shows : (s : SearchState) (conflict : List Lit) (m : Marking) (place last k : ℕ) → IsSound s
    → slice_get s.starts last ≡ Some m.start → length s.starts ≡ last + 1
    → (p : IsLastMarked s.clauses s.trail conflict m place)
    → slice_get s.clauses k ≡ Some conflict → IsFalseIn s.trail conflict
    → AreReasons s.clauses (reasons_of m.round (drop (place + 1) m.stamps) (drop (place + 1) s.trail) ++ k ∷ [])
    (m.lower ++ opposite p.step.lit ∷ [])
learnt_shows s conflict m place last k h here n p at f =
    let w = get_within s.trail place p.step p.at in
    reasons_show s conflict k m (place + 1) (m.lower ++ opposite p.step.lit ∷ []) h at f p.all p.resolved p.marks.long
    (omega arith) (set_learnt s conflict m place last h here n p)

-- at level 0 each step has its reason
pub all_have_reasons : (s : SearchState) → IsSound s → s.starts ≡ [] → AllHaveReasons s.clauses s.trail
all_have_reasons s h none i x at = elim (reason_or_start s i x.lit x.level x.reason (h.caused i x at)) [
  | inl r ↦ r
  | inr t ↦
      absurd (let there : slice_get [] t.0 ≡ Some i = subst (λ (ss : List ℕ). slice_get ss t.0 ≡ Some i) none t.2 in
      let w = get_within [] t.0 i there in omega arith)
]
