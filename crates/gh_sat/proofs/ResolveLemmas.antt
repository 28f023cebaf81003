-- Resolving from the conflict back.
use Rattle.std.proofs.Common.{◌≡◌, ◌⊎◌, ℕ, suc, ◌+◌, ◌-◌, ◌<◌, ◌≤◌, List, [], length, take, drop, get_or, Option, Some}
use Rattle.std.proofs.Common.{inl, inr, refl, sym, ap, ◌∙◌, subst, arith, All, length-take-le}
use Rattle.std.specs.Prelude.{slice_get}
use Rattle.std.proofs.lemmas.Bool.{cases_eq, cases_lt}
use Rattle.std.proofs.lemmas.Option.{get_or_from_slice_get, slice_get_read}
use Rattle.std.proofs.lemmas.List.{drop_all}
use Rattle.std.proofs.lemmas.List.Elements.{All-contains}
use Rattle.gh_base.specs.declared.atom.Lit.{Lit}
use Rattle.gh_base.specs.Atoms.{opposite}
use Rattle.gh_sat.specs.declared.trail.Step.{Step}
use Rattle.gh_sat.specs.Trail.{Line, Stands, IsFalseIn, IsReason, AreSteps}
use Rattle.gh_sat.specs.Learn.{Reached, Marking, HasRound, HasMark, AllMarked, marked, marked_before, AreMarks}
use Rattle.gh_sat.specs.Learn.{IsMarkedOrFalse, MarksMore, ResolvedFrom, AreReached, HaveReasons, IsAlone, IsLastMarked}
use Rattle.gh_sat.specs.Learn.Reached.{by_conflict, by_reason}
use Rattle.gh_base.proofs.ListLemmas.{get_within, get_some}
use Rattle.gh_sat.proofs.ListLemmas.{lt_le}
use Rattle.gh_sat.proofs.MarkLemmas.{all_marked_more, marks_down, some_marked}

-- the literals of a false clause are false before the end
pub false_before : (trail : List Step) (m : Marking) (clause : List Lit)
    → IsFalseIn trail clause → m.end ≡ length trail → All (IsMarkedOrFalse trail m) clause
false_before trail m clause f e = λ k d lt. let s = f k d lt in inr (s.0, s.1, omega (arith, s.2, e), s.3, s.4)

-- there is nothing to resolve from the end of the trail on
pub resolved_none : (clauses : List (List Lit)) (trail : List Step) (m : Marking)
    → m.end ≡ length trail → ResolvedFrom clauses trail m m.end
resolved_none clauses trail m e j x le at mark = absurd (let w = get_within trail j x at in omega arith)

-- what the code reads as the literals of a clause
pub clause_read : (clauses : List (List Lit)) (k : ℕ) (c l : List Lit)
    → c ≡ get_or clauses k c → l ≡ c → k < length clauses → slice_get clauses k ≡ Some l
clause_read clauses k c l e f h =
    slice_get_read clauses (length clauses) k c (λ _. length clauses) h e ∙ ap Some (sym f)

-- resolving more steps reaches no less
pub reached_more : (clauses : List (List Lit)) (trail : List Step) (conflict : List Lit) (from low j : ℕ) → low ≤ from
    → Reached clauses trail conflict from j → Reached clauses trail conflict low j
reached_more clauses trail conflict from low j h (by_conflict _ x at there) = by_conflict j x at there
reached_more clauses trail conflict from low j h (by_reason i y k c _ x le at why has at' there r) =
    by_reason i y k c j x (omega arith) at why has at' there (reached_more clauses trail conflict from low i h r)

-- the mark of an atom is that of its place
pub mark_at : (t : Line) (m : Marking) (l : Lit) (j : ℕ) (x : Step) → AreSteps t → slice_get t.steps j ≡ Some x
    → x.lit.atom ≡ l.atom → HasMark t.steps m l → HasRound m j
mark_at t m l j x v at e h = subst (HasRound m) (v.apart h.0 h.1 j x h.2 at (h.3 ∙ sym e)) h.4

-- what is reached is marked, where the marked steps from there on are resolved
pub complete : (t : Line) (clauses : List (List Lit)) (conflict : List Lit) (m : Marking) (low from j : ℕ) → AreSteps t
    → AllMarked t.steps m conflict → ResolvedFrom clauses t.steps m low → low ≤ from
    → Reached clauses t.steps conflict from j → HasRound m j
complete t clauses conflict m low from j v all res h (by_conflict _ x at there) =
    mark_at t m (opposite x.lit) j x v at refl (All-contains (HasMark t.steps m) conflict (opposite x.lit) all there)
complete t clauses conflict m low from j v all res h (by_reason i y k c _ x le at why has at' there r) =
    let mark = complete t clauses conflict m low from i v all res h r in
    let resolved = res i y (omega arith) at mark in
    let same_k : resolved.0 ≡ k = let e = resolved.2 in cc in
    let has' : slice_get clauses k ≡ Some resolved.1 =
    subst (λ n. slice_get clauses n ≡ Some resolved.1) same_k resolved.3 in
    let same : resolved.1 ≡ c = cc in
    mark_at t m (opposite x.lit) j x v at' refl
    (All-contains (HasMark t.steps m) c (opposite x.lit) (subst (λ d. AllMarked t.steps m d) same resolved.4) there)

-- between the last marked place and the end nothing is left to resolve
pub resolved_last : (clauses : List (List Lit)) (trail : List Step) (m : Marking) (p : ℕ)
    → ResolvedFrom clauses trail m m.end → ((j : ℕ) → p < j → j < m.end → HasRound m j → ⊥)
    → ResolvedFrom clauses trail m (p + 1)
resolved_last clauses trail m p r between j y le at mark = elim (cases_lt j m.end) [
  | inl lt ↦ absurd (between j (omega arith) lt mark)
  | inr ge ↦ r j y ge at mark
]

-- the last marked step has its reason's literals marked
pub resolved_next : (clauses : List (List Lit)) (trail : List Step) (m n : Marking) (p w : ℕ) (x : Step) (k : ℕ)
    (c : List Lit)
    → ResolvedFrom clauses trail m m.end → ((j : ℕ) → p < j → j < m.end → HasRound m j → ⊥)
    → MarksMore trail c (record m { end = p; waiting = w }) n → slice_get trail p ≡ Some x → x.reason ≡ Some k
    → slice_get clauses k ≡ Some c → AllMarked trail n c → ResolvedFrom clauses trail n p
resolved_next clauses trail m n p w x k c r between more at why has all j y le at' mark = elim (cases_eq j p) [
  | inl e ↦
      let same : x ≡ y = let at2 : slice_get trail p ≡ Some y = subst (λ i. slice_get trail i ≡ Some y) e at' in cc in
      (k, c, ap (λ (t : Step). t.reason) (sym same) ∙ why, has, all)
  | inr ne ↦ elim (more.only j mark) [
    | inl was ↦ elim (cases_lt j m.end) [
      | inl lt ↦ absurd (between j (omega arith) lt was)
      | inr ge ↦
          let q = r j y ge at' was in
          (q.0, q.1, q.2, q.3, all_marked_more trail (record m { end = p; waiting = w }) n q.1 more.keeps q.4)
    ]
    | inr new ↦ absurd (let lt = new.1 in omega arith)
  ]
]

-- what is marked by the last marked step's reason is reached
pub reached_next : (clauses : List (List Lit)) (trail : List Step) (conflict : List Lit) (m n : Marking) (p w : ℕ)
    (x : Step) (k : ℕ) (c : List Lit)
    → AreReached clauses trail conflict m m.end → p < m.end → HasRound m p
    → MarksMore trail c (record m { end = p; waiting = w }) n → slice_get trail p ≡ Some x → x.reason ≡ Some k
    → slice_get clauses k ≡ Some c
    → AreReached clauses trail conflict n p
reached_next clauses trail conflict m n p w x k c r lt mark more at why has j new = elim (more.only j new) [
  | inl was ↦ reached_more clauses trail conflict m.end p j (omega arith) (r j was)
  | inr z ↦
      by_reason p x k c j z.0 (omega arith) at why has z.2 z.3
      (reached_more clauses trail conflict m.end p p (omega arith) (r p mark))
]

pub reached_last : (clauses : List (List Lit)) (trail : List Step) (conflict : List Lit) (m : Marking) (p : ℕ)
    → AreReached clauses trail conflict m m.end → p < m.end → AreReached clauses trail conflict m (p + 1)
reached_last clauses trail conflict m p r lt j mark =
    reached_more clauses trail conflict m.end (p + 1) j (omega arith) (r j mark)

-- no place past the last marked one is the one that is left
pub none_past : (t : Line) (clauses : List (List Lit)) (conflict : List Lit) (m : Marking) (p : ℕ) → AreSteps t
    → AllMarked t.steps m conflict → ResolvedFrom clauses t.steps m m.end
    → ((j : ℕ) → p < j → j < m.end → HasRound m j → ⊥)
    → ((q : ℕ) → m.end ≤ q → IsAlone clauses t.steps conflict m.start q → ⊥) → (q : ℕ) → p < q
    → IsAlone clauses t.steps conflict m.start q → ⊥
none_past t clauses conflict m p v all res between first q lt a = elim (cases_lt q m.end) [
  | inl below ↦
      between q lt below (complete t clauses conflict m (p + 1) (suc q) q v all
      (resolved_last clauses t.steps m p res between) (omega arith) a.reached)
  | inr above ↦ first q above a
]

-- nor is it, where another mark waits
pub none_at : (t : Line) (clauses : List (List Lit)) (conflict : List Lit) (m : Marking) (p : ℕ)
    → AreReached clauses t.steps conflict m m.end → p < m.end
    → 0 < marked m.round (drop m.start (take p m.stamps)) → IsAlone clauses t.steps conflict m.start p → ⊥
none_at t clauses conflict m p r lt some a =
    let z = some_marked m.round m.stamps m.start p some in
    let e = a.alone z.0 (reached_more clauses t.steps conflict m.end (suc p) z.0 (omega arith) (r z.0 z.3)) z.1
    (let b = z.2 in omega arith) in
    let b = z.2 in omega arith

pub none_from : (t : Line) (clauses : List (List Lit)) (conflict : List Lit) (m : Marking) (p : ℕ) → AreSteps t
    → AllMarked t.steps m conflict → ResolvedFrom clauses t.steps m m.end
    → ((j : ℕ) → p < j → j < m.end → HasRound m j → ⊥)
    → ((q : ℕ) → m.end ≤ q → IsAlone clauses t.steps conflict m.start q → ⊥)
    → AreReached clauses t.steps conflict m m.end → p < m.end → 0 < marked m.round (drop m.start (take p m.stamps))
    → (q : ℕ) → p ≤ q → IsAlone clauses t.steps conflict m.start q → ⊥
none_from t clauses conflict m p v all res between first r lt some q le a = elim (cases_eq q p) [
  | inl e ↦ none_at t clauses conflict m p r lt some (subst (IsAlone clauses t.steps conflict m.start) e a)
  | inr n ↦ none_past t clauses conflict m p v all res between first q (omega arith) a
]

-- a step below which a mark waits is no start
pub reason_at : (clauses : List (List Lit)) (trail : List Step) (start p : ℕ) (stamps : List ℕ) (round : ℕ) (x : Step)
    → HaveReasons clauses trail start → start ≤ p → slice_get trail p ≡ Some x → length trail ≤ length stamps
    → 0 < marked round (drop start (take p stamps)) → (k : ℕ) × (x.reason ≡ Some k) × IsReason clauses trail p x.lit k
reason_at clauses trail start p stamps round x h s at long some = elim (cases_eq start p) [
  | inl e ↦
      let w = get_within trail p x at in
      let none : drop start (take p stamps) ≡ [] =
      drop_all start (take p stamps) (omega (arith, length-take-le p stamps (omega arith))) in
      let zero_is : marked round (drop start (take p stamps)) ≡ 0 = ap (marked round) none in
      absurd (omega arith)
  | inr n ↦ h p x at (omega arith)
]

-- the step of a place has clause k as its reason
pub record HasReason (clauses : List (List Lit)) (trail : List Step) (place k : ℕ) : Type 0 where
  pub step : Step
  pub at : slice_get trail place ≡ Some step
  pub within : k < length clauses
  pub why : step.reason ≡ Some k
  pub reason : IsReason clauses trail place step.lit k

-- what the code reads as the reason of a marked step that is not the last
pub reason_is : (clauses : List (List Lit)) (trail steps : List Step) (first : ℕ) (m : Marking) (place : ℕ) (d : Step)
    (o : Option ℕ) → HaveReasons clauses trail first → m.start ≡ first → AreMarks trail m
    → m.start ≤ place → place < m.end → m.waiting ≡ marked_before m place + 1 → (m.waiting - 1 ≡ 0 → ⊥) → steps ≡ trail
    → (get_or steps place d).reason ≡ o
    → (k : ℕ) × (o ≡ Some k) × HasReason clauses trail place k
reason_is clauses trail steps first m place d o h e marks le lt w n same_steps read =
    let at = get_some trail place (lt_le lt marks.end) in
    let r = reason_at clauses trail m.start place m.stamps m.round at.0 (subst (HaveReasons clauses trail) (sym e) h) le
    at.1 marks.long (omega arith) in
    let same : at.0.reason ≡ o =
    ap (λ (y : Step). y.reason) (sym (get_or_from_slice_get trail place at.0 d at.1))
    ∙ ap (λ (t : List Step). (get_or t place d).reason) (sym same_steps) ∙ read in (
      r.0,
      sym same ∙ r.1,
      record {
        step = at.0;
        at = at.1;
        within = get_within clauses r.0 r.2.clause r.2.at;
        why = r.1;
        reason = r.2;
      },
    )

-- .. where it reads one
pub reason_of : (clauses : List (List Lit)) (trail steps : List Step) (first : ℕ) (m : Marking) (place : ℕ) (d : Step)
    (k : ℕ) → HaveReasons clauses trail first → m.start ≡ first → AreMarks trail m
    → m.start ≤ place → place < m.end → m.waiting ≡ marked_before m place + 1 → (m.waiting - 1 ≡ 0 → ⊥) → steps ≡ trail
    → (get_or steps place d).reason ≡ Some k
    → HasReason clauses trail place k
reason_of clauses trail steps first m place d k h e marks le lt w n same_steps read =
    let r = reason_is clauses trail steps first m place d (Some k) h e marks le lt w n same_steps read in
    let same : r.0 ≡ k = let e = r.1 in cc in
    subst (HasReason clauses trail place) same r.2

-- the reason's literals are marked or false before
pub reason_stands : (clauses : List (List Lit)) (trail : List Step) (m : Marking) (p k : ℕ) (c : List Lit)
    → HasReason clauses trail p k → HasRound m p → slice_get clauses k ≡ Some c
    → All (λ l. HasMark trail m l ⊎ Stands trail p (opposite l)) c
reason_stands clauses trail m p k c read mark at =
    let x = read.step in
    let same : read.reason.clause ≡ c = let t = read.reason.at in cc in
    let others = subst (λ d. All (λ l. (l ≡ x.lit) ⊎ Stands trail p (opposite l)) d) same read.reason.others in
    λ i d lt. elim (others i d lt) [
      | inl e ↦ inl (p, x, read.at, ap (λ (l : Lit). l.atom) (sym e), mark)
      | inr s ↦ inr s
    ]

-- after the last marked step was resolved all is marked and resolved as before
pub resolved_turn : (clauses : List (List Lit)) (trail : List Step) (conflict : List Lit) (m n : Marking) (p w k : ℕ)
    (c : List Lit) → HasReason clauses trail p k → slice_get clauses k ≡ Some c
    → AllMarked trail m conflict → ResolvedFrom clauses trail m m.end
    → ((j : ℕ) → p < j → j < m.end → HasRound m j → ⊥)
    → MarksMore trail c (record m { end = p; waiting = w }) n → AllMarked trail n c
    → AllMarked trail n conflict × ResolvedFrom clauses trail n n.end
resolved_turn clauses trail conflict m n p w k c read has all r between more every = (
  all_marked_more trail (record m { end = p; waiting = w }) n conflict more.keeps all,
  subst (ResolvedFrom clauses trail n) (sym more.end)
      (resolved_next clauses trail m n p w read.step k c r between more read.at read.why has every),
)

pub reached_within : (clauses : List (List Lit)) (trail : List Step) (conflict : List Lit) (from j : ℕ)
    → Reached clauses trail conflict from j → j < length trail
reached_within clauses trail conflict from j (by_conflict _ x at there) = get_within trail j x at
reached_within clauses trail conflict from j (by_reason i y k c _ x le at why has at' there r) =
    get_within trail j x at'

-- one marked step of the present level is left
pub is_left : (t : Line) (clauses : List (List Lit)) (conflict : List Lit) (m : Marking) (p w : ℕ) → AreSteps t
    → AreMarks t.steps m → AllMarked t.steps m conflict → ResolvedFrom clauses t.steps m m.end
    → AreReached clauses t.steps conflict m m.end
    → ((q : ℕ) → m.end ≤ q → IsAlone clauses t.steps conflict m.start q → ⊥)
    → m.start ≤ p → p < m.end → HasRound m p → ((j : ℕ) → p < j → j < m.end → HasRound m j → ⊥)
    → m.waiting ≡ marked m.round (drop m.start (take p m.stamps)) + 1 → w ≡ m.waiting - 1 → w ≡ 0
    → IsLastMarked clauses t.steps conflict (record m { end = p; waiting = w }) p
is_left t clauses conflict m p w v h all res reached first low lt mark between fewer e z =
    let step = get_some t.steps p (let f = h.end in omega arith) in
    record {
      step = step.0;
      at = step.1;
      is = mark;
      low = low;
      marks = marks_down t.steps m p w h low lt (omega arith);
      end = refl;
      none = z;
      all = all;
      resolved = resolved_last clauses t.steps m p res between;
      reached = reached_last clauses t.steps conflict m p reached lt;
      first = none_past t clauses conflict m p v all res between first;
    }
