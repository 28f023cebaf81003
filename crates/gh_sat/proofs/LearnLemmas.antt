-- The clause of the first unique implication point.
use Rattle.std.proofs.Common.{◌≡◌, ◌⊎◌, ℕ, zero, suc, ◌+◌, ◌<◌, ◌≤◌, List, [], ◌∷◌, ◌++◌, length, take, map, get_or}
use Rattle.std.proofs.Common.{Option, Some, None, inl, inr, refl, sym, ap, ◌∙◌, subst, arith, All, Contains}
use Rattle.std.proofs.Common.{length-take-le}
use Rattle.std.specs.Prelude.{slice_get}
use Rattle.std.proofs.lemmas.Bool.{cases_eq, cases_lt}
use Rattle.std.proofs.lemmas.Option.{get_or_from_slice_get}
use Rattle.std.proofs.lemmas.List.Elements.{All-push, All-contains, Contains-push, Contains-append_left}
use Rattle.gh_base.specs.declared.atom.Lit.{Lit}
use Rattle.gh_base.specs.Atoms.{opposite, AreInRange, IsInRange}
use Rattle.gh_base.specs.Propagation.{Propagated, FollowsByUnits}
use Rattle.gh_base.specs.Propagation.Propagated.{given, forced}
use Rattle.gh_sat.specs.declared.trail.Step.{Step}
use Rattle.gh_sat.specs.Trail.{Line, SearchState, cut, Stands, IsTrueIn, IsFalseIn, IsReason, IsLevelStart}
use Rattle.gh_sat.specs.Trail.{IsOpenedOrForced, IsSound, IsUnitIn}
use Rattle.gh_sat.specs.Watch.{WasOpen}
use Rattle.gh_sat.specs.Learn.{Reached, Marking, HasRound, HasMark, HaveReasons, IsLastMarked, IsPoint, IsFirstPoint}
use Rattle.gh_sat.specs.Learn.{IsClauseOf, IsLearnt}
use Rattle.gh_base.proofs.ListLemmas.{get_within, get_some, take_get, get_take}
use Rattle.gh_sat.proofs.ListLemmas.{end_of_at}
use Rattle.gh_sat.proofs.TrailLemmas.{opposite_twice}
use Rattle.gh_sat.proofs.MarkLemmas.{marks_some}
use Rattle.gh_sat.proofs.ResolveLemmas.{reached_more, reached_within, complete, mark_at}

pub reason_or_start : (s : SearchState) (i : ℕ) (lit : Lit) (level : ℕ) (o : Option ℕ)
    → IsOpenedOrForced s.clauses s.trail s.starts i lit level o
    → ((k : ℕ) × (o ≡ Some k) × IsReason s.clauses s.trail i lit k) ⊎ IsLevelStart s.starts level i
reason_or_start s i lit level None h = inr h
reason_or_start s i lit level (Some k) h = inl (k, refl, h)

-- the steps after the last start have reasons
pub have_reasons : (s : SearchState) (last start : ℕ) → IsSound s → slice_get s.starts last ≡ Some start
    → length s.starts ≡ last + 1 → HaveReasons s.clauses s.trail start
have_reasons s last start h here n i x at lt = elim (reason_or_start s i x.lit x.level x.reason (h.caused i x at)) [
  | inl r ↦ r
  | inr t ↦
      let up = h.leveled i x at in
      let high = h.split i x last start at here in
      elim (cases_lt last x.level) [
        | inl above ↦
            let same : t.0 ≡ last = omega (arith, t.1) in
            let other : slice_get s.starts last ≡ Some i = subst (λ b. slice_get s.starts b ≡ Some i) same t.2 in
            let equal : start ≡ i = cc in
            absurd (omega arith)
        | inr low ↦ absurd (let b = high.0 low in omega arith)
      ]
]

-- a literal of the present level beside those of that level or below is unit after the cut
unit_after : (s : SearchState) (clause : List Lit) (level : ℕ) (u : Lit) → IsSound s → Contains clause u
    → (place : ℕ) (step : Step) → slice_get s.trail place ≡ Some step → step.lit ≡ opposite u
    → step.level ≡ length s.starts
    → All (λ l. (l ≡ u) ⊎ ((i : ℕ) × (x : Step) × (slice_get s.trail i ≡ Some x) × (x.lit ≡ opposite l)
    × (x.level ≤ level))) clause → level < length s.starts
    → IsUnitIn (cut s level).trail clause u
unit_after s clause level u h there place step at is top others lt =
    let r = get_some s.starts level lt in
    let cut_at = end_of_at s.starts level (length s.trail) r.0 r.1 in
    let b = h.starts level r.0 r.1 in
    let bw = get_within s.trail r.0 b.1 b.2 in
    let long : length (take r.0 s.trail) ≡ r.0 = length-take-le r.0 s.trail (omega arith) in
    subst (λ n. IsUnitIn (take n s.trail) clause u) (sym cut_at) (record {
      there = there;
      free = λ i x at' e.
          let old = get_take r.0 s.trail i x at' in
          let same = h.steps.apart i x place step old.1 at (e ∙ ap (λ (l : Lit). l.atom) (sym is)) in
          let low = (h.split place step level r.0 at r.1).1 in
          absurd (let lower = low (omega (arith, old.0)) in omega arith);
      others = λ i d in'. elim (others i d in') [
        | inl e ↦ inl e
        | inr o ↦
            let low = (h.split o.0 o.1 level r.0 o.2 r.1).0 o.4 in
            inr (o.0, o.1, omega arith, take_get r.0 s.trail o.0 o.1 low o.2, o.3)
      ];
    })

pub in_get : {X : Type 0} (xs : List X) (k : ℕ) (x : X) → slice_get xs k ≡ Some x → Contains xs x
in_get xs k x at = (k, get_within xs k x at, get_or_from_slice_get xs k x x at)

pub in_map : (xs : List Lit) (y l : Lit) → Contains xs y → opposite y ≡ l → Contains (map opposite xs) l
in_map [] y l h e = absurd (let k = h.1 in omega arith)
in_map (x ∷ xs) y l (zero, h, is) e = (zero, omega arith, ap opposite is ∙ e)
in_map (x ∷ xs) y l (suc k, h, is) e =
    let r = in_map xs y l (k, omega arith, is) e in (suc r.0, omega (arith, r.1), r.2)

module _ (s : SearchState) (conflict : List Lit) (m : Marking) (place last : ℕ)
    (h : IsSound s) (here : slice_get s.starts last ≡ Some m.start) (n : length s.starts ≡ last + 1)
    (p : IsLastMarked s.clauses s.trail conflict m place) where
  t : Line
  t = record { sizes = s.sizes; steps = s.trail }

  -- the steps of the present level are those from the start on
  high_level : (j : ℕ) (x : Step) → slice_get s.trail j ≡ Some x → m.start ≤ j → x.level ≡ length s.starts
  high_level j x at ge =
      let up = h.leveled j x at in
      let b = h.split j x last m.start at here in
      elim (cases_lt last x.level) [ inl above ↦ omega arith | inr low ↦ absurd (let c = b.0 low in omega arith) ]

  level_high : (j : ℕ) (x : Step) → slice_get s.trail j ≡ Some x → x.level ≡ length s.starts → m.start ≤ j
  level_high j x at e =
      let b = h.split j x last m.start at here in
      elim (cases_lt j m.start) [ inl low ↦ absurd (let c = b.1 low in omega arith) | inr ge ↦ ge ]

  reached_marked : (j : ℕ) → Reached s.clauses s.trail conflict (suc place) j → HasRound m j
  reached_marked j r =
      complete (record { sizes = s.sizes; steps = s.trail }) s.clauses conflict m (place + 1) (suc place) j h.steps
      p.all p.resolved (omega arith) r

  marked_reached : (j : ℕ) → HasRound m j → Reached s.clauses s.trail conflict (suc place) j
  marked_reached j mark =
      reached_more s.clauses s.trail conflict (place + 1) (suc place) j (omega arith) (p.reached j mark)

  pub only_place : (j : ℕ) → HasRound m j → m.start ≤ j → j ≤ place → j ≡ place
  only_place j mark ge le = elim (cases_eq j place) [
    | inl e ↦ e
    | inr ne ↦
        absurd (let e = p.end in let some = marks_some s.trail m j p.marks ge (omega arith) mark in let z = p.none in
        omega arith)
  ]

  step_level : p.step.level ≡ length s.starts
  step_level = high_level place p.step p.at p.low

  point : IsPoint s conflict place
  point = record {
    present = (p.step, p.at, step_level);
    reached = marked_reached place p.is;
    alone = λ j x r at level le. only_place j (reached_marked j r) (level_high j x at level) le;
  }

  first_point : IsFirstPoint s conflict place
  first_point = record {
    is = point;
    first = λ q lt q_is. p.first q lt (record {
      reached = q_is.reached;
      alone = λ j r ge le.
          let x = get_some s.trail j (reached_within s.clauses s.trail conflict (suc q) j r) in
          q_is.alone j x.0 r x.1 (high_level j x.0 x.1 ge) le;
    });
  }

  of_point : IsClauseOf s conflict place (m.lower ++ opposite p.step.lit ∷ [])
  of_point = record {
    only =
        All-push (λ l. (j : ℕ) × (x : Step) × (j ≤ place) × (slice_get s.trail j ≡ Some x) × (x.lit ≡ opposite l)
        × Reached s.clauses s.trail conflict (suc place) j) m.lower (opposite p.step.lit)
        (λ i d lt. let r = p.marks.lower i d lt in
        (r.0, r.1, (let a = r.2 in let b = p.low in omega arith), r.3, r.4, marked_reached r.0 r.6))
        (place, p.step, omega arith, p.at, sym (opposite_twice p.step.lit), marked_reached place p.is);
    all = λ j x le at r. elim (cases_lt j m.start) [
      | inl low ↦
          Contains-append_left m.lower (opposite p.step.lit ∷ []) (opposite x.lit)
          (p.marks.lower_all j x low at (reached_marked j r))
      | inr high ↦
          let e = only_place j (reached_marked j r) high le in
          let same : p.step ≡ x =
          let z : slice_get s.trail place ≡ Some x = subst (λ i. slice_get s.trail i ≡ Some x) e at in let u = p.at in
          cc in
          subst (λ (y : Step). Contains (m.lower ++ opposite p.step.lit ∷ []) (opposite y.lit)) same
          (Contains-push m.lower (opposite p.step.lit))
    ];
  }

  -- each marked step's literal is propagated
  implied_below : (n j : ℕ) (x : Step) → j < n → slice_get s.trail j ≡ Some x → HasRound m j
      → Propagated s.clauses (map opposite (m.lower ++ opposite p.step.lit ∷ [])) x.lit
  implied_below zero j x lt at mark = absurd (omega arith)
  implied_below (suc n) j x lt at mark = elim (cases_lt j m.start) [
    | inl low ↦
        given x.lit (in_map (m.lower ++ opposite p.step.lit ∷ []) (opposite x.lit) x.lit
        (Contains-append_left m.lower (opposite p.step.lit ∷ []) (opposite x.lit) (p.marks.lower_all j x low at mark))
        (opposite_twice x.lit))
    | inr high ↦ elim (cases_lt place j) [
      | inr le ↦
          let e = only_place j mark high le in
          let same : p.step ≡ x =
          let z : slice_get s.trail place ≡ Some x = subst (λ i. slice_get s.trail i ≡ Some x) e at in let u = p.at in
          cc in
          given x.lit (in_map (m.lower ++ opposite p.step.lit ∷ []) (opposite x.lit) x.lit
          (subst (λ (y : Step). Contains (m.lower ++ opposite p.step.lit ∷ []) (opposite y.lit)) same
          (Contains-push m.lower (opposite p.step.lit))) (opposite_twice x.lit))
      | inl past ↦
          let r = p.resolved j x (omega arith) at mark in
          let reason : IsReason s.clauses s.trail j x.lit r.0 =
          subst (λ o. IsOpenedOrForced s.clauses s.trail s.starts j x.lit x.level o) r.2 (h.caused j x at) in
          let same : reason.clause ≡ r.1 = let a = reason.at in let b = r.3 in cc in
          forced r.1 x.lit (in_get s.clauses r.0 r.1 r.3) (subst (λ c. Contains c x.lit) same reason.there)
          (λ l there ne'. elim (All-contains (λ q. (q ≡ x.lit) ⊎ Stands s.trail j (opposite q)) reason.clause l
          reason.others (subst (λ c. Contains c l) (sym same) there)) [
            | inl e ↦ absurd (ne' e)
            | inr z ↦
                let marked = All-contains (λ q. HasMark s.trail m q) r.1 l r.4 there in
                let mark' : HasRound m z.0 =
                mark_at (record { sizes = s.sizes; steps = s.trail }) m l z.0 z.1 h.steps z.3
                (ap (λ (q : Lit). q.atom) z.4) marked in
                subst (Propagated s.clauses (map opposite (m.lower ++ opposite p.step.lit ∷ []))) z.4
                (implied_below n z.0 z.1 (omega (arith, z.2)) z.3 mark')
          ])
    ]
  ]

  follows : (k : ℕ) → slice_get s.clauses k ≡ Some conflict → IsFalseIn s.trail conflict
      → FollowsByUnits s.clauses (m.lower ++ opposite p.step.lit ∷ [])
  follows k at f = inr (
    conflict,
    in_get s.clauses k conflict at,
    λ i d lt.
        let z = f i d lt in
        let mark : HasRound m z.0 =
        mark_at (record { sizes = s.sizes; steps = s.trail }) m (get_or conflict i d) z.0 z.1 h.steps z.3
        (ap (λ (q : Lit). q.atom) z.4) (p.all i d lt) in
        subst (Propagated s.clauses (map opposite (m.lower ++ opposite p.step.lit ∷ []))) z.4
        (implied_below (suc z.0) z.0 z.1 (omega arith) z.3 mark),
  )

  pub learnt : (k : ℕ) → slice_get s.clauses k ≡ Some conflict → IsFalseIn s.trail conflict
      → IsLearnt s k (m.lower ++ opposite p.step.lit ∷ []) m.level (opposite p.step.lit)
  learnt k at f =
      let u = opposite p.step.lit in
      let others : All (λ l. (l ≡ u)
      ⊎ ((i : ℕ) × (x : Step) × (slice_get s.trail i ≡ Some x) × (x.lit ≡ opposite l) × (x.level ≤ m.level)))
      (m.lower ++ u ∷ []) =
      All-push (λ l. (l ≡ u) ⊎ ((i : ℕ) × (x : Step) × (slice_get s.trail i ≡ Some x) × (x.lit ≡ opposite l)
      × (x.level ≤ m.level))) m.lower u
      (λ i d lt. let r = p.marks.lower i d lt in inr (r.0, r.1, r.3, r.4, r.5)) (inl refl) in
      let lower : m.level < length s.starts = elim p.marks.greatest [
        | inl e ↦ omega arith
        | inr g ↦ let b = (h.split g.0 g.1 last m.start g.3 here).1 g.2 in omega (arith, g.5)
      ] in
      record {
        conflict = conflict;
        at = at;
        place = place;
        point = first_point;
        of_point = of_point;
        follows = follows k at f;
        is_false = All-push (λ l. IsTrueIn s.trail (opposite l)) m.lower u
            (λ i d lt. let r = p.marks.lower i d lt in (r.0, r.1, get_within s.trail r.0 r.1 r.3, r.3, r.4))
            (place, p.step, get_within s.trail place p.step p.at, p.at, sym (opposite_twice p.step.lit));
        there = Contains-push m.lower u;
        present = (p.step, p.at, sym (opposite_twice p.step.lit), step_level);
        others = others;
        lower = lower;
        least = elim p.marks.greatest [
          | inl e ↦ inl e
          | inr g ↦ inr (g.0, g.1, g.3, Contains-append_left m.lower (u ∷ []) (opposite g.1.lit) g.4, g.5)
        ];
        unit_then = unit_after s (m.lower ++ u ∷ []) m.level u h (Contains-push m.lower u) place p.step p.at
            (sym (opposite_twice p.step.lit)) step_level others lower;
      }

-- a clause with a literal of the present level wasn't false when a level was opened
pub was_open : (s : SearchState) (c : List Lit) (u : Lit) (place : ℕ) (x : Step) → IsSound s → Contains c u
    → slice_get s.trail place ≡ Some x → x.lit ≡ opposite u → x.level ≡ length s.starts → WasOpen s.trail s.starts c
was_open s c u place x h there at is top level start here f =
    let z = All-contains (λ l. IsTrueIn (take start s.trail) (opposite l)) c u f there in
    let old = get_take start s.trail z.0 z.1 z.3 in
    let same = h.steps.apart z.0 z.1 place x old.1 at
    (ap (λ (l : Lit). l.atom) z.4 ∙ sym (ap (λ (l : Lit). l.atom) is)) in
    let low = (h.split place x level start at here).1 (omega (arith, old.0)) in
    let w = get_within s.starts level start here in
    omega arith

-- what is false on a trail is in range
pub false_in_range : (s : SearchState) (c : List Lit) → IsSound s → IsFalseIn s.trail c → AreInRange s.sizes c
false_in_range s c h f i d lt =
    let z = f i d lt in subst (λ (l : Lit). IsInRange s.sizes l.atom) z.4 (h.steps.range z.0 z.1 z.3)
