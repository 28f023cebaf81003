-- What holds of a search, as it moves.
use Rattle.std.proofs.Common.{◌≡◌, ◌⊎◌, ℕ, zero, suc, ◌+◌, ◌-◌, ◌<◌, ◌≤◌, List, [], ◌∷◌, ◌++◌, length, take, Option}
use Rattle.std.proofs.Common.{Some, None, inl, inr, refl, sym, ap, ◌∙◌, subst, arith, Contains, length-take-le}
use Rattle.std.proofs.Common.{take_all, append_assoc, length-append}
use Rattle.std.specs.Prelude.{slice_get}
use Rattle.std.proofs.lemmas.Bool.{cases_lt}
use Rattle.std.proofs.lemmas.List.{length_push, take-append-le}
use Rattle.std.proofs.lemmas.List.Elements.{All-push, All-contains}
use Rattle.gh_base.specs.declared.atom.Lit.{Lit}
use Rattle.gh_base.specs.declared.sizes.Sizes.{Sizes}
use Rattle.gh_base.specs.Atoms.{opposite, AreInRange}
use Rattle.gh_sat.specs.declared.trail.Step.{Step}
use Rattle.gh_sat.specs.Trail.{SearchState, Stands, IsTrueIn, IsFalseIn, IsLevelStart, IsOpenedOrForced, AreSteps}
use Rattle.gh_sat.specs.Trail.{IsSound, cut, end_of, open_level, most_clauses}
use Rattle.gh_sat.specs.Status.{IsFalseOrUnit, IsGuarded, IsSettled, IsForced, AreForced, Grows}
use Rattle.gh_sat.specs.Watch.{AreGuarded, ListsMore, WasOpen, clauses_of, code_of}
use Rattle.gh_sat.specs.Learn.{IsTop, IsConflictAt, add_clause}
use Rattle.gh_sat.specs.Whole.{IsUnderWay}
use Rattle.gh_base.proofs.ListLemmas.{get_within, get_front, get_push, get_last, get_take, take_get, get_some}
use Rattle.gh_sat.proofs.ListLemmas.{end_of_at, end_of_past, le_le}
use Rattle.gh_sat.proofs.TrailLemmas.{stands_push, stands_take}
use Rattle.gh_sat.proofs.WatchLemmas.{get_front_back, guarded_grown, append_nil, any_or_all}

long_front : {X : Type 0} (xs ys : List X) → length xs ≤ length (xs ++ ys)
long_front xs ys = omega (arith, length-append xs ys)

long_take : {X : Type 0} (n : ℕ) (xs : List X) → length (take n xs) ≤ length xs
long_take zero xs = omega arith
long_take (suc n) [] = omega arith
long_take (suc n) (x ∷ xs) = omega (arith, long_take n xs)

pub take_whole : {X : Type 0} (xs : List X) → take (length xs) xs ≡ xs
take_whole [] = refl
take_whole (x ∷ xs) = ap (λ ys. x ∷ ys) (take_whole xs)

pub take_take : {X : Type 0} (m n : ℕ) (xs : List X) → m ≤ n → take m (take n xs) ≡ take m xs
take_take zero n xs h = refl
take_take (suc m) zero xs h = absurd (omega arith)
take_take (suc m) (suc n) [] h = refl
take_take (suc m) (suc n) (x ∷ xs) h = ap (λ ys. x ∷ ys) (take_take m n xs (omega arith))

-- each literal is false before a place, or one became false from there on
before_or_after : (trail : List Step) (n : ℕ) (c : List Lit) → IsFalseIn trail c
    → IsFalseIn (take n trail) c ⊎ ((l : Lit) × Contains c l × (i : ℕ) × (x : Step) × (n ≤ i)
    × (slice_get trail i ≡ Some x) × (x.lit ≡ opposite l))
before_or_after trail n c f =
    elim (any_or_all (λ l. IsTrueIn (take n trail) (opposite l))
    (λ l. (i : ℕ) × (x : Step) × (n ≤ i) × (slice_get trail i ≡ Some x) × (x.lit ≡ opposite l)) c
    (λ k d lt. let s = f k d lt in elim (cases_lt s.0 n) [
      | inl low ↦
          let at = take_get n trail s.0 s.1 low s.3 in inl (s.0, s.1, get_within (take n trail) s.0 s.1 at, at, s.4)
      | inr high ↦ inr (s.0, s.1, high, s.3, s.4)
    ])) [
      | inl w ↦ let l = w.2 in inr (w.0, w.1, l.0, l.1, l.2, l.3, l.4)
      | inr all ↦ inl all
    ]

pub present_of : (s : SearchState) (c : List Lit) → IsSound s → IsFalseIn s.trail c → WasOpen s.trail s.starts c
    → 0 < length s.starts
    → (l : Lit) × Contains c l × (i : ℕ) × (x : Step) × (slice_get s.trail i ≡ Some x) × (x.lit ≡ opposite l)
    × (x.level ≡ length s.starts)
present_of s c h f was pos =
    let last : ℕ = length s.starts - 1 in
    let start = get_some s.starts last (omega arith) in
    elim (before_or_after s.trail start.0 c f) [
      | inl low ↦ absurd (was last start.0 start.1 low)
      | inr w ↦
          let up = h.leveled w.2 w.3 w.5 in
          let split = h.split w.2 w.3 last start.0 w.5 start.1 in
          let ge = w.4 in (
            w.0,
            w.1,
            w.2,
            w.3,
            w.5,
            w.6,
            elim (cases_lt last w.3.level)
                [ inl above ↦ omega arith | inr below ↦ absurd (let b = split.0 below in omega arith) ],
          )
    ]

-- a front of the steps
pub steps_front : (s : Sizes) (xs ys : List Step) → AreSteps (record { sizes = s; steps = xs ++ ys })
    → AreSteps (record { sizes = s; steps = xs })
steps_front s xs ys h = record {
  range = λ i x at. h.range i x (get_front xs ys i x at);
  apart = λ i x j y at at' e. h.apart i x j y (get_front xs ys i x at) (get_front xs ys j y at') e;
  few = let f = h.few in le_le (long_front xs ys) f;
  small = h.small;
}

pub steps_take : (s : Sizes) (xs : List Step) (n : ℕ) → AreSteps (record { sizes = s; steps = xs })
    → AreSteps (record { sizes = s; steps = take n xs })
steps_take s xs n h = record {
  range = λ i x at. h.range i x (get_take n xs i x at).1;
  apart = λ i x j y at at' e. h.apart i x j y (get_take n xs i x at).1 (get_take n xs j y at').1 e;
  few = le_le (long_take n xs) h.few;
  small = h.small;
}

-- a cause stays one on a trail that has what stands before it
pub caused_along : (clauses : List (List Lit)) (old new : List Step) (starts starts' : List ℕ) (i : ℕ) (lit : Lit)
    (level : ℕ) (reason : Option ℕ)
    → ((l : Lit) → Stands old i l → Stands new i l) → (IsLevelStart starts level i → IsLevelStart starts' level i)
    → IsOpenedOrForced clauses old starts i lit level reason → IsOpenedOrForced clauses new starts' i lit level reason
caused_along clauses old new starts starts' i lit level None f g h = g h
caused_along clauses old new starts starts' i lit level (Some k) f g h = record {
  clause = h.clause;
  at = h.at;
  there = h.there;
  others = λ j d lt. elim (h.others j d lt) [ inl e ↦ inl e | inr s ↦ inr (f _ s) ];
}

-- what is forced has its reason
caused_forced : (clauses : List (List Lit)) (trail : List Step) (starts : List ℕ) (x : Step)
    → IsForced clauses (length starts) trail x
    → IsOpenedOrForced clauses trail starts (length trail) x.lit x.level x.reason
caused_forced clauses trail starts x f =
    subst (λ r. IsOpenedOrForced clauses trail starts (length trail) x.lit x.level r) (sym f.reason)
    (record { clause = f.clause; at = f.at; there = f.unit.there; others = f.unit.others })

pub sound_push : (s : SearchState) (y : Step) → IsSound s → IsForced s.clauses (length s.starts) s.trail y
    → AreSteps (record { sizes = s.sizes; steps = s.trail ++ y ∷ [] })
    → IsSound (record s { trail = s.trail ++ y ∷ [] })
sound_push s y h f valid = record {
  in_range = h.in_range;
  steps = valid;
  caused = λ i x at. elim (get_push s.trail y i x at) [
    | inl old ↦
        caused_along s.clauses s.trail (s.trail ++ y ∷ []) s.starts s.starts i x.lit x.level x.reason
        (stands_push s.trail y i) (λ b. b) (h.caused i x old)
    | inr new ↦ subst (λ z. IsOpenedOrForced s.clauses (s.trail ++ y ∷ []) s.starts i z.lit z.level z.reason) new.1
        (caused_along s.clauses s.trail (s.trail ++ y ∷ []) s.starts s.starts i y.lit y.level y.reason
        (stands_push s.trail y i) (λ b. b)
        (subst (λ j. IsOpenedOrForced s.clauses s.trail s.starts j y.lit y.level y.reason) (sym new.0)
        (caused_forced s.clauses s.trail s.starts y f)))
  ];
  leveled = λ i x at. elim (get_push s.trail y i x at) [
    | inl old ↦ h.leveled i x old
    | inr new ↦ subst (λ z. z.level ≤ length s.starts) new.1 (let l = f.level in omega arith)
  ];
  split = λ i x level start at at'. elim (get_push s.trail y i x at) [
    | inl old ↦ h.split i x level start old at'
    | inr new ↦
        let e : x.level ≡ length s.starts = ap (λ z. z.level) (sym new.1) ∙ f.level in
        let lt = get_within s.starts level start at' in
        let b = h.starts level start at' in
        let bw = get_within s.trail start b.1 b.2 in
        (λ low. absurd (omega arith), λ low. absurd (omega (arith, new.0)))
  ];
  few = omega (arith, h.few, length_push s.trail y);
  starts = λ level start at. let b = h.starts level start at in
      (b.0, b.1, get_front s.trail (y ∷ []) start b.1 b.2, b.3);
}

-- along what propagation adds
pub sound_grow : (s : SearchState) (added : List Step) → IsSound s → AreForced s.clauses (length s.starts) s.trail added
    → AreSteps (record { sizes = s.sizes; steps = s.trail ++ added })
    → IsSound (record s { trail = s.trail ++ added })
sound_grow s [] h f valid = subst (λ t. IsSound (record s { trail = t })) (sym (append_nil s.trail)) h
sound_grow s (x ∷ xs) h f valid =
    let whole : s.trail ++ x ∷ xs ≡ (s.trail ++ x ∷ []) ++ xs = sym (append_assoc s.trail (x ∷ []) xs) in
    let valid' : AreSteps (record { sizes = s.sizes; steps = (s.trail ++ x ∷ []) ++ xs }) =
    subst (λ (t : List Step). AreSteps (record { sizes = s.sizes; steps = t })) whole valid in
    subst (λ t. IsSound (record s { trail = t })) (sym whole)
    (sound_grow (record s { trail = s.trail ++ x ∷ [] }) xs
    (sound_push s x h f.0 (steps_front s.sizes (s.trail ++ x ∷ []) xs valid')) f.1 valid')

pub sound_open : (s : SearchState) (lit : Lit) → IsSound s
    → AreSteps (record { sizes = s.sizes; steps = (open_level s lit).trail }) → IsSound (open_level s lit)
sound_open s lit h valid =
    let y : Step = record { lit = lit; level = length s.starts + 1; reason = None } in
    record {
      in_range = h.in_range;
      steps = valid;
      caused = λ i x at. elim (get_push s.trail y i x at) [
        | inl old ↦
            caused_along s.clauses s.trail (s.trail ++ y ∷ []) s.starts (s.starts ++ length s.trail ∷ []) i x.lit
            x.level x.reason (stands_push s.trail y i)
            (λ b. (b.0, b.1, get_front s.starts (length s.trail ∷ []) b.0 i b.2)) (h.caused i x old)
        | inr new ↦
            subst (λ z. IsOpenedOrForced s.clauses (s.trail ++ y ∷ []) (s.starts ++ length s.trail ∷ []) i z.lit z.level
            z.reason) new.1
            (length s.starts, omega arith, get_last s.starts (length s.trail) ∙ ap Some (sym new.0))
      ];
      leveled = λ i x at. elim (get_push s.trail y i x at) [
        | inl old ↦ let b = h.leveled i x old in omega (arith, length_push s.starts (length s.trail))
        | inr new ↦
            subst (λ z. z.level ≤ length (s.starts ++ length s.trail ∷ [])) new.1
            (omega (arith, length_push s.starts (length s.trail)))
      ];
      split = λ i x level start at at'. elim (get_push s.trail y i x at) [
        | inl old ↦ elim (get_push s.starts (length s.trail) level start at') [
          | inl low ↦ h.split i x level start old low
          | inr top ↦
              let b = h.leveled i x old in let w = get_within s.trail i x old in
              (λ _. omega (arith, top), λ _. omega (arith, top))
        ]
        | inr new ↦
            let e : x.level ≡ length s.starts + 1 = ap (λ z. z.level) (sym new.1) in
            elim (get_push s.starts (length s.trail) level start at') [
              | inl low ↦
                  let w = get_within s.starts level start low in let b = h.starts level start low in
                  let bw = get_within s.trail start b.1 b.2 in
                  (λ q. absurd (omega arith), λ q. absurd (omega (arith, new.0)))
              | inr top ↦ (λ q. absurd (omega (arith, top)), λ q. absurd (omega (arith, top, new.0)))
            ]
      ];
      few = omega (arith, h.few, length_push s.trail y, length_push s.starts (length s.trail));
      starts = λ level start at. elim (get_push s.starts (length s.trail) level start at) [
        | inl low ↦ let b = h.starts level start low in (b.0, b.1, get_front s.trail (y ∷ []) start b.1 b.2, b.3)
        | inr top ↦ (
          omega (arith, top, h.few),
          y,
          subst (λ i. slice_get (s.trail ++ y ∷ []) i ≡ Some y) top.1 (get_last s.trail y),
          omega (arith, top),
        )
      ];
    }

pub sound_cut : (s : SearchState) (level start : ℕ) → IsSound s → slice_get s.starts level ≡ Some start
    → IsSound (record s { trail = take start s.trail; starts = take level s.starts })
sound_cut s level start h here =
    let b = h.starts level start here in
    let bw = get_within s.trail start b.1 b.2 in
    let w = get_within s.starts level start here in
    let long : length (take start s.trail) ≡ start = length-take-le start s.trail (omega arith) in
    let wide : length (take level s.starts) ≡ level = length-take-le level s.starts (omega arith) in
    record {
      in_range = h.in_range;
      steps = steps_take s.sizes s.trail start h.steps;
      caused = λ i x at.
          let old = get_take start s.trail i x at in
          caused_along s.clauses s.trail (take start s.trail) s.starts (take level s.starts) i x.lit x.level x.reason
          (λ l t. stands_take s.trail i start l (omega (arith, old)) t)
          (λ (t : IsLevelStart s.starts x.level i). let low = (h.split i x level start old.1 here).1 old.0 in
          let lt : t.0 < level = omega (arith, t.1) in (t.0, t.1, take_get level s.starts t.0 i lt t.2))
          (h.caused i x old.1);
      leveled = λ i x at. let old = get_take start s.trail i x at in
          let low = (h.split i x level start old.1 here).1 old.0 in omega arith;
      split = λ i x level' start' at at'. h.split i x level' start' (get_take start s.trail i x at).1
          (get_take level s.starts level' start' at').1;
      few = omega arith;
      starts = λ level' start' at.
          let low = get_take level s.starts level' start' at in
          let c = h.starts level' start' low.1 in
          let below = (h.split start' c.1 level start c.2 here).0 (omega (arith, c.3, low.0)) in
          (c.0, c.1, take_get start s.trail start' c.1 below c.2, c.3);
    }

caused_add : (clauses : List (List Lit)) (c : List Lit) (trail : List Step) (starts : List ℕ) (i : ℕ) (lit : Lit)
    (level : ℕ) (reason : Option ℕ)
    → IsOpenedOrForced clauses trail starts i lit level reason
    → IsOpenedOrForced (clauses ++ c ∷ []) trail starts i lit level reason
caused_add clauses c trail starts i lit level None h = h
caused_add clauses c trail starts i lit level (Some k) h = record {
  clause = h.clause;
  at = get_front clauses (c ∷ []) k h.clause h.at;
  there = h.there;
  others = h.others;
}

pub sound_add : (s : SearchState) (c : List Lit) → IsSound s → AreInRange s.sizes c → IsSound (add_clause s c)
sound_add s c h range = record {
  in_range = All-push (AreInRange s.sizes) s.clauses c h.in_range range;
  steps = h.steps;
  caused = λ i x at. caused_add s.clauses c s.trail s.starts i x.lit x.level x.reason (h.caused i x at);
  leveled = h.leveled;
  split = h.split;
  few = h.few;
  starts = h.starts;
}

-- the front of a longer trail up to a start
take_same : (s : SearchState) (added : List Step) (level start : ℕ) → IsSound s → slice_get s.starts level ≡ Some start
    → take start (s.trail ++ added) ≡ take start s.trail
take_same s added level start h here =
    let b = h.starts level start here in
    let w = get_within s.trail start b.1 b.2 in
    take-append-le start s.trail added (omega arith)

pub whole_grow : (s : SearchState) (counts : List ℕ) (looked head looked' head' : ℕ) (lists : List (List ℕ))
    (new : List Step) → IsUnderWay s counts looked head lists → Grows s.clauses (length s.starts) s.trail new
    → AreSteps (record { sizes = s.sizes; steps = new }) → looked' ≤ length s.clauses → head' ≤ length new
    → AreGuarded s.clauses new head' looked' → IsUnderWay (record s { trail = new }) counts looked' head' lists
whole_grow s counts looked head looked' head' lists new h g valid within before w =
    let added = g.0 in
    let valid' : AreSteps (record { sizes = s.sizes; steps = s.trail ++ added }) =
    subst (λ (t : List Step). AreSteps (record { sizes = s.sizes; steps = t })) g.1 valid in
    let same : (level start : ℕ) → slice_get s.starts level ≡ Some start → take start new ≡ take start s.trail =
    λ level start at. ap (take start) g.1 ∙ take_same s added level start h.sound at in
    record {
      sound = subst (λ t. IsSound (record s { trail = t })) (sym g.1) (sound_grow s added h.sound g.2 valid');
      guarded = w;
      were_guarded = λ level start count k c at at' lt has. subst (λ t. IsGuarded t t c) (sym (same level start at))
          (h.were_guarded level start count k c at at' lt has);
      were_open = λ k c has level start at f. h.were_open k c has level start at
          (subst (λ t. IsFalseIn t c) (same level start at) f);
      listed = h.listed;
      long = h.long;
      within = within;
      before = before;
      counted = h.counted;
      below = h.below;
      room = h.room;
    }

pub whole_open : (s : SearchState) (counts : List ℕ) (looked head n : ℕ) (lists : List (List ℕ))
    (lit : Lit) → IsUnderWay s counts looked head lists → IsSettled s
    → (n ≡ 0) ⊎ ((n ≡ looked) × (head ≡ length s.trail))
    → AreSteps (record { sizes = s.sizes; steps = (open_level s lit).trail })
    → IsUnderWay (open_level s lit) (counts ++ n ∷ []) looked head lists
whole_open s counts looked head n lists lit h calm few valid =
    let y : Step = record { lit = lit; level = length s.starts + 1; reason = None } in
    let front : take (length s.trail) (s.trail ++ y ∷ []) ≡ s.trail =
    take-append-le (length s.trail) s.trail (y ∷ []) (omega arith) ∙ take_whole s.trail in
    let below : n ≤ looked = elim few [ inl z ↦ omega (arith, z) | inr e ↦ omega (arith, e.0) ] in
    record {
      sound = sound_open s lit h.sound valid;
      guarded = λ k c lt has.
          subst (λ known. IsGuarded (s.trail ++ y ∷ []) known c)
          (sym (take-append-le head s.trail (y ∷ []) h.before))
          (guarded_grown s.trail (y ∷ []) (take head s.trail) c (h.guarded k c lt has));
      were_guarded = λ level start count k c at at' lt has.
          elim (get_push s.starts (length s.trail) level start at) [
            | inl low ↦ elim (get_push counts n level count at') [
              | inl low' ↦
                  subst (λ t. IsGuarded t t c) (sym (take_same s (y ∷ []) level start h.sound low))
                  (h.were_guarded level start count k c low low' lt has)
              | inr top' ↦ absurd (let w = get_within s.starts level start low in omega (arith, top', h.counted))
            ]
            | inr top ↦ elim (get_push counts n level count at') [
              | inl low' ↦ absurd (let w = get_within counts level count low' in omega (arith, top, h.counted))
              | inr top' ↦ elim few [
                | inl z ↦ absurd (omega (arith, top', z, lt))
                | inr e ↦
                    let all : take head s.trail ≡ s.trail = take_all head s.trail (omega (arith, e.1)) in
                    let here : IsGuarded s.trail s.trail c =
                    subst (λ known. IsGuarded s.trail known c) all
                    (h.guarded k c (omega (arith, lt, top', e.0)) has) in
                    subst (λ t. IsGuarded t t c)
                    (sym (ap (λ i. take i (s.trail ++ y ∷ [])) (sym top.1) ∙ front))
                    here
              ]
            ]
          ];
      were_open = λ k c has level start at f. elim (get_push s.starts (length s.trail) level start at) [
        | inl low ↦
            h.were_open k c has level start low
            (subst (λ t. IsFalseIn t c) (take_same s (y ∷ []) level start h.sound low) f)
        | inr top ↦
            calm.no_false k c has (subst (λ t. IsFalseIn t c) (ap (λ n. take n (s.trail ++ y ∷ [])) (sym top.1) ∙ front)
            f)
      ];
      listed = h.listed;
      long = h.long;
      within = h.within;
      before = let b = h.before in omega (arith, length_push s.trail y);
      counted = omega (arith, h.counted, length_push counts n, length_push s.starts (length s.trail));
      below = λ level count at. elim (get_push counts n level count at) [
        | inl low ↦ h.below level count low
        | inr top ↦ omega (arith, top.1, below, h.within)
      ];
      room = h.room;
    }

pub whole_cut : (s : SearchState) (counts : List ℕ) (looked head : ℕ) (lists : List (List ℕ))
    (level start count : ℕ) → IsUnderWay s counts looked head lists → slice_get s.starts level ≡ Some start
    → slice_get counts level ≡ Some count
    → IsUnderWay (record s { trail = take start s.trail; starts = take level s.starts }) (take level counts) count start
    lists
whole_cut s counts looked head lists level start count h here here' =
    let b = h.sound.starts level start here in
    let bw = get_within s.trail start b.1 b.2 in
    let w = get_within s.starts level start here in
    let w' = get_within counts level count here' in
    let earlier : (level' start' : ℕ) → slice_get (take level s.starts) level' ≡ Some start'
    → (slice_get s.starts level' ≡ Some start')
    × (take start' (take start s.trail) ≡ take start' s.trail) = λ level' start' at.
    let low = get_take level s.starts level' start' at in
    let c = h.sound.starts level' start' low.1 in
    let below = (h.sound.split start' c.1 level start c.2 here).0 (omega (arith, c.3, low.0)) in
    (low.1, take_take start' start s.trail (omega arith)) in
    record {
      sound = sound_cut s level start h.sound here;
      guarded = λ k c lt at. subst (λ known. IsGuarded (take start s.trail) known c)
          (sym (take_take start start s.trail (omega arith)))
          (h.were_guarded level start count k c here here' lt at);
      were_guarded = λ level' start' count' k c at at' lt has.
          let e = earlier level' start' at in
          subst (λ t. IsGuarded t t c) (sym e.1)
          (h.were_guarded level' start' count' k c e.0 (get_take level counts level' count' at').1 lt has);
      were_open = λ k c has level' start' at f. let e = earlier level' start' at in
          h.were_open k c has level' start' e.0 (subst (λ t. IsFalseIn t c) e.1 f);
      listed = h.listed;
      long = h.long;
      within = h.below level count here';
      before = omega (arith, length-take-le start s.trail (omega arith));
      counted = omega (arith, length-take-le level s.starts (omega arith), length-take-le level counts (omega arith));
      below = λ level' count' at. h.below level' count' (get_take level counts level' count' at).1;
      room = h.room;
    }

pub whole_lists : (s : SearchState) (counts : List ℕ) (looked head : ℕ) (lists lists' : List (List ℕ))
    → IsUnderWay s counts looked head lists → ListsMore lists lists' → IsUnderWay s counts looked head lists'
whole_lists s counts looked head lists lists' h more = record {
  sound = h.sound;
  guarded = h.guarded;
  were_guarded = h.were_guarded;
  were_open = h.were_open;
  listed = λ k c m at there. more.keeps (code_of s.sizes m) k (h.listed k c m at there);
  long = more.long ∙ h.long;
  within = h.within;
  before = h.before;
  counted = h.counted;
  below = h.below;
  room = h.room;
}

pub whole_add : (s : SearchState) (counts : List ℕ) (looked head : ℕ) (lists : List (List ℕ))
    (c : List Lit) → IsUnderWay s counts looked head lists → AreInRange s.sizes c → WasOpen s.trail s.starts c
    → ((m : Lit) → Contains c m → Contains (clauses_of s.sizes lists m) (length s.clauses))
    → length s.clauses < most_clauses → IsUnderWay (add_clause s c) counts looked head lists
whole_add s counts looked head lists c h range was listed few =
    let old : (k : ℕ) (d : List Lit) → k < length s.clauses → slice_get (s.clauses ++ c ∷ []) k ≡ Some d
    → slice_get s.clauses k ≡ Some d = λ k d lt at. get_front_back s.clauses (c ∷ []) k d lt at in
    record {
      sound = sound_add s c h.sound range;
      guarded = λ k d lt at. let w = h.within in h.guarded k d lt (old k d (omega (arith, lt, w)) at);
      were_guarded = λ level start count k d at at' lt has. let w = h.below level count at' in
          h.were_guarded level start count k d at at' lt (old k d (omega (arith, lt, w)) has);
      were_open = λ k d has. elim (get_push s.clauses c k d has) [
        | inl o ↦ h.were_open k d o
        | inr n ↦ subst (λ z. WasOpen s.trail s.starts z) n.1 was
      ];
      listed = λ k d m has there. elim (get_push s.clauses c k d has) [
        | inl o ↦ h.listed k d m o there
        | inr n ↦
            subst (λ j. Contains (clauses_of s.sizes lists m) j) (sym n.0)
            (listed m (subst (λ z. Contains z m) (sym n.1) there))
      ];
      long = h.long;
      within = let w = h.within in omega (arith, length_push s.clauses c);
      before = h.before;
      counted = h.counted;
      below = λ level count at. let w = h.below level count at in omega (arith, length_push s.clauses c);
      room = omega (arith, length_push s.clauses c);
    }

-- a false clause has a literal of the present level, where it wasn't false when that was opened
pub conflict_of : (s : SearchState) (counts : List ℕ) (looked head : ℕ) (lists : List (List ℕ))
    (k : ℕ) (c : List Lit) → IsUnderWay s counts looked head lists → slice_get s.clauses k ≡ Some c
    → IsFalseIn s.trail c → IsConflictAt s k
conflict_of s counts looked head lists k c h at f = record {
  clause = c;
  at = at;
  is_false = f;
  present = λ pos. present_of s c h.sound f (h.were_open k c at) pos;
}

pub settled_from : (s : SearchState)
    → ((k : ℕ) (c : List Lit) → slice_get s.clauses k ≡ Some c → IsFalseOrUnit s.trail c → ⊥)
    → IsSettled s
settled_from s h = record { no_false = λ k c at f. h k c at (inl f); no_unit = λ k c u at i. h k c at (inr (u, i)) }

-- what a cut leaves, as the code makes it
pub cut_whole : (s : SearchState) (z : Sizes) (trail : List Step) (starts counts counts' : List ℕ)
    (looked head count start level : ℕ) (lists : List (List ℕ)) → IsUnderWay s counts looked head lists
    → slice_get s.starts level ≡ Some start → slice_get counts level ≡ Some count → z ≡ s.sizes
    → trail ≡ take start s.trail → starts ≡ take level s.starts → counts' ≡ take level counts
    → IsUnderWay (record { sizes = z; clauses = s.clauses; trail = trail; starts = starts }) counts' count start lists
cut_whole s z trail starts counts counts' looked head count start level lists h here here' e1 e2 e3 e4 =
    subst (λ (w : Sizes). IsUnderWay (record { sizes = w; clauses = s.clauses; trail = trail; starts = starts }) counts'
    count start lists) (sym e1)
    (subst (λ (t : List Step). IsUnderWay (record s { trail = t; starts = starts }) counts' count start lists)
    (sym e2)
    (subst (λ (t : List ℕ). IsUnderWay (record s { trail = take start s.trail; starts = t }) counts' count start lists)
    (sym e3)
    (subst (λ (t : List ℕ). IsUnderWay (record s { trail = take start s.trail; starts = take level s.starts }) t count
    start lists) (sym e4)
    (whole_cut s counts looked head lists level start count h here here'))))

-- and it is the cut
pub cut_is : (s : SearchState) (z : Sizes) (clauses : List (List Lit)) (trail : List Step) (starts : List ℕ)
    (start level : ℕ) → slice_get s.starts level ≡ Some start → z ≡ s.sizes → trail ≡ take start s.trail
    → starts ≡ take level s.starts
    → (let t : SearchState = record { sizes = z; clauses = clauses; trail = trail; starts = starts } in t)
    ≡ record (cut s level) { clauses = clauses }
cut_is s z clauses trail starts start level here e1 e2 e3 =
    let trail_is : trail ≡ take (end_of s.starts level (length s.trail)) s.trail =
    e2 ∙ ap (λ n. take n s.trail) (sym (end_of_at s.starts level (length s.trail) start here)) in
    λ i. record { sizes = e1 i; clauses = clauses; trail = trail_is i; starts = e3 i }

-- a cut to the present level changes nothing
pub cut_none : (s : SearchState) (level : ℕ) → length s.starts ≤ level → s ≡ cut s level
cut_none s level long =
    let whole : s.trail ≡ take (end_of s.starts level (length s.trail)) s.trail =
    sym (take_all (end_of s.starts level (length s.trail)) s.trail
    (let e = end_of_past s.starts level (length s.trail) long in omega arith)) in
    let all : s.starts ≡ take level s.starts = sym (take_all level s.starts long) in
    λ i. record { sizes = s.sizes; clauses = s.clauses; trail = whole i; starts = all i }

false_longer : (trail : List Step) (n : ℕ) (c : List Lit) → IsFalseIn (take n trail) c → IsFalseIn trail c
false_longer trail n c f k d lt =
    let s = f k d lt in let o = get_take n trail s.0 s.1 s.3 in (s.0, s.1, get_within trail s.0 s.1 o.1, o.1, s.4)

pub open_unless : (trail : List Step) (starts : List ℕ) (c : List Lit) → (IsFalseIn trail c → ⊥)
    → WasOpen trail starts c
open_unless trail starts c n level start at f = n (false_longer trail start c f)

-- a clause with this greatest level wasn't false when a level up to it was opened
pub open_top : (s : SearchState) (c : List Lit) (top : ℕ) → IsSound s → IsTop s.trail c top → (level start : ℕ)
    → slice_get s.starts level ≡ Some start → level < top → IsFalseIn (take start s.trail) c → ⊥
open_top s c top h t level start here lt f = elim t.some [
  | inl z ↦ omega arith
  | inr g ↦
      let z = All-contains (λ l. IsTrueIn (take start s.trail) (opposite l)) c g.0 f g.1 in
      let old = get_take start s.trail z.0 z.1 z.3 in
      let same = h.steps.apart z.0 z.1 g.2 g.3 old.1 g.4
      (ap (λ (l : Lit). l.atom) z.4 ∙ sym (ap (λ (l : Lit). l.atom) g.5)) in
      let low = (h.split g.2 g.3 level start g.4 here).1 (omega (arith, old.0)) in
      let e = g.6 in omega arith
]

-- nor after the cut to it
pub open_cut : (s : SearchState) (c : List Lit) (top start : ℕ) → IsSound s → IsTop s.trail c top
    → slice_get s.starts top ≡ Some start → WasOpen (take start s.trail) (take top s.starts) c
open_cut s c top start h t here level start' at f =
    let low = get_take top s.starts level start' at in
    let b = h.starts level start' low.1 in
    let below = (h.split start' b.1 top start b.2 here).0 (omega (arith, b.3, low.0)) in
    open_top s c top h t level start' low.1 low.0
    (subst (λ x. IsFalseIn x c) (take_take start' start s.trail (omega arith)) f)

pub open_whole : (s : SearchState) (c : List Lit) (top : ℕ) → IsSound s → IsTop s.trail c top → length s.starts ≤ top
    → WasOpen s.trail s.starts c
open_whole s c top h t long level start at f =
    let w = get_within s.starts level start at in open_top s c top h t level start at (omega arith) f

-- a false clause is added, and the trail cut to its greatest level, as the code makes it
-- a false clause wasn't false when the greatest level of its literals or a lower one was opened
pub open_under : (s : SearchState) (c : List Lit) (top : ℕ) → IsSound s → IsTop s.trail c top
    → WasOpen (cut s top).trail (cut s top).starts c
open_under s c top h t =
    elim (cases_lt top (length s.starts)) as (λ _. WasOpen (cut s top).trail (cut s top).starts c) [
      | inl lt ↦
          let w = get_some s.starts top lt in
          subst (λ n. WasOpen (take n s.trail) (take top s.starts) c)
          (sym (end_of_at s.starts top (length s.trail) w.0 w.1)) (open_cut s c top w.0 h t w.1)
      | inr ge ↦ subst (λ (x : SearchState). WasOpen x.trail x.starts c) (cut_none s top ge) (open_whole s c top h t ge)
    ]

pub cut_add_whole : (s : SearchState) (z : Sizes) (trail : List Step) (starts counts counts' : List ℕ)
    (looked head count start level : ℕ) (lists : List (List ℕ)) (c : List Lit) (clauses : List (List Lit))
    → IsUnderWay s counts looked head lists
    → slice_get s.starts level ≡ Some start → slice_get counts level ≡ Some count → z ≡ s.sizes
    → trail ≡ take start s.trail → starts ≡ take level s.starts → counts' ≡ take level counts
    → clauses ≡ s.clauses ++ c ∷ []
    → AreInRange s.sizes c → WasOpen (cut s level).trail (cut s level).starts c
    → ((m : Lit) → Contains c m → Contains (clauses_of s.sizes lists m) (length s.clauses))
    → length s.clauses < most_clauses
    → IsUnderWay (record { sizes = z; clauses = clauses; trail = trail; starts = starts }) counts' count start lists
cut_add_whole s z trail starts counts counts' looked head count start level lists c clauses h here here' e1 e2 e3 e4 e5
    range was listed few =
    subst (λ (w : Sizes). IsUnderWay (record { sizes = w; clauses = clauses; trail = trail; starts = starts }) counts'
    count start lists) (sym e1)
    (subst (λ (t : List Step). IsUnderWay (record s { clauses = clauses; trail = t; starts = starts }) counts' count
    start
    lists) (sym e2)
    (subst (λ (t : List ℕ). IsUnderWay (record s { clauses = clauses; trail = take start s.trail; starts = t }) counts'
    count start lists) (sym e3)
    (subst (λ (t : List ℕ). IsUnderWay
    (record s { clauses = clauses; trail = take start s.trail; starts = take level s.starts }) t count start lists)
    (sym e4)
    (subst (λ (cs : List (List Lit)). IsUnderWay
    (record s { clauses = cs; trail = take start s.trail; starts = take level s.starts }) (take level counts) count
    start lists) (sym e5)
    (whole_add (record s { trail = take start s.trail; starts = take level s.starts }) (take level counts) count start
    lists c (whole_cut s counts looked head lists level start count h here here') range
    (subst (λ n. WasOpen (take n s.trail) (take level s.starts) c)
    (end_of_at s.starts level (length s.trail) start here) was) listed few)))))

pub whole_retract : (s : SearchState) (counts : List ℕ) (looked head place : ℕ) (lists : List (List ℕ))
    → IsUnderWay s counts looked head lists → place ≤ length s.trail
    → ((level start : ℕ) → slice_get s.starts level ≡ Some start → start < place) → length s.starts ≤ place
    → IsUnderWay (record s { trail = take place s.trail }) counts 0 place lists
whole_retract s counts looked head place lists h within present levels =
    let long : length (take place s.trail) ≡ place = length-take-le place s.trail within in
    let same : (level start : ℕ) → slice_get s.starts level ≡ Some start
    → take start (take place s.trail) ≡ take start s.trail = λ level start at. take_take start place s.trail
    (let p = present level start at in omega arith) in
    let v = h.sound in
    record {
      sound = record {
        in_range = v.in_range;
        steps = steps_take s.sizes s.trail place v.steps;
        caused = λ i x at.
            let old = get_take place s.trail i x at in
            caused_along s.clauses s.trail (take place s.trail) s.starts s.starts i x.lit x.level x.reason
            (λ l t. stands_take s.trail i place l (omega (arith, old)) t) (λ b. b) (v.caused i x old.1);
        leveled = λ i x at. v.leveled i x (get_take place s.trail i x at).1;
        split = λ i x level start at at'. v.split i x level start (get_take place s.trail i x at).1 at';
        few = omega arith;
        starts = λ level start at. let b = v.starts level start at in
            (b.0, b.1, take_get place s.trail start b.1 (present level start at) b.2, b.3);
      };
      guarded = λ k c lt at. absurd (omega (arith, lt));
      were_guarded = λ level start count k c at at' lt has. subst (λ t. IsGuarded t t c)
          (sym (same level start at)) (h.were_guarded level start count k c at at' lt has);
      were_open = λ k c has level start at f. h.were_open k c has level start at
          (subst (λ t. IsFalseIn t c) (same level start at) f);
      listed = h.listed;
      long = h.long;
      within = omega arith;
      before = omega arith;
      counted = h.counted;
      below = h.below;
      room = h.room;
    }
