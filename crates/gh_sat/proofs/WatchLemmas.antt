-- Which clauses need no look.
use Rattle.std.proofs.Common.{◌≡◌, ◌≢◌, ◌⊎◌, ℕ, zero, suc, ◌+◌, ◌-◌, ◌<◌, ◌≤◌, List, [], ◌∷◌, ◌++◌, length, get_or}
use Rattle.std.proofs.Common.{take, take_all, Some, inl, inr, refl, sym, ap, ◌∙◌, subst, arith, All, Contains}
use Rattle.std.proofs.Common.{append_assoc, length-append, length-set}
use Rattle.std.specs.Prelude.{slice_get, slice_set}
use Rattle.std.proofs.lemmas.Bool.{cases_eq}
use Rattle.std.proofs.lemmas.List.Elements.{All-cons, All-contains, Contains-append_left, Contains-push}
use Rattle.std.proofs.lemmas.List.{length_push, take-append-le}
use Rattle.gh_base.specs.declared.atom.Lit.{Lit}
use Rattle.gh_base.specs.declared.sizes.Sizes.{Sizes}
use Rattle.gh_base.specs.Atoms.{opposite}
use Rattle.gh_sat.specs.declared.trail.Step.{Step}
use Rattle.gh_sat.specs.Trail.{Line, IsTrueIn, IsUnitIn, AreSteps, push}
use Rattle.gh_sat.specs.Status.{IsFalseOrUnit, HasPair, IsGuarded, IsForced, AreForced, Grows}
use Rattle.gh_sat.specs.Watch.{AreGuarded, AreVisited, AreListed, ListsMore, clauses_of}
use Rattle.gh_base.proofs.ListLemmas.{get_within, get_front, get_last, get_take, take_get}
use Rattle.gh_sat.proofs.TrailLemmas.{opposite_twice}
use Rattle.gh_sat.proofs.StatusLemmas.{true_good, not_free_opposite}

-- lists grow where one of them does
pub get_or_set : {X : Type 0} (xs : List X) (i j : ℕ) (x d : X) → i < length xs
    → ((j ≡ i) × (get_or (slice_set xs i x) j d ≡ x)) ⊎ ((j ≢ i) × (get_or (slice_set xs i x) j d ≡ get_or xs j d))
get_or_set [] i j x d h = absurd (omega arith)
get_or_set (y ∷ xs) zero zero x d h = inl (refl, refl)
get_or_set (y ∷ xs) zero (suc j) x d h = inr (λ e. cc, refl)
get_or_set (y ∷ xs) (suc i) zero x d h = inr (λ e. cc, refl)
get_or_set (y ∷ xs) (suc i) (suc j) x d h = elim (get_or_set xs i j x d (omega arith)) [
  | inl e ↦ inl (ap suc e.0, e.1)
  | inr n ↦ inr (λ e. n.0 (omega arith), n.1)
]

pub list_push : (lists : List (List ℕ)) (at k : ℕ) (new : List ℕ) → at < length lists
    → new ≡ get_or lists at [] ++ k ∷ []
    → ListsMore lists (slice_set lists at new) × Contains (get_or (slice_set lists at new) at []) k
list_push lists at k new h e = (
  record {
    long = length-set lists at new;
    keeps = λ code j there. elim (get_or_set lists at code new [] h) [
      | inl s ↦
          let was : Contains (get_or lists at []) j = subst (λ c. Contains (get_or lists c []) j) s.0 there in
          subst (λ xs. Contains xs j) (sym (s.1 ∙ e)) (Contains-append_left (get_or lists at []) (k ∷ []) j was)
      | inr s ↦ subst (λ xs. Contains xs j) (sym s.1) there
    ];
  },
  elim (get_or_set lists at at new [] h) [
    | inl s ↦ subst (λ xs. Contains xs k) (sym (s.1 ∙ e)) (Contains-push (get_or lists at []) k)
    | inr s ↦ absurd (s.0 refl)
  ],
)

pub lists_same : (lists : List (List ℕ)) → ListsMore lists lists
lists_same lists = record { long = refl; keeps = λ code k h. h }

pub lists_more : (a b c : List (List ℕ)) → ListsMore a b → ListsMore b c → ListsMore a c
lists_more a b c p q = record { long = q.long ∙ p.long; keeps = λ code k h. q.keeps code k (p.keeps code k h) }

-- a list with its own element put back
pub set_same : (lists : List (List ℕ)) (at : ℕ) (new : List ℕ) → at < length lists → new ≡ get_or lists at []
    → ListsMore lists (slice_set lists at new)
set_same lists at new h e = record {
  long = length-set lists at new;
  keeps = λ code j there. elim (get_or_set lists at code new [] h) [
    | inl s ↦ subst (λ xs. Contains xs j) (sym (s.1 ∙ e)) (subst (λ c. Contains (get_or lists c []) j) s.0 there)
    | inr s ↦ subst (λ xs. Contains xs j) (sym s.1) there
  ];
}

-- an element of a list with one more
pub in_push : {X : Type 0} (xs : List X) (y x : X) → Contains (xs ++ y ∷ []) x → Contains xs x ⊎ (y ≡ x)
in_push [] y x (zero, h, e) = inr e
in_push [] y x (suc k, h, e) = absurd (omega arith)
in_push (z ∷ xs) y x (zero, h, e) = inl (zero, omega arith, e)
in_push (z ∷ xs) y x (suc k, h, e) = elim (in_push xs y x (k, omega arith, e)) [
  | inl r ↦ inl (suc r.0, omega (arith, r.1), r.2)
  | inr f ↦ inr f
]

pub get_front_back : {X : Type 0} (xs ys : List X) (i : ℕ) (x : X) → i < length xs → slice_get (xs ++ ys) i ≡ Some x
    → slice_get xs i ≡ Some x
get_front_back [] ys i x h e = absurd (omega arith)
get_front_back (y ∷ xs) ys zero x h e = e
get_front_back (y ∷ xs) ys (suc i) x h e = get_front_back xs ys i x (omega arith) e

-- a list in which each member has one of two properties has a member with the second, or all have the first
pub any_or_all : (A B : Lit → Type 0) (c : List Lit) → All (λ m. A m ⊎ B m) c
    → ((m : Lit) × Contains c m × B m) ⊎ All A c
any_or_all A B [] h = inr (λ k d lt. absurd (omega arith))
any_or_all A B (l ∷ ls) h = elim (h 0 l (omega arith)) [
  | inr b ↦ inl (l, (zero, omega arith, refl), b)
  | inl a ↦ elim (any_or_all A B ls (λ k d lt. h (suc k) d (omega arith))) [
    | inl w ↦ inl (w.0, (suc w.1.0, omega (arith, w.1.1), w.1.2), w.2)
    | inr all ↦ inr (All-cons A l ls a all)
  ]
]

-- what is true on a front is true on the whole
pub true_longer : (trail : List Step) (n : ℕ) (l : Lit) → IsTrueIn (take n trail) l → IsTrueIn trail l
true_longer trail n l s = let o = get_take n trail s.0 s.1 s.3 in (s.0, s.1, get_within trail s.0 s.1 o.1, o.1, s.4)

pub true_grown : (old added : List Step) (l : Lit) → IsTrueIn old l → IsTrueIn (old ++ added) l
true_grown old added l s =
    let at = get_front old added s.0 s.1 s.3 in (s.0, s.1, get_within (old ++ added) s.0 s.1 at, at, s.4)

-- what is false by a step more was false before, or it is the opposite of that step
pub false_next : (trail : List Step) (head : ℕ) (x : Step) (m : Lit) → slice_get trail head ≡ Some x
    → IsTrueIn (take (head + 1) trail) (opposite m) → IsTrueIn (take head trail) (opposite m) ⊎ (m ≡ opposite x.lit)
false_next trail head x m here s =
    let o = get_take (head + 1) trail s.0 s.1 s.3 in
    elim (cases_eq s.0 head) [
      | inl e ↦
          let at : slice_get trail head ≡ Some s.1 = subst (λ i. slice_get trail i ≡ Some s.1) e o.1 in
          let same : s.1 ≡ x = cc in
          inr (sym (opposite_twice m) ∙ ap opposite (sym s.4) ∙ ap (λ (y : Step). opposite y.lit) same)
      | inr n ↦
          let lt : s.0 < head = omega (arith, o.0, n) in
          let at = take_get head trail s.0 s.1 lt o.1 in
          inl (s.0, s.1, get_within (take head trail) s.0 s.1 at, at, s.4)
    ]

-- a pair stays one where by what is known neither literal is false
pair_known : (old new : List Step) (c : List Lit) (p : HasPair old c)
    → (IsTrueIn new (opposite p.one) → ⊥) → (IsTrueIn new (opposite p.other) → ⊥) → HasPair new c
pair_known old new c p one_open other_open = record {
  one = p.one;
  other = p.other;
  one_in = p.one_in;
  other_in = p.other_in;
  differ = p.differ;
  one_open = one_open;
  other_open = other_open;
}

pub pair_front : (trail : List Step) (n : ℕ) (c : List Lit) → HasPair trail c → HasPair (take n trail) c
pair_front trail n c p =
    pair_known trail (take n trail) c p (λ t. p.one_open (true_longer trail n (opposite p.one) t))
    (λ t. p.other_open (true_longer trail n (opposite p.other) t))

pub guarded_front : (trail : List Step) (n : ℕ) (c : List Lit) → IsGuarded trail trail c
    → IsGuarded trail (take n trail) c
guarded_front trail n c (inl t) = inl t
guarded_front trail n c (inr p) = inr (pair_front trail n c p)

pub guarded_grown : (old added known : List Step) (c : List Lit) → IsGuarded old known c
    → IsGuarded (old ++ added) known c
guarded_grown old added known c (inl t) = inl (t.0, t.1, true_grown old added t.0 t.2)
guarded_grown old added known c (inr p) = inr p

-- two literals that aren't false make a clause neither false nor unit
pub pair_good : (trail : List Step) (c : List Lit) → HasPair trail c → IsFalseOrUnit trail c → ⊥
pair_good trail c p (inl f) = p.one_open (All-contains (λ m. IsTrueIn trail (opposite m)) c p.one f p.one_in)
pair_good trail c p (inr (u, i)) =
    let one : p.one ≡ u = elim (All-contains (λ m. (m ≡ u) ⊎ IsTrueIn trail (opposite m)) c p.one i.others p.one_in) [
      | inl e ↦ e
      | inr t ↦ absurd (p.one_open t)
    ] in
    let other : p.other ≡ u =
    elim (All-contains (λ m. (m ≡ u) ⊎ IsTrueIn trail (opposite m)) c p.other i.others p.other_in) [
      | inl e ↦ e
      | inr t ↦ absurd (p.other_open t)
    ] in
    p.differ (one ∙ sym other)

pub guarded_good : (t : Line) (c : List Lit) → AreSteps t → IsGuarded t.steps t.steps c → IsFalseOrUnit t.steps c → ⊥
guarded_good t c valid (inl w) bad = true_good t c w.0 valid w.1 w.2 bad
guarded_good t c valid (inr p) bad = pair_good t.steps c p bad

-- the front up to a place, of a trail that grew
front_grown : (clauses : List (List Lit)) (level : ℕ) (old new : List Step) (n : ℕ) → n ≤ length old
    → Grows clauses level old new → take n new ≡ take n old
front_grown clauses level old new n h g = ap (take n) g.1 ∙ take-append-le n old g.0 h

pub guarded_along : (clauses : List (List Lit)) (level : ℕ) (old new : List Step) (n : ℕ) (c : List Lit)
    → n ≤ length old → Grows clauses level old new → IsGuarded old (take n old) c → IsGuarded new (take n new) c
guarded_along clauses level old new n c le g w =
    subst (λ (k : List Step). IsGuarded new k c) (sym (front_grown clauses level old new n le g))
    (subst (λ (t : List Step). IsGuarded t (take n old) c) (sym g.1) (guarded_grown old g.0 (take n old) c w))

-- what is guarded stays so while the trail grows
pub guarded_on : (clauses : List (List Lit)) (level : ℕ) (old new : List Step) (head looked : ℕ) → head ≤ length old
    → Grows clauses level old new → AreGuarded clauses old head looked → AreGuarded clauses new head looked
guarded_on clauses level old new head looked le g w k c lt at =
    guarded_along clauses level old new head c le g (w k c lt at)

-- a clause more was looked at
pub guarded_looked : (clauses : List (List Lit)) (trail : List Step) (head looked : ℕ)
    → ((c : List Lit) → slice_get clauses looked ≡ Some c → IsGuarded trail trail c)
    → AreGuarded clauses trail head looked → AreGuarded clauses trail head (looked + 1)
guarded_looked clauses trail head looked one w k c lt at = elim (cases_eq k looked) [
  | inl e ↦ guarded_front trail head c (one c (subst (λ i. slice_get clauses i ≡ Some c) e at))
  | inr n ↦ w k c (omega (arith, n, lt)) at
]

in_cons : (n k : ℕ) (rest : List ℕ) → Contains (n ∷ rest) k → (n ≡ k) ⊎ Contains rest k
in_cons n k rest (zero, h, e) = inl e
in_cons n k rest (suc i, h, e) = inr (i, omega arith, e)

-- the clauses that have the opposite of the next literal are the ones to visit
pub visited_begin : (s : Sizes) (clauses : List (List Lit)) (lists : List (List ℕ)) (trail : List Step)
    (head looked : ℕ) (x : Step) → AreListed s clauses lists → slice_get trail head ≡ Some x
    → AreGuarded clauses trail head looked
    → AreVisited clauses trail head looked (clauses_of s lists (opposite x.lit))
visited_begin s clauses lists trail head looked x listed here w k c lt at out =
    let not : (l : Lit) → Contains c l → (opposite x.lit ≡ l → ⊥) = λ l there e.
    out (subst (λ m. Contains (clauses_of s lists m) k) (sym e) (listed k c l at there)) in
    elim (w k c lt at) [
      | inl t ↦ inl t
      | inr p ↦
          inr (pair_known (take head trail) (take (head + 1) trail) c p
          (λ t. elim (false_next trail head x p.one here t) [
            | inl old ↦ p.one_open old
            | inr e ↦ not p.one p.one_in (sym e)
          ])
          (λ t. elim (false_next trail head x p.other here t) [
            | inl old ↦ p.other_open old
            | inr e ↦ not p.other p.other_in (sym e)
          ]))
    ]

-- a clause was visited
pub visited_next : (clauses : List (List Lit)) (level : ℕ) (old new : List Step) (head looked n : ℕ) (rest : List ℕ)
    → head < length old → Grows clauses level old new
    → ((c : List Lit) → slice_get clauses n ≡ Some c → IsGuarded new new c)
    → AreVisited clauses old head looked (n ∷ rest) → AreVisited clauses new head looked rest
visited_next clauses level old new head looked n rest here g one w k c lt at out =
    elim (cases_eq k n) [
      | inl e ↦ guarded_front new (head + 1) c (one c (subst (λ i. slice_get clauses i ≡ Some c) e at))
      | inr f ↦
          let left : Contains (n ∷ rest) k → ⊥ = λ z. elim (in_cons n k rest z) [ inl e ↦ f (sym e) | inr r ↦ out r ] in
          guarded_along clauses level old new (head + 1) c (omega arith) g (w k c lt at left)
    ]

-- none is left
pub visited_end : (clauses : List (List Lit)) (trail : List Step) (head looked : ℕ)
    → AreVisited clauses trail head looked [] → AreGuarded clauses trail (head + 1) looked
visited_end clauses trail head looked w k c lt at = w k c lt at (λ z. absurd (let i = z.1 in omega arith))

-- nothing waits
pub guarded_all : (t : Line) (clauses : List (List Lit)) (head looked k : ℕ) (c : List Lit)
    → AreSteps t → length t.steps ≤ head → length clauses ≤ looked
    → AreGuarded clauses t.steps head looked → slice_get clauses k ≡ Some c → IsFalseOrUnit t.steps c → ⊥
guarded_all t clauses head looked k c valid h l w at bad =
    let lt = get_within clauses k c at in
    guarded_good t c valid (subst (λ (known : List Step). IsGuarded t.steps known c)
    (take_all head t.steps h) (w k c (omega (arith, lt, l)) at)) bad

pub append_nil : {X : Type 0} (xs : List X) → xs ++ [] ≡ xs
append_nil [] = refl
append_nil (x ∷ xs) = ap (λ ys. x ∷ ys) (append_nil xs)

forced_append : (clauses : List (List Lit)) (level : ℕ) (trail xs ys : List Step) → AreForced clauses level trail xs
    → AreForced clauses level (trail ++ xs) ys → AreForced clauses level trail (xs ++ ys)
forced_append clauses level trail [] ys f g = subst (λ t. AreForced clauses level t ys) (append_nil trail) g
forced_append clauses level trail (x ∷ xs) ys f g = (
  f.0,
  forced_append clauses level (trail ++ x ∷ []) xs ys f.1
      (subst (λ t. AreForced clauses level t ys) (sym (append_assoc trail (x ∷ []) xs)) g),
)

pub grows_not : (clauses : List (List Lit)) (level : ℕ) (trail : List Step) → Grows clauses level trail trail
grows_not clauses level trail = ([], sym (append_nil trail), tt)

pub grows_one : (clauses : List (List Lit)) (level : ℕ) (trail : List Step) (x : Step) → IsForced clauses level trail x
    → Grows clauses level trail (trail ++ x ∷ [])
grows_one clauses level trail x f = (x ∷ [], refl, (f, tt))

pub grows_on : (clauses : List (List Lit)) (level : ℕ) (a b c : List Step) → Grows clauses level a b
    → Grows clauses level b c → Grows clauses level a c
grows_on clauses level a b c f g = (
  f.0 ++ g.0,
  g.1 ∙ ap (λ t. t ++ g.0) f.1 ∙ append_assoc a f.0 g.0,
  forced_append clauses level a f.0 g.0 f.2 (subst (λ t. AreForced clauses level t g.0) f.1 g.2),
)

pub grows_long : (clauses : List (List Lit)) (level : ℕ) (a b : List Step) → Grows clauses level a b
    → length a ≤ length b
grows_long clauses level a b g = omega (arith, ap length g.1, length-append a g.0)

-- a clause that got its last literal is neither false nor unit
pub unit_good : (t : Line) (c : List Lit) (u : Lit) (x : Step) → AreSteps (push t x) → x.lit ≡ u → Contains c u
    → IsFalseOrUnit (t.steps ++ x ∷ []) c → ⊥
unit_good t c u x valid e there bad =
    true_good (push t x) c u valid there
    (length t.steps, x, omega (arith, length_push t.steps x), get_last t.steps x, e) bad

-- the unit of a clause is one
pub one_unit : (t : Line) (c : List Lit) (u w : Lit) → IsUnitIn t.steps c u → IsUnitIn t.steps c w → u ≡ w
one_unit t c u w i j = elim (All-contains (λ m. (m ≡ w) ⊎ IsTrueIn t.steps (opposite m)) c u j.others i.there) [
  | inl e ↦ e
  | inr f ↦ absurd (not_free_opposite t.steps u f i.free)
]

-- the clause that was added last
pub last_at : (clauses before : List (List Lit)) (c : List Lit) (k : ℕ) → clauses ≡ before ++ c ∷ []
    → k ≡ length clauses - 1 → (k ≡ length before) × (slice_get clauses k ≡ Some c)
last_at clauses before c k e f =
    let long : length clauses ≡ length before + 1 = ap length e ∙ length_push before c in
    let same : k ≡ length before = omega arith in
    (same, ap (slice_get clauses) same ∙ ap (λ cs. slice_get cs (length before)) e ∙ get_last before c)

-- a trail that grew from one with a step more
pub grown_from : (clauses : List (List Lit)) (level : ℕ) (old mid new : List Step) (x : Step) → mid ≡ old ++ x ∷ []
    → Grows clauses level mid new → (more : List Step) × (new ≡ old ++ x ∷ [] ++ more)
grown_from clauses level old mid new x e g = (g.0, g.1 ∙ ap (λ t. t ++ g.0) e)
