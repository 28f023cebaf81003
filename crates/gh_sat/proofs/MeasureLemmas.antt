-- The measure of a search.
use Rattle.std.proofs.Common.{◌≡◌, ◌≢◌, ℕ, zero, suc, ◌+◌, ◌-◌, ◌*◌, ◌<◌, ◌≤◌, List, [], ◌∷◌, ◌++◌, length, take, drop}
use Rattle.std.proofs.Common.{Some, None, inl, inr, refl, sym, ap, ◌∙◌, subst, arith, length-drop, length-take-le}
use Rattle.std.proofs.Common.{append_assoc, append-nil}
use Rattle.std.specs.Prelude.{slice_get}
use Rattle.std.proofs.Math.Nat.{mul-le-mul_left}
use Rattle.std.proofs.lemmas.List.{take-append-drop}
use Rattle.std.proofs.lemmas.Bool.{cases_lt}
use Rattle.gh_base.specs.declared.atom.Lit.{Lit}
use Rattle.gh_base.specs.declared.sizes.Sizes.{Sizes}
use Rattle.gh_base.specs.Atoms.{count_of}
use Rattle.gh_sat.specs.declared.trail.Step.{Step}
use Rattle.gh_sat.specs.Trail.{SearchState, IsSound, cut, open_level}
use Rattle.gh_sat.specs.Measure.{count_at, IsFurther, StepsLeadFurther, UnitsAreAssigned, JumpsLeadFurther}
use Rattle.gh_sat.specs.Measure.{power, weight, left, StepsLeaveLess, JumpsLeaveLess}
use Rattle.gh_sat.specs.Learn.{IsLearnt, add_clause, one_if}
use Rattle.gh_sat.specs.Status.{Grows}
use Rattle.gh_sat.specs.Whole.{GivesLast}
use Rattle.gh_base.proofs.ListLemmas.{get_some}
use Rattle.gh_sat.proofs.ListLemmas.{end_of_at, lt_le}
use Rattle.gh_sat.proofs.MarkLemmas.{get_drop, one_if_is, one_if_not}

lt_weak : {a b : ℕ} → a < b → a ≤ b
lt_weak h = omega arith

count_append : (level : ℕ) (xs ys : List Step) → count_at level (xs ++ ys) ≡ count_at level xs + count_at level ys
count_append level [] ys = omega arith
count_append level (x ∷ xs) ys = omega (arith, count_append level xs ys)

-- none stands at a level below those of the steps
count_none : (level : ℕ) (xs : List Step) → ((i : ℕ) (x : Step) → slice_get xs i ≡ Some x → level < x.level)
    → count_at level xs ≡ 0
count_none level [] h = refl
count_none level (x ∷ xs) h =
    let up = h 0 x refl in
    let ne : x.level ≢ level = omega arith in
    omega (arith, one_if_not x.level level ne, count_none level xs (λ i y at. h (suc i) y at))

one_further : (trail : List Step) (x : Step) → IsFurther trail (trail ++ x ∷ [])
one_further trail x = (
  x.level,
  λ k lt.
      let ne : x.level ≢ k = omega arith in
      omega (arith, count_append k trail (x ∷ []), one_if_not x.level k ne),
  omega (arith, count_append x.level trail (x ∷ []), one_if_is x.level),
)

-- it is the lexicographic order
further_again : (a b c : List Step) → IsFurther a b → IsFurther b c → IsFurther a c
further_again a b c f g = elim (cases_lt f.0 g.0) [
  | inl lt ↦ (
    f.0,
    λ k low. g.1 k (lt_le low (lt_weak lt)) ∙ f.1 k low,
    (let same = g.1 f.0 lt in let more = f.2 in omega arith),
  )
  | inr ge ↦ (
    g.0,
    λ k low. g.1 k low ∙ f.1 k (lt_le low ge),
    (let more = g.2 in elim (cases_lt g.0 f.0) [
      | inl lt ↦ (let same = f.1 g.0 lt in omega arith)
      | inr le ↦
          (let same : g.0 ≡ f.0 = omega arith in
          let m : count_at g.0 a < count_at g.0 b = subst (λ l. count_at l a < count_at l b) (sym same) f.2 in
          omega arith)
    ]),
  )
]

further_more : (a b more : List Step) → IsFurther a b → IsFurther a (b ++ more)
further_more a b [] f = subst (IsFurther a) (sym (append-nil b)) f
further_more a b (x ∷ xs) f =
    subst (IsFurther a) (append_assoc b (x ∷ []) xs)
    (further_more a (b ++ x ∷ []) xs (further_again a b (b ++ x ∷ []) f (one_further b x)))

pub step_further : StepsLeadFurther
step_further trail x more =
    subst (IsFurther trail) (append_assoc trail (x ∷ []) more)
    (further_more trail (trail ++ x ∷ []) more (one_further trail x))

pub units_assigned : UnitsAreAssigned
units_assigned s k clause level unit new h learnt last =
    let r = last s.clauses clause unit refl learnt.unit_then in
    let n : length (take level s.starts) ≡ level = length-take-le level s.starts (lt_weak learnt.lower) in (
      r.0,
      r.1 ∙ ap (λ (l : ℕ). (cut s level).trail
          ++ (record { lit = unit; level = l; reason = Some (length s.clauses) }) ∷ [] ++ r.0) n,
    )

-- the steps past the cut are of higher levels
above_cut : (s : SearchState) (level start : ℕ) → IsSound s → slice_get s.starts level ≡ Some start → (i : ℕ) (y : Step)
    → slice_get (drop start s.trail) i ≡ Some y → suc level ≤ y.level
above_cut s level start h here i y at =
    let place : slice_get s.trail (start + i) ≡ Some y = sym (get_drop start s.trail i) ∙ at in
    let low = (h.split (start + i) y level start place here).0 in
    elim (cases_lt level y.level) [ inl up ↦ up | inr down ↦ absurd (let f = low down in omega arith) ]

count_cut : (s : SearchState) (level start k : ℕ) → IsSound s → slice_get s.starts level ≡ Some start → k ≤ level
    → count_at k s.trail ≡ count_at k (take start s.trail)
count_cut s level start k h here le =
    let none = count_none k (drop start s.trail)
    (λ i y at. let up = above_cut s level start h here i y at in omega arith) in
    let whole : count_at k s.trail ≡ count_at k (take start s.trail) + count_at k (drop start s.trail) =
    ap (count_at k) (sym (take-append-drop start s.trail)) ∙ count_append k (take start s.trail) (drop start s.trail) in
    omega arith

jump_one : (s : SearchState) (level : ℕ) (x : Step) → IsSound s → level < length s.starts → x.level ≡ level
    → IsFurther s.trail ((cut s level).trail ++ x ∷ [])
jump_one s level x h lower is =
    let r = get_some s.starts level lower in
    let at = end_of_at s.starts level (length s.trail) r.0 r.1 in
    subst (λ e. IsFurther s.trail (take e s.trail ++ x ∷ [])) (sym at) (
      level,
      λ k lt.
          let ne : x.level ≢ k = omega arith in
          omega (
            arith,
            count_append k (take r.0 s.trail) (x ∷ []),
            one_if_not x.level k ne,
            count_cut s level r.0 k h
                r.1 (omega arith),
          ),
      (let one : one_if x.level level ≡ 1 = ap (λ n. one_if n level) is ∙ one_if_is level in
          omega (
            arith,
            count_append level (take r.0 s.trail) (x ∷ []),
            count_cut s level r.0 level h r.1
                (omega arith),
          )),
    )

pub jump_further : JumpsLeadFurther
jump_further s n clause level unit new h learnt last =
    let x : Step = record { lit = unit; level = level; reason = Some (length s.clauses) } in
    let r = units_assigned s n clause level unit new h learnt last in
    subst (IsFurther s.trail) (sym r.1)
    (further_more s.trail ((cut s level).trail ++ x ∷ []) r.0 (jump_one s level x h learnt.lower refl))

power_pos : (b k : ℕ) → 0 < power (suc b) k
power_pos b zero = omega arith
power_pos b (suc k) =
    let i = power_pos b k in
    let m : suc b * 1 ≤ suc b * power (suc b) k = mul-le-mul_left (suc b) i in omega arith

power_le : (b m k : ℕ) → m ≤ k → power (suc b) m ≤ power (suc b) k
power_le b zero k h = power_pos b k
power_le b (suc m) zero h = absurd (omega arith)
power_le b (suc m) (suc k) h = mul-le-mul_left (suc b) (power_le b m k (omega arith))

weight_push : (n : ℕ) (xs ys : List Step) → weight n (xs ++ ys) ≡ weight n xs + weight n ys
weight_push n [] ys = omega arith
weight_push n (x ∷ xs) ys = omega (arith, weight_push n xs ys)

-- a step more
weight_more : (n : ℕ) (xs : List Step) (x : Step) → weight n xs < weight n (xs ++ x ∷ [])
weight_more n xs x = omega (arith, weight_push n xs (x ∷ []), power_pos n (n - x.level))

-- steps of levels at or above this one weigh no more than their number of digits there
weight_few : (n level : ℕ) (xs : List Step) → ((i : ℕ) (x : Step) → slice_get xs i ≡ Some x → level ≤ x.level)
    → weight n xs ≤ length xs * power (suc n) (n - level)
weight_few n level [] h = omega arith
weight_few n level (x ∷ xs) h =
    let i = weight_few n level xs (λ j y at. h (suc j) y at) in
    let up = h 0 x refl in
    let one = power_le n (n - x.level) (n - level) (omega arith) in
    omega arith

-- fewer than base steps above a level weigh less than one step there
weight_less : (n level : ℕ) (xs : List Step) → length xs ≤ n → level < n
    → ((i : ℕ) (x : Step) → slice_get xs i ≡ Some x → suc level ≤ x.level) → weight n xs < power (suc n) (n - level)
weight_less n level xs few low h =
    let i = weight_few n (suc level) xs h in
    let p = power_pos n (n - suc level) in
    let e : n - level ≡ suc (n - suc level) = omega arith in
    let same : power (suc n) (n - level) ≡ suc n * power (suc n) (n - suc level) = ap (power (suc n)) e in
    let m = mul-le-mul_left (power (suc n) (n - suc level)) few in
    omega arith

weight_bound : (n : ℕ) (xs : List Step) → length xs ≤ n → weight n xs < power (suc n) (suc n)
weight_bound n xs few =
    let e : n - 0 ≡ n = omega arith in
    let i : weight n xs ≤ length xs * power (suc n) n =
    subst (λ k. weight n xs ≤ length xs * power (suc n) k) e (weight_few n 0 xs (λ j y at. omega arith)) in
    let p = power_pos n n in
    let m = mul-le-mul_left (power (suc n) n) few in
    omega arith

-- a heavier trail has less left
left_less : (n : ℕ) (old new : List Step) → weight n old < weight n new → length new ≤ n
    → power (suc n) (suc n) - weight n new < power (suc n) (suc n) - weight n old
left_less n old new more few = omega (arith, weight_bound n new few)

weight_grows : (n : ℕ) (old xs ys : List Step) → weight n old < weight n xs → weight n old < weight n (xs ++ ys)
weight_grows n old xs ys h = omega (arith, weight_push n xs ys)

pub step_less : StepsLeaveLess
step_less sizes trail x more few =
    left_less (count_of sizes) trail (trail ++ x ∷ more)
    (subst (λ xs. weight (count_of sizes) trail < weight (count_of sizes) xs) (append_assoc trail (x ∷ []) more)
    (weight_grows (count_of sizes) trail (trail ++ x ∷ []) more (weight_more (count_of sizes) trail x))) few

-- a literal at a level weighs more than all that was above that level
jump_weight : (n level start : ℕ) (trail : List Step) (x : Step) → length trail ≤ n → level < n
    → ((i : ℕ) (y : Step) → slice_get (drop start trail) i ≡ Some y → suc level ≤ y.level) → x.level ≡ level
    → weight n trail < weight n (take start trail ++ x ∷ [])
jump_weight n level start trail x few low above is =
    let front = take start trail in
    let back = drop start trail in
    let less = weight_less n level back (omega (arith, length-drop start trail)) low above in
    let whole : weight n trail ≡ weight n front + weight n back =
    ap (weight n) (sym (take-append-drop start trail)) ∙ weight_push n front back in
    let new : weight n (front ++ x ∷ []) ≡ weight n front + weight n (x ∷ []) = weight_push n front (x ∷ []) in
    let one : power (suc n) (n - x.level) ≡ power (suc n) (n - level) = ap (λ l. power (suc n) (n - l)) is in
    omega arith

pub jump_less : JumpsLeaveLess
jump_less s n clause level unit new h learnt last few =
    let x : Step = record { lit = unit; level = level; reason = Some (length s.clauses) } in
    let u = units_assigned s n clause level unit new h learnt last in
    let r = get_some s.starts level learnt.lower in
    let at = end_of_at s.starts level (length s.trail) r.0 r.1 in
    let low : level < length s.trail = let f = h.few in let l = learnt.lower in omega arith in
    let all : length s.trail ≤ count_of s.sizes = h.steps.few in
    let one : weight (count_of s.sizes) s.trail < weight (count_of s.sizes) ((cut s level).trail ++ x ∷ []) =
    subst (λ e. weight (count_of s.sizes) s.trail < weight (count_of s.sizes) (take e s.trail ++ x ∷ [])) (sym at)
    (jump_weight (count_of s.sizes) level r.0 s.trail x all (lt_le low all) (above_cut s level r.0 h r.1) refl) in
    left_less (count_of s.sizes) s.trail new
    (subst (λ xs. weight (count_of s.sizes) s.trail < weight (count_of s.sizes) xs) (sym u.1)
    (weight_grows (count_of s.sizes) s.trail ((cut s level).trail ++ x ∷ []) u.0 one)) few

-- less is left after a decision and what it propagates
pub turn_decided : (s mid new : SearchState) (lit : Lit) → mid ≡ open_level s lit → new.sizes ≡ mid.sizes
    → Grows mid.clauses (length mid.starts) mid.trail new.trail → IsSound new
    → left new.sizes new.trail < left s.sizes s.trail
turn_decided s mid new lit is same grows h =
    let x : Step = record { lit = lit; level = length s.starts + 1; reason = None } in
    let z : new.sizes ≡ s.sizes = same ∙ ap (λ (t : SearchState). t.sizes) is in
    let e : new.trail ≡ s.trail ++ x ∷ grows.0 =
    grows.1 ∙ ap (λ (t : SearchState). t.trail ++ grows.0) is ∙ append_assoc s.trail (x ∷ []) grows.0 in
    let few : length new.trail ≤ count_of s.sizes =
    subst (λ (w : Sizes). length new.trail ≤ count_of w) z h.steps.few in
    subst (λ (w : Sizes). left w new.trail < left s.sizes s.trail) (sym z)
    (subst (λ (t : List Step). left s.sizes t < left s.sizes s.trail) (sym e)
    (step_less s.sizes s.trail x grows.0 (subst (λ (t : List Step). length t ≤ count_of s.sizes) e few)))

-- and after a lesson, the jump back and what the unit propagates
pub turn_learnt : (s two mid new : SearchState) (k : ℕ) (clause : List Lit) (level : ℕ) (unit : Lit)
    → IsSound s → IsLearnt s k clause level unit → two ≡ add_clause s clause → mid ≡ cut two level
    → new.sizes ≡ mid.sizes → GivesLast mid new.trail → IsSound new → left new.sizes new.trail < left s.sizes s.trail
turn_learnt s two mid new k clause level unit h learnt added jump same last h' =
    let m : mid ≡ cut (add_clause s clause) level = jump ∙ ap (λ (t : SearchState). cut t level) added in
    let z : new.sizes ≡ s.sizes = same ∙ ap (λ (t : SearchState). t.sizes) m in
    let few : length new.trail ≤ count_of s.sizes =
    subst (λ (w : Sizes). length new.trail ≤ count_of w) z h'.steps.few in
    subst (λ (w : Sizes). left w new.trail < left s.sizes s.trail) (sym z)
    (jump_less s k clause level unit new.trail h learnt (subst (λ (t : SearchState). GivesLast t new.trail) m last) few)
