-- What lies ahead by the text is what lies ahead in the graph, and that is how many ways there are and how long they
-- are.
use Rattle.std.specs.Prelude.{◌≡◌, ◌⊎◌, ℕ, suc, ◌+◌, ◌<◌, ◌≤◌, min, max, List, [], ◌∷◌, ◌++◌, map, length, drop, not}
use Rattle.std.specs.Prelude.{Any, Contains}
use Rattle.std.proofs.Common.{refl, sym, ◌∙◌, ap, subst, inl, inr, arith}
use Rattle.std.proofs.lemmas.List.{length-map, length-append}
use Rattle.gh_ast.specs.declared.Expr.{Expr}
use Rattle.gh_ast.specs.declared.Expr.TheVariants.{Plain, Read}
use Rattle.gh_ast.specs.Plain.{Cond, compare, negation, conjunction, disjunction, Conds, no_conds, cond_first}
use Rattle.gh_ast.specs.Plain.{Statement, set, new, write, free, call, if, while, return, Statements, no_statements}
use Rattle.gh_ast.specs.Plain.{statement_first, Procedure, Program}
use Rattle.gh_ast.specs.Programs.{body_statements}
use Rattle.gh_ast.proofs.Lists.{member_first, member_later, member_cases, no_member}
use Rattle.gh_path.specs.Graphs.{Graph, dead_end, ends, moves, guarded, fork, PathStep, assume_step, reads, all_reads}
use Rattle.gh_path.specs.Graphs.{tested, all_tested, some_tested, lowered, all_lowered, While, loops, all_loops}
use Rattle.gh_path.specs.Graphs.{loops_of, once_around, loop_graph, graph_from, Start, at_entry, at_loop, loop_starts}
use Rattle.gh_path.specs.Graphs.{return_check}
use Rattle.gh_path.specs.Paths.{Way, ways, after_step}
use Rattle.gh_path.specs.Conditions.{Course, course, from_starts, courses_of}
use Rattle.gh_path.specs.Graphs.{IsLoopAt}
use Rattle.gh_path.specs.Counting.{nothing, stepped, checked, either, ahead, before_read, before_reads, before_cond}
use Rattle.gh_path.specs.Counting.{before_all, before_some, before, before_block, entry_ahead, loop_ahead, loops_ahead}
use Rattle.gh_path.specs.Counting.{procedure_ahead}
use Rattle.gh_path.specs.Admitted.{most_conditions, most_steps, HasManyPaths, HasManySteps}
use Rattle.gh_path.specs.declared.ahead.PathCounts.{PathCounts}
use Rattle.gh_ast.proofs.Sites.{any_of}
use Rattle.gh_path.proofs.ListLemmas.{first_of, rest_of}

pub ahead_read : (e : Expr) (g : Graph) → ahead (reads e g) ≡ before_read e (ahead g)
ahead_read (Plain o) g = refl
ahead_read (Read o) g = refl

pub ahead_reads : (es : List Expr) (g : Graph) → ahead (all_reads es g) ≡ before_reads es (ahead g)
ahead_reads [] g = refl
ahead_reads (e ∷ es) g = ahead_read e (all_reads es g) ∙ ap (before_read e) (ahead_reads es g)

mutual
  pub ahead_tested : (t : Cond) (g k : Graph) → ahead (tested t g k) ≡ before_cond t (ahead g) (ahead k)
  ahead_tested (compare l e r) g k =
      ahead_read l (reads r (fork l e r g k)) ∙ ap (before_read l) (ahead_read r (fork l e r g k))
  ahead_tested (negation t) g k = ahead_tested t k g
  ahead_tested (conjunction ts) g k = ahead_all ts g k
  ahead_tested (disjunction ts) g k = ahead_some ts g k

  pub ahead_all : (ts : Conds) (g k : Graph) → ahead (all_tested ts g k) ≡ before_all ts (ahead g) (ahead k)
  ahead_all no_conds g k = refl
  ahead_all (cond_first t ts) g k =
      ahead_tested t (all_tested ts g k) k ∙ ap (λ a. before_cond t a (ahead k)) (ahead_all ts g k)

  pub ahead_some : (ts : Conds) (g k : Graph) → ahead (some_tested ts g k) ≡ before_some ts (ahead g) (ahead k)
  ahead_some no_conds g k = refl
  ahead_some (cond_first t ts) g k =
      ahead_tested t g (some_tested ts g k) ∙ ap (before_cond t (ahead g)) (ahead_some ts g k)

mutual
  pub ahead_lowered : (P : Program) (n : ℕ) (s : Statement) (g : Graph) → ahead (lowered P n s g) ≡ before s (ahead g)
  ahead_lowered P n (set x e) g = ahead_read e _
  ahead_lowered P n (new x) g = refl
  ahead_lowered P n (write x e) g = ahead_read e _
  ahead_lowered P n (free x) g = refl
  ahead_lowered P n (call xs f es) g = ahead_reads es _
  ahead_lowered P n (if t a c b d) g =
      let m = n + length (all_loops a) in
      ahead_tested t (all_lowered P n a g) (all_lowered P m b g)
      ∙ ap (λ x. before_cond t x (ahead (all_lowered P m b g))) (ahead_block P n a g)
      ∙ ap (before_cond t (before_block a (ahead g))) (ahead_block P m b g)
  ahead_lowered P n (while at t i body close) g = ap (λ a. checked (stepped a)) (ahead_tested t dead_end g)
  ahead_lowered P n (return at es) g = ahead_reads es _

  pub ahead_block : (P : Program) (n : ℕ) (ss : Statements) (g : Graph)
      → ahead (all_lowered P n ss g) ≡ before_block ss (ahead g)
  ahead_block P n no_statements g = refl
  ahead_block P n (statement_first s ss) g =
      let m = n + length (loops s) in
      ahead_lowered P n s (all_lowered P m ss g) ∙ ap (before s) (ahead_block P m ss g)

pub ahead_entry : (P : Program) (proc : Procedure) → ahead (graph_from P proc at_entry) ≡ entry_ahead proc
ahead_entry P proc = ahead_block P 0 (body_statements proc) (ends (return_check proc.close))

pub ahead_round : (P : Program) (n : ℕ) (l : While) → ahead (once_around P n l) ≡ loop_ahead l
ahead_round P n l =
    ahead_tested l.test (all_lowered P (suc n) l.body _) dead_end
    ∙ ap (λ a. before_cond l.test a nothing) (ahead_block P (suc n) l.body _)

-- one more than the greatest number, and 0 for an empty list
abbrev pub reach_by : {A : Type 0} → (A → ℕ) → List A → ℕ
reach_by f [] = 0
reach_by f (x ∷ xs) = max (f x + 1) (reach_by f xs)

reach_append : {A : Type 0} (f : A → ℕ) (xs ys : List A) → reach_by f (xs ++ ys) ≡ max (reach_by f xs) (reach_by f ys)
reach_append f [] ys = omega arith
reach_append f (x ∷ xs) ys = omega (arith, reach_append f xs ys)

reach_map : {A B : Type 0} (f : B → ℕ) (h : A → B) (xs : List A) → reach_by f (map h xs) ≡ reach_by (λ x. f (h x)) xs
reach_map f h [] = refl
reach_map f h (x ∷ xs) = ap (max (f (h x) + 1)) (reach_map f h xs)

abbrev pub steps_in : Way → ℕ
steps_in w = length w.steps

reach_step : (p : PathStep) (xs : List Way)
    → reach_by steps_in (map (after_step p) xs) ≡ reach_by steps_in xs + min (reach_by steps_in xs) 1
reach_step p [] = refl
reach_step p (w ∷ xs) = omega (arith, reach_step p xs, longer p w.steps)
  where
    longer : (p : PathStep) (ps : List PathStep) → length (p ∷ ps) ≡ length ps + 1
    longer p ps = omega arith

-- a graph has so many ways, and they have at most so many steps
pub record Tells (a : PathCounts) (n r : ℕ) : Type 0 where
  pub count : a.count ≡ min n (most_conditions + 1)
  pub reach : a.reach ≡ min r (most_steps + 2)

pub ahead_tells : (g : Graph) → Tells (ahead g) (length (ways g)) (reach_by steps_in (ways g))
ahead_tells dead_end = record { count = refl; reach = refl }
ahead_tells (ends c) = record { count = refl; reach = refl }
ahead_tells (moves p g) =
    let below = ahead_tells g in
    let count : length (map (after_step p) (ways g)) ≡ length (ways g) = length-map (ways g) (after_step p) in
    record { count = omega (arith, below.count, count); reach = omega (arith, below.reach, reach_step p (ways g)) }
ahead_tells (guarded c p g) =
    let below = ahead_tells g in
    let count : length (map (after_step p) (ways g)) ≡ length (ways g) = length-map (ways g) (after_step p) in
    record { count = omega (arith, below.count, count); reach = omega (arith, below.reach, reach_step p (ways g)) }
ahead_tells (fork l e r g k) =
    let one = ahead_tells g in
    let two = ahead_tells k in
    let yes = map (after_step (assume_step l e r)) (ways g) in
    let no = map (after_step (assume_step l (not e) r)) (ways k) in
    let first : length yes ≡ length (ways g) = length-map (ways g) (after_step (assume_step l e r)) in
    let second : length no ≡ length (ways k) = length-map (ways k) (after_step (assume_step l (not e) r)) in
    record {
      count = omega (arith, one.count, two.count, first, second, length-append yes no);
      reach = omega (
        arith,
        one.reach,
        two.reach,
        reach_step (assume_step l e r) (ways g),
        reach_step (assume_step l (not e) r) (ways k),
        reach_append steps_in yes no,
      );
    }

abbrev pub steps_of : Course → ℕ
steps_of c = length c.way.steps

-- of some courses
abbrev CoursesTell : PathCounts → List Course → Type 0
CoursesTell a cs = Tells a (length cs) (reach_by steps_of cs)

-- of those from some starts
tells_start : (a : Start) (g : Graph) → CoursesTell (ahead g) (map (course a) (ways g))
tells_start a g =
    let whole = ahead_tells g in
    let count : length (map (course a) (ways g)) ≡ length (ways g) = length-map (ways g) (course a) in
    record {
      count = whole.count ∙ ap (λ n. min n (most_conditions + 1)) (sym count);
      reach = whole.reach ∙ ap (λ n. min n (most_steps + 2)) (sym (reach_map steps_of (course a) (ways g)));
    }

tells_both : (a b : PathCounts) (xs ys : List Course) → CoursesTell a xs → CoursesTell b ys
    → CoursesTell (either a b) (xs ++ ys)
tells_both a b xs ys one two = record {
  count = omega (arith, one.count, two.count, length-append xs ys);
  reach = omega (arith, one.reach, two.reach, reach_append steps_of xs ys);
}

tells_round : (P : Program) (proc : Procedure) (n : ℕ) (l : While) → IsLoopAt proc n l
    → CoursesTell (loop_ahead l) (map (course (at_loop n)) (ways (graph_from P proc (at_loop n))))
tells_round P proc n l is =
    let same : graph_from P proc (at_loop n) ≡ once_around P n l = ap (loop_graph P n) is in
    subst (λ a. CoursesTell a (map (course (at_loop n)) (ways (graph_from P proc (at_loop n)))))
    (ap ahead same ∙ ahead_round P n l) (tells_start (at_loop n) (graph_from P proc (at_loop n)))

-- the loops from the number n on
tells_rounds : (P : Program) (proc : Procedure) (n : ℕ) (ls : List While) → drop n (loops_of proc) ≡ ls
    → CoursesTell (loops_ahead ls) (from_starts P proc (loop_starts n ls))
tells_rounds P proc n [] left = record { count = refl; reach = refl }
tells_rounds P proc n (l ∷ ls) left =
    tells_both (loop_ahead l) (loops_ahead ls) (map (course (at_loop n)) (ways (graph_from P proc (at_loop n))))
    (from_starts P proc (loop_starts (suc n) ls))
    (tells_round P proc n l (first_of (loops_of proc) n l ls left))
    (tells_rounds P proc (suc n) ls (sym (rest_of (loops_of proc) n l ls left)))

pub procedure_tells : (P : Program) (proc : Procedure) → CoursesTell (procedure_ahead proc) (courses_of P proc)
procedure_tells P proc =
    let g = graph_from P proc at_entry in
    tells_both (entry_ahead proc) (loops_ahead (loops_of proc)) (map (course at_entry) (ways g))
    (from_starts P proc (loop_starts 0 (loops_of proc)))
    (subst (λ a. CoursesTell a (map (course at_entry) (ways g))) (ahead_entry P proc) (tells_start at_entry g))
    (tells_rounds P proc 0 (loops_of proc) refl)

-- some member is past a number exactly where the reach is
pub reach_some : {A : Type 0} (f : A → ℕ) (n : ℕ) (xs : List A) → n + 1 < reach_by f xs → Any (λ x. n < f x) xs
reach_some f n [] more = absurd (omega (arith, more))
reach_some f n (x ∷ xs) more = elim (far_or n (f x)) [
  | inl far ↦ any_of (λ x. n < f x) (x ∷ xs) x (member_first x xs) far
  | inr near ↦ let there = reach_some f n xs (omega (arith, near, more)) in
      any_of (λ x. n < f x) (x ∷ xs) there.1 (member_later x there.1 xs (there.0, there.2, there.3)) there.4
]
  where
    far_or : (n m : ℕ) → (n < m) ⊎ (m ≤ n)
    far_or n m = grind arith

pub some_reach : {A : Type 0} (f : A → ℕ) (n : ℕ) (xs : List A) (x : A) → Contains xs x → n < f x
    → n + 1 < reach_by f xs
some_reach f n [] x i more = absurd (no_member x i)
some_reach f n (w ∷ xs) x i more = elim (member_cases w xs x i) [
  | inl same ↦ let at : n < f w = subst (λ y. n < f y) (sym same) more in omega (arith, at)
  | inr later ↦ omega (arith, some_reach f n xs x later more)
]

-- the limits, read off what lies ahead
pub many_paths : (P : Program) (proc : Procedure) → most_conditions < (procedure_ahead proc).count → HasManyPaths P proc
many_paths P proc more = omega (arith, (procedure_tells P proc).count, more)

pub few_paths : (P : Program) (proc : Procedure) → (procedure_ahead proc).count ≤ most_conditions → HasManyPaths P proc
    → ⊥
few_paths P proc less many = omega (arith, (procedure_tells P proc).count, less, many)

pub many_steps : (P : Program) (proc : Procedure) → most_steps + 1 < (procedure_ahead proc).reach → HasManySteps P proc
many_steps P proc more =
    reach_some steps_of most_steps (courses_of P proc) (omega (arith, (procedure_tells P proc).reach, more))

pub few_steps : (P : Program) (proc : Procedure) → (procedure_ahead proc).reach ≤ most_steps + 1 → HasManySteps P proc
    → ⊥
few_steps P proc less many =
    omega (
      arith,
      (procedure_tells P proc).reach,
      less,
      some_reach steps_of most_steps (courses_of P proc) many.1 (many.0, many.2, many.3) many.4,
    )

-- where there are few, the number is exact
pub count_is : (P : Program) (proc : Procedure) → (procedure_ahead proc).count ≤ most_conditions
    → (procedure_ahead proc).count ≡ length (courses_of P proc)
count_is P proc less = omega (arith, (procedure_tells P proc).count, less)
