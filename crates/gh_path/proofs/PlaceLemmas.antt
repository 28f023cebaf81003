-- Procedures, starts and conditions by place.
use Rattle.std.specs.Prelude.{◌≡◌, ℕ, zero, suc, ◌+◌, ◌<◌, ◌≤◌, min, List, [], ◌∷◌, ◌++◌, map, length, Some, slice_get}
use Rattle.std.specs.Prelude.{get_or, drop}
use Rattle.std.specs.Option.{option_map}
use Rattle.std.proofs.Common.{refl, sym, ◌∙◌, ap, subst, arith, append_assoc}
use Rattle.std.proofs.lemmas.List.{length-map, length-append}
use Rattle.std.proofs.lemmas.Option.{slice_get-map, slice_get_read, slice_get_within}
use Rattle.std.proofs.Math.ListN.{drop_of_length-le}
use Rattle.gh_ast.specs.declared.Procedure as whole
use Rattle.gh_ast.specs.Plain.{Procedure, Program, procedure_of}
use Rattle.gh_path.specs.Admitted.{most_conditions, HasManyPaths, NoneHas}
use Rattle.gh_path.specs.Conditions.{Condition, condition, course, courses_of, from_starts}
use Rattle.gh_path.specs.Counting.{entry_ahead, loop_ahead}
use Rattle.gh_path.specs.Graphs.{While, loops_of, loop_graph, once_around, at_loop, loop_starts, at_entry, graph_from}
use Rattle.gh_path.specs.Graphs.{Start, IsLoopAt}
use Rattle.gh_path.specs.Kept.{start_of}
use Rattle.gh_path.specs.Paths.{ways}
use Rattle.gh_path.specs.Roots.{AreRoots, IsAfter, from_start}
use Rattle.gh_path.specs.declared.ahead.PathCounts.{PathCounts}
use Rattle.gh_path.specs.declared.node.Node.{Node}
use Rattle.gh_path.specs.declared.starts.Root.{Root}
use Rattle.gh_path.proofs.AheadLemmas.{ahead_entry, ahead_round, ahead_tells}
use Rattle.gh_path.proofs.ListLemmas.{next, member}
use Rattle.gh_path.proofs.PassedLemmas.{few_of}

pub procedure_there : (ps : List whole.Procedure) (i : ℕ) (r : whole.Procedure) → i < length ps → r ≡ get_or ps i r
    → slice_get (map procedure_of ps) i ≡ Some (procedure_of r)
procedure_there ps i r within is =
    slice_get-map procedure_of ps i ∙ ap (option_map procedure_of) (slice_get_read ps (length ps) i r refl within is)

pub few_there : (P : Program) (i : ℕ) (proc : Procedure) → NoneHas P (HasManyPaths P)
    → slice_get P.procedures i ≡ Some proc → length (courses_of P proc) ≤ most_conditions
few_there P i proc none at = few_of P proc (none proc (member P.procedures i proc at))

-- what is left of a list
pub after_next : {A : Type 0} (xs ys zs : List A) (n m k : ℕ) → m ≡ length ys + k → IsAfter xs n (ys ++ zs) m
    → IsAfter xs n zs k
after_next xs ys zs n m k sum is = record {
  front = is.front ++ ys;
  split = is.split ∙ sym (append_assoc is.front ys zs);
  place = omega (arith, is.place, sum, length-append is.front ys);
}

pub after_none : {A : Type 0} (xs : List A) (n m : ℕ) → IsAfter xs n [] m → length xs ≤ n
after_none xs n m is =
    let count : length xs ≡ length (is.front ++ []) = ap length is.split in
    let none : length (is.front ++ []) ≡ length is.front + 0 = length-append is.front [] in
    omega (arith, is.place, count, none)

pub all_after : {A : Type 0} (xs : List A) (n : ℕ) → IsAfter xs n xs n
all_after xs n = record { front = []; split = refl; place = omega arith }

-- the conditions of a start that is passed
pub roots_go : (P : Program) (ns : List Node) (rs : List Root) (i : ℕ) (r : Root) (cs : List Condition) → i < length rs
    → r ≡ get_or rs i r → AreRoots P ns (drop i rs) cs → AreRoots P ns (r ∷ drop (i + 1) rs) cs
roots_go P ns rs i r cs within is roots = subst (λ qs. AreRoots P ns qs cs) (next rs i r within is) roots

start_long : (P : Program) (proc : Procedure) (n : ℕ) (a : Start)
    → length (from_start P proc n a) ≡ length (ways (graph_from P proc a))
start_long P proc n a =
    length-map (map (course a) (ways (graph_from P proc a))) (condition n)
    ∙ length-map (ways (graph_from P proc a)) (course a)

pub start_passed : (P : Program) (ns : List Node) (rs : List Root) (r : Root) (cs ds : List Condition) (n m k : ℕ)
    → m ≡ r.count + k → AreRoots P ns (r ∷ rs) ds → IsAfter cs n ds m →
    (es : List Condition) × AreRoots P ns rs es × IsAfter cs n es k
start_passed P ns rs r cs ds n m k sum (proc, es, root, rest, split) after =
    let a = start_of r.start in
    let first = from_start P proc r.procedure a in (
      es,
      rest,
      after_next cs first es n m k (omega (arith, sum, root.count, start_long P proc r.procedure a))
          (subst (λ xs. IsAfter cs n xs m) split after),
    )

pub starts_over : (P : Program) (ns : List Node) (rs : List Root) (i : ℕ) (cs ds : List Condition) (n m : ℕ)
    → length rs ≤ i → AreRoots P ns (drop i rs) ds → IsAfter cs n ds m → length cs ≤ n
starts_over P ns rs i cs ds n m past roots after =
    let none : ds ≡ [] = subst (λ qs. AreRoots P ns qs ds) (drop_of_length-le rs past) roots in
    after_none cs n m (subst (λ xs. IsAfter cs n xs m) none after)

-- what lies ahead of a start is how many ways it has
course_long : (P : Program) (proc : Procedure) (a : Start) (rest : List Start)
    → length (from_starts P proc (a ∷ rest)) ≡ length (ways (graph_from P proc a)) + length (from_starts P proc rest)
course_long P proc a rest =
    let one = map (course a) (ways (graph_from P proc a)) in
    let long : length one ≡ length (ways (graph_from P proc a)) = length-map (ways (graph_from P proc a)) (course a) in
    omega (arith, long, length-append one (from_starts P proc rest))

pub entry_count : (P : Program) (proc : Procedure) → length (courses_of P proc) ≤ most_conditions
    → (entry_ahead proc).count ≡ length (ways (graph_from P proc at_entry))
entry_count P proc few =
    let g = graph_from P proc at_entry in
    let told : (entry_ahead proc).count ≡ min (length (ways g)) (most_conditions + 1) =
    ap (λ (a : PathCounts). a.count) (sym (ahead_entry P proc)) ∙ (ahead_tells g).count in
    omega (arith, told, few, course_long P proc at_entry (loop_starts 0 (loops_of proc)))

among_rounds : (P : Program) (proc : Procedure) (k n : ℕ) (ls : List While) → n < length ls
    → length (ways (graph_from P proc (at_loop (k + n)))) ≤ length (from_starts P proc (loop_starts k ls))
among_rounds P proc k n [] within = absurd (omega (arith, within))
among_rounds P proc k zero (m ∷ ls) within =
    let same : k + 0 ≡ k = omega arith in
    let here : length (ways (graph_from P proc (at_loop (k + 0)))) ≡ length (ways (graph_from P proc (at_loop k))) =
    ap (λ j. length (ways (graph_from P proc (at_loop j)))) same in
    omega (arith, here, course_long P proc (at_loop k) (loop_starts (suc k) ls))
among_rounds P proc k (suc n) (m ∷ ls) within =
    let same : k + suc n ≡ suc k + n = omega arith in
    let here : length (ways (graph_from P proc (at_loop (k + suc n))))
    ≡ length (ways (graph_from P proc (at_loop (suc k + n)))) =
    ap (λ j. length (ways (graph_from P proc (at_loop j)))) same in
    let less : n < length ls = omega (arith, within) in
    omega (arith, here, among_rounds P proc (suc k) n ls less, course_long P proc (at_loop k) (loop_starts (suc k) ls))

pub round_count : (P : Program) (proc : Procedure) (n : ℕ) (l : While) → IsLoopAt proc n l
    → length (courses_of P proc) ≤ most_conditions
    → (loop_ahead l).count ≡ length (ways (graph_from P proc (at_loop n)))
round_count P proc n l is few =
    let g = once_around P n l in
    let told : (loop_ahead l).count ≡ min (length (ways g)) (most_conditions + 1) =
    ap (λ (a : PathCounts). a.count) (sym (ahead_round P n l)) ∙ (ahead_tells g).count in
    let same : length (ways (graph_from P proc (at_loop n))) ≡ length (ways g) =
    ap (λ o. length (ways (loop_graph P n o))) is in
    let place : 0 + n ≡ n = omega arith in
    let here : length (ways (graph_from P proc (at_loop (0 + n)))) ≡ length (ways (graph_from P proc (at_loop n))) =
    ap (λ j. length (ways (graph_from P proc (at_loop j)))) place in
    omega (
      arith,
      told,
      same,
      here,
      among_rounds P proc 0 n (loops_of proc) (slice_get_within (loops_of proc) n l is),
      few,
      course_long P proc at_entry (loop_starts 0 (loops_of proc)),
    )
