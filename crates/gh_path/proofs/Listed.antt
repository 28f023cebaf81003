-- The listed conditions are all conditions.
use Rattle.std.specs.Prelude.{◌≡◌, ℕ, zero, suc, ◌+◌, List, [], ◌∷◌, map, slice_get, Some, Contains}
use Rattle.std.proofs.lemmas.List.Elements.{Contains-append_left, Contains-append_right, Contains-append_cases}
use Rattle.std.proofs.Common.{refl, sym, ◌∙◌, ap, subst, inl, inr, arith}
use Rattle.gh_ast.specs.Plain.{Procedure, Program}
use Rattle.gh_path.specs.Graphs.{Start, starts, graph_from}
use Rattle.gh_path.specs.Paths.{Path, Way, ways}
use Rattle.gh_path.specs.Conditions.{Course, course, from_starts, courses_of, Condition, condition, from_procedures}
use Rattle.gh_path.specs.Conditions.{conditions, IsCondition}
use Rattle.gh_path.specs.Laws.{AllAreListed}
use Rattle.gh_ast.proofs.Lists.{member_first, member_later, member_cases, no_member}
use Rattle.gh_path.proofs.ListLemmas.{no_some, same_some}
use Rattle.gh_path.proofs.Order.{paths_have_one_list}

mapped : {A B : Type 0} (f : A → B) (xs : List A) (x : A) → Contains xs x → Contains (map f xs) (f x)
mapped f [] x i = absurd (no_member x i)
mapped f (w ∷ xs) x i = elim (member_cases w xs x i) [
  | inl same ↦ subst (λ y. Contains (map f (w ∷ xs)) (f y)) same (member_first (f w) (map f xs))
  | inr more ↦ member_later (f w) (f x) (map f xs) (mapped f xs x more)
]

unmapped : {A B : Type 0} (f : A → B) (xs : List A) (y : B) → Contains (map f xs) y
    → (x : A) × Contains xs x × (f x ≡ y)
unmapped f [] y i = absurd (no_member y i)
unmapped f (w ∷ xs) y i = elim (member_cases (f w) (map f xs) y i) [
  | inl same ↦ (w, member_first w xs, same)
  | inr more ↦ let found = unmapped f xs y more in (found.0, member_later w found.0 xs found.1, found.2)
]

-- a course from some start
abbrev IsFrom : Program → Procedure → List Start → Course → Type 0
IsFrom P proc all d =
    (a : Start) × (w : Way) × Contains all a × Contains (ways (graph_from P proc a)) w × (course a w ≡ d)

to_start : (P : Program) (proc : Procedure) (all : List Start) (d : Course) → Contains (from_starts P proc all) d
    → IsFrom P proc all d
to_start P proc [] d i = absurd (no_member d i)
to_start P proc (a ∷ all) d i =
    elim (Contains-append_cases (map (course a) (ways (graph_from P proc a))) (from_starts P proc all) d i) [
      | inl here ↦ let found = unmapped (course a) (ways (graph_from P proc a)) d here in
          (a, found.0, member_first a all, found.1, found.2)
      | inr there ↦ let found = to_start P proc all d there in
          (found.0, found.1, member_later a found.0 all found.2, found.3, found.4)
    ]

from_start : (P : Program) (proc : Procedure) (all : List Start) (a : Start) (w : Way) → Contains all a
    → Contains (ways (graph_from P proc a)) w → Contains (from_starts P proc all) (course a w)
from_start P proc [] a w i j = absurd (no_member a i)
from_start P proc (b ∷ all) a w i j = elim (member_cases b all a i) [
  | inl same ↦ Contains-append_left (map (course b) (ways (graph_from P proc b))) (from_starts P proc all) (course a w)
      (subst (λ s. Contains (map (course b) (ways (graph_from P proc b))) (course s w)) same
      (mapped (course b) (ways (graph_from P proc b)) w
      (subst (λ s. Contains (ways (graph_from P proc s)) w) (sym same) j)))
  | inr more ↦ Contains-append_right (map (course b) (ways (graph_from P proc b))) (from_starts P proc all) (course a w)
      (from_start P proc all a w more j)
]

-- a path from a start of the procedure is one of its courses
pub course_there : (P : Program) (proc : Procedure) (a : Start) (w : Way) → Contains (starts proc) a
    → Path (graph_from P proc a) w.steps w.check → Contains (courses_of P proc) (course a w)
course_there P proc a w begins leads =
    from_start P proc (starts proc) a w begins (((paths_have_one_list (graph_from P proc a)).is_list.members w).1 leads)

-- the procedure of a number, and one of its courses
abbrev IsOfSome : Program → ℕ → List Procedure → Condition → Type 0
IsOfSome P n ps c =
    (k : ℕ) × (proc : Procedure) × (d : Course) × (slice_get ps k ≡ Some proc) × Contains (courses_of P proc) d
    × (condition (n + k) d ≡ c)

to_procedure : (P : Program) (n : ℕ) (ps : List Procedure) (c : Condition) → Contains (from_procedures P n ps) c
    → IsOfSome P n ps c
to_procedure P n [] c i = absurd (no_member c i)
to_procedure P n (proc ∷ rest) c i =
    elim (Contains-append_cases (map (condition n) (courses_of P proc)) (from_procedures P (suc n) rest) c i) [
      | inl here ↦
          let found = unmapped (condition n) (courses_of P proc) c here in
          let same : n + 0 ≡ n = omega arith in
          (0, proc, found.0, refl, found.1, ap (λ k. condition k found.0) same ∙ found.2)
      | inr there ↦
          let found = to_procedure P (suc n) rest c there in
          let same : n + suc found.0 ≡ suc n + found.0 = omega arith in
          (suc found.0, found.1, found.2, found.3, found.4, ap (λ k. condition k found.2) same ∙ found.5)
    ]

from_procedure : (P : Program) (n : ℕ) (ps : List Procedure) (k : ℕ) (proc : Procedure) (d : Course)
    → slice_get ps k ≡ Some proc → Contains (courses_of P proc) d
    → Contains (from_procedures P n ps) (condition (n + k) d)
from_procedure P n [] k proc d at j = absurd (no_some proc at)
from_procedure P n (q ∷ rest) zero proc d at j =
    let same : n ≡ n + 0 = omega arith in
    let mine : Contains (courses_of P q) d = subst (λ r. Contains (courses_of P r) d) (sym (same_some q proc at)) j in
    Contains-append_left (map (condition n) (courses_of P q)) (from_procedures P (suc n) rest) (condition (n + 0) d)
    (subst (λ m. Contains (map (condition n) (courses_of P q)) (condition m d)) same
    (mapped (condition n) (courses_of P q) d mine))
from_procedure P n (q ∷ rest) (suc k) proc d at j =
    let same : suc n + k ≡ n + suc k = omega arith in
    Contains-append_right (map (condition n) (courses_of P q)) (from_procedures P (suc n) rest)
    (condition (n + suc k) d)
    (subst (λ m. Contains (from_procedures P (suc n) rest) (condition m d)) same
    (from_procedure P (suc n) rest k proc d at j))

pub listed : (P : Program) (c : Condition) → IsCondition P c → Contains (conditions P) c
listed P c is =
    let same : 0 + c.procedure ≡ c.procedure = omega arith in
    subst (λ m. Contains (conditions P) (condition m (course c.start c.way))) same
    (from_procedure P 0 P.procedures c.procedure is.procedure (course c.start c.way) is.of
    (course_there P is.procedure c.start c.way is.begins is.leads))

is_condition : (P : Program) (k : ℕ) (proc : Procedure) (d : Course) → slice_get P.procedures k ≡ Some proc
    → Contains (courses_of P proc) d → IsCondition P (condition k d)
is_condition P k proc d at j =
    let found = to_start P proc (starts proc) d j in
    let a = found.0 in
    let w = found.1 in
    let is : IsCondition P (condition k (course a w)) =
    record {
      procedure = proc;
      of = at;
      begins = found.2;
      leads = ((paths_have_one_list (graph_from P proc a)).is_list.members w).0 found.3;
    } in
    subst (λ e. IsCondition P (condition k e)) found.4 is

pub all_are_listed : AllAreListed
all_are_listed P c = (
  λ i.
      let found = to_procedure P 0 P.procedures c i in
      let same : found.0 ≡ 0 + found.0 = omega arith in
      subst (IsCondition P) (ap (λ k. condition k found.2) same ∙ found.5)
      (is_condition P found.0 found.1 found.2 found.3 found.4),
  listed P c,
)
