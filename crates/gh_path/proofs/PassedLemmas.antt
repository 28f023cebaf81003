-- The first procedure that passes a limit, and how many conditions there are together.
use Rattle.std.specs.Prelude.{◌≡◌, ℕ, suc, ◌+◌, ◌*◌, ◌<◌, ◌≤◌, List, [], ◌∷◌, map, length, get_or}
use Rattle.std.proofs.Common.{refl, sym, ◌∙◌, ap, subst, inl, inr, arith}
use Rattle.std.proofs.lemmas.List.{length-map, length-append, get_or-map, get_or_default}
use Rattle.gh_base.proofs.ListLemmas.{over_or}
use Rattle.gh_ast.specs.Lists.{IsFirstWith}
use Rattle.gh_ast.specs.Plain.{Procedure, Program, procedure_of, program_of}
use Rattle.gh_ast.specs.declared.Procedure as whole
use Rattle.gh_ast.specs.declared.Program as program
use Rattle.gh_ast.specs.declared.typed.Limit.{Limit}
use Rattle.gh_ast.proofs.Lists.{member_first, member_later}
use Rattle.gh_path.specs.Admitted.{most_conditions, most_steps, HasManyPaths, HasManySteps, FirstOf, NoneHas, NoneOf}
use Rattle.gh_path.specs.Conditions.{condition, courses_of, from_procedures}
use Rattle.gh_path.specs.Counting.{procedure_ahead, all_counts}
use Rattle.gh_path.specs.declared.ahead.PathCounts.{PathCounts}
use Rattle.gh_path.proofs.AheadLemmas.{procedure_tells, many_paths, few_paths, many_steps, few_steps}

abbrev pub IsWide : PathCounts → Type 0
IsWide a = most_conditions < a.count

abbrev pub IsLong : PathCounts → Type 0
IsLong a = most_steps + 1 < a.reach

-- a limit that is told by what lies ahead
pub record IsTold (Q : Procedure → Type 0) (R : PathCounts → Type 0) : Type 0 where
  pub sound : (p : Procedure) → R (procedure_ahead p) → Q p
  pub complete : (p : Procedure) → Q p → R (procedure_ahead p)

pub paths_told : (P : Program) → IsTold (HasManyPaths P) IsWide
paths_told P = record {
  sound = many_paths P;
  complete =
      λ proc many. elim (over_or most_conditions (procedure_ahead proc).count)
      [ inl over ↦ over | inr few ↦ absurd (few_paths P proc few many) ];
}

pub steps_told : (P : Program) → IsTold (HasManySteps P) IsLong
steps_told P = record {
  sound = many_steps P;
  complete =
      λ proc many. elim (over_or (most_steps + 1) (procedure_ahead proc).reach)
      [ inl over ↦ over | inr few ↦ absurd (few_steps P proc few many) ];
}

-- none of the first k
abbrev pub NoneBefore : (PathCounts → Type 0) → List PathCounts → ℕ → Type 0
NoneBefore R aheads k = (j : ℕ) (d : PathCounts) → j < k → R (get_or aheads j d) → ⊥

pub one_more : (R : PathCounts → Type 0) (aheads : List PathCounts) (k : ℕ) (d : PathCounts) → k < length aheads
    → NoneBefore R aheads k → (R (get_or aheads k d) → ⊥) → NoneBefore R aheads (k + 1)
one_more R aheads k d within none here j e less r = elim (over_or j k) [
  | inl before ↦ none j e before r
  | inr after ↦
      let same : j ≡ k = omega (arith, after, less) in
      here (subst R (ap (λ i. get_or aheads i e) same ∙ get_or_default aheads k e d within) r)
]

pub first_of : (Q : Procedure → Type 0) (R : PathCounts → Type 0) → IsTold Q R
    → (ps : List Procedure) (aheads : List PathCounts) → aheads ≡ map procedure_ahead ps
    → (k : ℕ) (d : Procedure) (a : PathCounts) → k < length ps → NoneBefore R aheads k → R (get_or aheads k a)
    → IsFirstWith Q ps (get_or ps k d)
first_of Q R told ps aheads same k d a within none here = record {
  place = k;
  within = within;
  element = get_or_default ps k (get_or ps k d) d within;
  holds =
      told.sound (get_or ps k d)
      (subst R (ap (λ xs. get_or xs k a) same ∙ get_or-map procedure_ahead ps k d a within) here);
  earlier = λ j e less q. none j a less
      (subst R (sym (ap (λ xs. get_or xs j a) same ∙ get_or-map procedure_ahead ps j e a (omega (arith, less, within))))
      (told.complete (get_or ps j e) q));
}

pub none_of : (Q : Procedure → Type 0) (R : PathCounts → Type 0) → IsTold Q R
    → (ps : List Procedure) (aheads : List PathCounts) → aheads ≡ map procedure_ahead ps
    → NoneBefore R aheads (length aheads) → NoneOf ps Q
none_of Q R told ps aheads same none p there q =
    let count : length aheads ≡ length ps = ap length same ∙ length-map ps procedure_ahead in
    none there.0 (procedure_ahead p) (omega (arith, count, there.1))
    (subst R (sym (ap (λ xs. get_or xs there.0 (procedure_ahead p)) same
    ∙ get_or-map procedure_ahead ps there.0 p (procedure_ahead p) there.1 ∙ ap procedure_ahead there.2))
    (told.complete p q))

-- with few conditions each
pub exact : (P : Program) (proc : Procedure) → (HasManyPaths P proc → ⊥)
    → (procedure_ahead proc).count ≡ length (courses_of P proc)
exact P proc few =
    elim (over_or most_conditions (length (courses_of P proc)))
    [ inl many ↦ absurd (few many) | inr less ↦ omega (arith, less, (procedure_tells P proc).count) ]

pub few_of : (P : Program) (proc : Procedure) → (HasManyPaths P proc → ⊥) → length (courses_of P proc) ≤ most_conditions
few_of P proc few =
    elim (over_or most_conditions (length (courses_of P proc))) [ inl many ↦ absurd (few many) | inr less ↦ less ]

-- the conditions of a procedure, and those of the others
first_long : (P : Program) (n : ℕ) (proc : Procedure) (ps : List Procedure)
    → length (from_procedures P n (proc ∷ ps)) ≡ length (courses_of P proc) + length (from_procedures P (suc n) ps)
first_long P n proc ps =
    let one = map (condition n) (courses_of P proc) in
    let long : length one ≡ length (courses_of P proc) = length-map (courses_of P proc) (condition n) in
    omega (arith, long, length-append one (from_procedures P (suc n) ps))

pub together : (P : Program) (n : ℕ) (ps : List Procedure) → NoneOf ps (HasManyPaths P)
    → all_counts (map procedure_ahead ps) ≡ length (from_procedures P n ps)
together P n [] none = refl
together P n (proc ∷ ps) none =
    omega (
      arith,
      exact P proc (none proc (member_first proc ps)),
      together P (suc n) ps (λ q there. none q (member_later proc q ps there)),
      first_long P n proc ps,
    )

pub bounded : (P : Program) (n : ℕ) (ps : List Procedure) → NoneOf ps (HasManyPaths P)
    → length (from_procedures P n ps) ≤ most_conditions * length ps
bounded P n [] none = omega arith
bounded P n (proc ∷ ps) none =
    let longer : length (proc ∷ ps) ≡ length ps + 1 = omega arith in
    omega (
      arith,
      few_of P proc (none proc (member_first proc ps)),
      bounded P (suc n) ps (λ q there. none q (member_later proc q ps there)),
      first_long P n proc ps,
      longer,
    )

pub first_limit : (Q : Procedure → Type 0) (R : PathCounts → Type 0) → IsTold Q R
    → (ps : List whole.Procedure) (aheads : List PathCounts) → aheads ≡ map procedure_ahead (map procedure_of ps)
    → (k : ℕ) (r : whole.Procedure) (a : PathCounts) (kind number : ℕ) (l : Limit) → k < length aheads
    → NoneBefore R aheads k → R (get_or aheads k a)
    → l.kind ≡ kind → l.span ≡ (get_or ps k r).name.span → l.count ≡ number
    → FirstOf (map procedure_of ps) Q kind number l
first_limit Q R told ps aheads same k r a kind number l within none here kind_is span count =
    let long : length aheads ≡ length (map procedure_of ps) =
    ap length same ∙ length-map (map procedure_of ps) procedure_ahead in
    let longer : length (map procedure_of ps) ≡ length ps = length-map ps procedure_of in
    record {
      procedure = get_or (map procedure_of ps) k (procedure_of r);
      first =
          first_of Q R told (map procedure_of ps) aheads same k (procedure_of r) a (omega (arith, within, long)) none
          here;
      kind_is = kind_is;
      span = span ∙ sym (ap (λ (q : Procedure). q.name.span)
          (get_or-map procedure_of ps k r (procedure_of r) (omega (arith, within, long, longer))));
      count = count;
    }

-- what is said of the procedures as they are read, said of the program
pub none_has : (Q : Procedure → Type 0) (ps : List whole.Procedure) (p q : program.Program) → ps ≡ p.procedures.items
    → p ≡ q → NoneOf (map procedure_of ps) Q → NoneHas (program_of q) Q
none_has Q ps p q same whole none =
    let all : ps ≡ q.procedures.items = same ∙ ap (λ (r : program.Program). r.procedures.items) whole in
    subst (λ xs. NoneOf (map procedure_of xs) Q) all none
