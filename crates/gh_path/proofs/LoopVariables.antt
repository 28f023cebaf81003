-- The variables that a loop assigns are variables of the procedure.
use Rattle.std.specs.Prelude.{◌≡◌, ◌⊎◌, ℕ, List, [], ◌∷◌, ◌++◌, map, filter, Bool, true, false, ◌||◌, cond, Contains}
use Rattle.std.specs.List.{list_any}
use Rattle.std.specs.Str.{bytes_eq}
use Rattle.std.proofs.Common.{refl, sym, ◌∙◌, ap, subst, inl, inr}
use Rattle.std.proofs.lemmas.Bool.{cases_Bool, false≢true}
use Rattle.std.proofs.lemmas.List.Elements.{Contains-append_left, Contains-append_right, Contains-append_cases}
use Rattle.std.proofs.lemmas.Slice.Eq.{bytes_eq-Decides}
use Rattle.std.proofs.lemmas.Option.{slice_get_within, get_or_from_slice_get}
use Rattle.gh_base.proofs.ListLemmas.{either_holds}
use Rattle.gh_ast.specs.declared.Occ.{Occ}
use Rattle.gh_ast.specs.Plain.{Statement, set, new, write, free, call, if, while, return, Statements, no_statements}
use Rattle.gh_ast.specs.Plain.{statement_first, Procedure, Program}
use Rattle.gh_ast.specs.Programs.{Name, names, body_statements, variable_names, Assigns, SomeAssigns}
use Rattle.gh_ast.specs.Occurrences.{in_expr, in_exprs, in_cond, in_assertion, Site, mentioned, assigned as assigned_at}
use Rattle.gh_ast.specs.Occurrences.{called as called_at, sites_in, all_sites_in}
use Rattle.gh_ast.specs.Rules.{IsTyped}
use Rattle.gh_ast.proofs.Lists.{member_first, member_later, member_cases, no_member}
use Rattle.gh_ast.proofs.Sites.{member_map, occurrence_of, site_in_body}
use Rattle.gh_ast.proofs.TypedPrograms.{mention_is_variable}
use Rattle.gh_path.specs.Graphs.{While, loops, all_loops, loops_of, IsLoopAt}
use Rattle.gh_path.specs.Terms.{assigns, some_assigns}

abbrev pub NamesIn : List Name → Statements → Type 0
NamesIn xs ss = (n : Name) → SomeAssigns ss n → Contains xs n

mutual
  loop_names : (xs : List Name) (s : Statement) (l : While) → ((n : Name) → Assigns s n → Contains xs n)
      → Contains (loops s) l → NamesIn xs l.body
  loop_names xs (set x e) l N there = absurd (no_member l there)
  loop_names xs (new x) l N there = absurd (no_member l there)
  loop_names xs (write x e) l N there = absurd (no_member l there)
  loop_names xs (free x) l N there = absurd (no_member l there)
  loop_names xs (call ys f es) l N there = absurd (no_member l there)
  loop_names xs (if t a c b d) l N there = elim (Contains-append_cases (all_loops a) (all_loops b) l there) [
    | inl first ↦ loops_names xs a l (λ n m. N n (inl m)) first
    | inr second ↦ loops_names xs b l (λ n m. N n (inr m)) second
  ]
  loop_names xs (while at t i body close) l N there =
      elim (member_cases (record { at = at; test = t; invariant = i; body = body; close = close }) (all_loops body) l
      there) [
        | inl same ↦ subst (λ (k : While). NamesIn xs k.body) same N
        | inr inner ↦ loops_names xs body l N inner
      ]
  loop_names xs (return at es) l N there = absurd (no_member l there)

  loops_names : (xs : List Name) (ss : Statements) (l : While) → NamesIn xs ss → Contains (all_loops ss) l
      → NamesIn xs l.body
  loops_names xs no_statements l N there = absurd (no_member l there)
  loops_names xs (statement_first s ss) l N there = elim (Contains-append_cases (loops s) (all_loops ss) l there) [
    | inl first ↦ loop_names xs s l (λ n m. N n (inl m)) first
    | inr second ↦ loops_names xs ss l (λ n m. N n (inr m)) second
  ]

-- what is assigned is mentioned
abbrev MentionedAt : List Site → Name → Type 0
MentionedAt xs y = (o : Occ) × Contains xs (mentioned o) × (o.name ≡ y)

mention_within : (xs ys : List Site) (y : Name) → ((x : Site) → Contains xs x → Contains ys x) → MentionedAt xs y
    → MentionedAt ys y
mention_within xs ys y within m = (m.0, within (mentioned m.0) m.1, m.2)

mutual
  mention : (inside : Bool) (s : Statement) (y : Name) → Assigns s y → MentionedAt (sites_in inside s) y
  mention inside (set t e) y is = (
    t,
    member_later (assigned_at (t ∷ [])) (mentioned t) (map mentioned (t ∷ in_expr e))
        (member_first (mentioned t) (map mentioned (in_expr e))),
    sym is,
  )
  mention inside (new t) y is =
      (t, member_later (assigned_at (t ∷ [])) (mentioned t) (mentioned t ∷ []) (member_first (mentioned t) []), sym is)
  mention inside (write a e) y is = absurd is
  mention inside (free a) y is = absurd is
  mention inside (call ts c es) y is =
      let found = occurrence_of ts y is in (
        found.0,
        member_later (assigned_at ts) (mentioned found.0) (called_at ts c es ∷ map mentioned (ts ++ in_exprs es))
            (member_later (called_at ts c es) (mentioned found.0) (map mentioned (ts ++ in_exprs es))
            (member_map mentioned (ts ++ in_exprs es) found.0
            (Contains-append_left ts (in_exprs es) found.0 found.1))),
        found.2,
      )
  mention inside (if t a ca b cb) y is = elim is [
    | inl m ↦ mention_within (all_sites_in inside a) (sites_in inside (if t a ca b cb)) y
        (λ x c. Contains-append_left (map mentioned (in_cond t) ++ all_sites_in inside a) (all_sites_in inside b) x
        (Contains-append_right (map mentioned (in_cond t)) (all_sites_in inside a) x c)) (mentions inside a y m)
    | inr m ↦ mention_within (all_sites_in inside b) (sites_in inside (if t a ca b cb)) y
        (λ x c. Contains-append_right (map mentioned (in_cond t) ++ all_sites_in inside a) (all_sites_in inside b) x c)
        (mentions inside b y m)
  ]
  mention inside (while at t i body close) y is =
      mention_within (all_sites_in true body) (sites_in inside (while at t i body close)) y
      (λ x c. Contains-append_right (map mentioned (in_cond t ++ in_assertion i)) (all_sites_in true body) x c)
      (mentions true body y is)
  mention inside (return at es) y is = absurd is

  mentions : (inside : Bool) (ss : Statements) (y : Name) → SomeAssigns ss y → MentionedAt (all_sites_in inside ss) y
  mentions inside no_statements y is = absurd is
  mentions inside (statement_first s ss) y is = elim is [
    | inl m ↦ mention_within (sites_in inside s) (all_sites_in inside (statement_first s ss)) y
        (λ x c. Contains-append_left (sites_in inside s) (all_sites_in inside ss) x c) (mention inside s y m)
    | inr m ↦ mention_within (all_sites_in inside ss) (all_sites_in inside (statement_first s ss)) y
        (λ x c. Contains-append_right (sites_in inside s) (all_sites_in inside ss) x c) (mentions inside ss y m)
  ]

-- a loop of a procedure assigns variables of it alone
pub loop_is_over : (P : Program) → IsTyped P → (proc : Procedure) → Contains P.procedures proc → (n : ℕ) (l : While)
    → IsLoopAt proc n l → NamesIn (variable_names proc) l.body
loop_is_over P typed proc declared n l at =
    loops_names (variable_names proc) (body_statements proc) l
    (λ y m.
    let found = mentions false (body_statements proc) y m in
    subst (Contains (variable_names proc)) found.2
    (mention_is_variable P typed proc declared found.0 (site_in_body proc (mentioned found.0) found.1)))
    (n, slice_get_within (loops_of proc) n l at, get_or_from_slice_get (loops_of proc) n l l at)

-- the test of what is assigned
either_true : (a b : Bool) → (a ≡ true) ⊎ (b ≡ true) → (a || b) ≡ true
either_true true b e = refl
either_true false b e = elim e [ inl f ↦ absurd (false≢true f) | inr f ↦ f ]

some_equal : (y : Name) (xs : List Name) → Contains xs y → list_any (bytes_eq y) xs ≡ true
some_equal y [] there = absurd (no_member y there)
some_equal y (x ∷ xs) there = either_true (bytes_eq y x) (list_any (bytes_eq y) xs) (elim (member_cases x xs y there) [
  | inl same ↦ inl ((bytes_eq-Decides y x).1 (sym same))
  | inr more ↦ inr (some_equal y xs more)
])

mutual
  pub assigns_true : (s : Statement) (y : Name) → Assigns s y → assigns s y ≡ true
  assigns_true (set x e) y is = (bytes_eq-Decides y x.name).1 is
  assigns_true (new x) y is = (bytes_eq-Decides y x.name).1 is
  assigns_true (write a e) y is = absurd is
  assigns_true (free a) y is = absurd is
  assigns_true (call xs f es) y is = some_equal y (names xs) is
  assigns_true (if t a c b d) y is =
      either_true (some_assigns a y) (some_assigns b y)
      (elim is [ inl m ↦ inl (some_assigns_true a y m) | inr m ↦ inr (some_assigns_true b y m) ])
  assigns_true (while at t i body close) y is = some_assigns_true body y is
  assigns_true (return at es) y is = absurd is

  some_assigns_true : (ss : Statements) (y : Name) → SomeAssigns ss y → some_assigns ss y ≡ true
  some_assigns_true no_statements y is = absurd is
  some_assigns_true (statement_first s ss) y is =
      either_true (assigns s y) (some_assigns ss y)
      (elim is [ inl m ↦ inl (assigns_true s y m) | inr m ↦ inr (some_assigns_true ss y m) ])

kept_by : (p : Name → Bool) (xs : List Name) (n : Name) → Contains xs n → p n ≡ true → Contains (filter p xs) n
kept_by p [] n there e = absurd (no_member n there)
kept_by p (x ∷ xs) n there e = elim (cases_Bool (p x)) [
  | inl yes' ↦ subst (λ b. Contains (cond b (x ∷ filter p xs) (filter p xs)) n) (sym yes')
      (elim (member_cases x xs n there) [
        | inl same ↦ subst (Contains (x ∷ filter p xs)) same (member_first x (filter p xs))
        | inr more ↦ member_later x n (filter p xs) (kept_by p xs n more e)
      ])
  | inr off ↦ subst (λ b. Contains (cond b (x ∷ filter p xs) (filter p xs)) n) (sym off)
      (elim (member_cases x xs n there) [
        | inl same ↦ absurd (false≢true (sym off ∙ ap p same ∙ e))
        | inr more ↦ kept_by p xs n more e
      ])
]

-- a name that a loop assigns is among those that get new values
pub assigned_listed : (xs : List Name) (l : While) (n : Name) → NamesIn xs l.body → SomeAssigns l.body n
    → Contains (filter (some_assigns l.body) xs) n
assigned_listed xs l n N m = kept_by (some_assigns l.body) xs n (N n m) (some_assigns_true l.body n m)

-- and back: a name that is kept is assigned
any_equal : (y : Name) (xs : List Name) → list_any (bytes_eq y) xs ≡ true → Contains xs y
any_equal y [] is = absurd (false≢true is)
any_equal y (x ∷ xs) is = elim (either_holds (bytes_eq y x) (list_any (bytes_eq y) xs) is) [
  | inl here ↦ subst (λ z. Contains (z ∷ xs) y) ((bytes_eq-Decides y x).0 here) (member_first y xs)
  | inr more ↦ member_later x y xs (any_equal y xs more)
]

mutual
  pub assigns_is : (s : Statement) (y : Name) → assigns s y ≡ true → Assigns s y
  assigns_is (set x e) y is = (bytes_eq-Decides y x.name).0 is
  assigns_is (new x) y is = (bytes_eq-Decides y x.name).0 is
  assigns_is (write a e) y is = absurd (false≢true is)
  assigns_is (free a) y is = absurd (false≢true is)
  assigns_is (call xs f es) y is = any_equal y (names xs) is
  assigns_is (if t a c b d) y is =
      elim (either_holds (some_assigns a y) (some_assigns b y) is)
      [ inl m ↦ inl (some_assigns_is a y m) | inr m ↦ inr (some_assigns_is b y m) ]
  assigns_is (while at t i body close) y is = some_assigns_is body y is
  assigns_is (return at es) y is = absurd (false≢true is)

  some_assigns_is : (ss : Statements) (y : Name) → some_assigns ss y ≡ true → SomeAssigns ss y
  some_assigns_is no_statements y is = absurd (false≢true is)
  some_assigns_is (statement_first s ss) y is =
      elim (either_holds (assigns s y) (some_assigns ss y) is)
      [ inl m ↦ inl (assigns_is s y m) | inr m ↦ inr (some_assigns_is ss y m) ]

kept_only : (p : Name → Bool) (xs : List Name) (n : Name) → Contains (filter p xs) n → p n ≡ true
kept_only p [] n there = absurd (no_member n there)
kept_only p (x ∷ xs) n there = elim (cases_Bool (p x)) [
  | inl held ↦ elim (member_cases x (filter p xs) n
      (subst (λ b. Contains (cond b (x ∷ filter p xs) (filter p xs)) n) held there)) [
        | inl same ↦ sym (ap p same) ∙ held
        | inr more ↦ kept_only p xs n more
      ]
  | inr off ↦ kept_only p xs n (subst (λ b. Contains (cond b (x ∷ filter p xs) (filter p xs)) n) off there)
]

pub listed_assigned : (xs : List Name) (l : While) (n : Name) → Contains (filter (some_assigns l.body) xs) n
    → SomeAssigns l.body n
listed_assigned xs l n there = some_assigns_is l.body n (kept_only (some_assigns l.body) xs n there)
