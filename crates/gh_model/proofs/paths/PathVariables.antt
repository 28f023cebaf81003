-- The names on a path of a typed program are variables of the procedure.
use Rattle.std.specs.Prelude.{◌≡◌, ℕ, suc, ◌+◌, List, [], ◌∷◌, ◌++◌, length, map, Option, Some, None, Bool, true, false}
use Rattle.std.specs.Prelude.{slice_get, Contains, All}
use Rattle.std.proofs.Common.{refl, sym, subst, inl, inr}
use Rattle.std.proofs.lemmas.List.Elements.{Contains-append_left, Contains-append_right, Contains-append_cases}
use Rattle.gh_ast.specs.declared.Occ.{Occ}
use Rattle.gh_ast.specs.declared.Expr.{Expr}
use Rattle.gh_ast.specs.declared.Expr.TheVariants.{Plain, Read}
use Rattle.gh_ast.specs.Plain.{Cond, compare, negation, conjunction, disjunction, Conds, no_conds, cond_first}
use Rattle.gh_ast.specs.Plain.{Statement, set, new, write, free, call, if, while, return, Statements, no_statements}
use Rattle.gh_ast.specs.Plain.{statement_first, Procedure, Program}
use Rattle.gh_ast.specs.Programs.{Name, names, body_statements, results_of, variable_names}
use Rattle.gh_ast.specs.Names.{ExprIn, CondIn, CondsIn, AssertionIn}
use Rattle.gh_ast.specs.Occurrences.{in_expr, in_exprs, in_cond, in_assertion, Site, mentioned, assigned as assigned_at}
use Rattle.gh_ast.specs.Occurrences.{called as called_at, returned as returned_at, sites_in, all_sites_in, locals_of}
use Rattle.gh_ast.specs.Rules.{IsTyped}
use Rattle.gh_ast.proofs.Lists.{member_first, member_later, member_cases, no_member}
use Rattle.gh_ast.proofs.Sites.{AllIn, member_map, occurrence_of, expr_in, test_in, formula_in, site_in_body}
use Rattle.gh_ast.proofs.TypedPrograms.{mention_is_variable, needs_are_variables, gives_are_variables, variables_split}
use Rattle.gh_path.specs.Graphs.{Check, access, callee_entry, loop_entry, return_check, loop_end, PathStep, access_step}
use Rattle.gh_path.specs.Graphs.{assume_step, set_step, new_step, write_step, free_step, call_step, while_step}
use Rattle.gh_path.specs.Graphs.{return_step, Graph, dead_end, ends, moves, guarded, fork, reads, all_reads, visits}
use Rattle.gh_path.specs.Graphs.{tested, all_tested, some_tested, number_of, lowered, all_lowered, While, loops}
use Rattle.gh_path.specs.Graphs.{all_loops, loops_of, Start, at_entry, at_loop, invariant_of, meets_at, loop_graph}
use Rattle.gh_path.specs.Graphs.{graph_from, IsLoopAt}
use Rattle.gh_path.specs.Paths.{Path, at_end, arrived, past, on, on_true, on_false}
use Rattle.gh_model.proofs.terms.Alternatives.{all_of_members}
use Rattle.gh_path.proofs.ListLemmas.{member as numbered}

abbrev pub AllOf : List Name → List Name → Type 0
AllOf ys xs = (y : Name) → Contains ys y → Contains xs y

abbrev pub ExprsIn : List Expr → List Name → Type 0
ExprsIn [] xs = Unit {0}
ExprsIn (e ∷ es) xs = ExprIn e xs × ExprsIn es xs

abbrev pub IsVariable : Procedure → Name → Type 0
IsVariable q y = Contains (variable_names q) y

-- the invariant of the loop of a number is over variables
abbrev pub LoopIsIn : Procedure → ℕ → Type 0
LoopIsIn q n = (l : While) → IsLoopAt q n l → AssertionIn l.invariant (variable_names q)

abbrev pub StepIn : Procedure → PathStep → Type 0
StepIn q (access_step o) = IsVariable q o.name
StepIn q (assume_step l e r) = ExprIn l (variable_names q) × ExprIn r (variable_names q)
StepIn q (set_step x e) = IsVariable q x.name × ExprIn e (variable_names q)
StepIn q (new_step x) = IsVariable q x.name
StepIn q (write_step x e) = IsVariable q x.name × ExprIn e (variable_names q)
StepIn q (free_step x) = IsVariable q x.name
StepIn q (call_step ys n es) = AllOf (names ys) (variable_names q) × ExprsIn es (variable_names q)
StepIn q (while_step n) = LoopIsIn q n
StepIn q (return_step es) = AllOf (results_of q) (variable_names q) × ExprsIn es (variable_names q)

abbrev pub CheckIn : Procedure → Check → Type 0
CheckIn q (access o) = IsVariable q o.name
CheckIn q (callee_entry at n es) = ExprsIn es (variable_names q)
CheckIn q (loop_entry at n) = LoopIsIn q n
CheckIn q (return_check at) = All (λ f. AssertionIn f (variable_names q)) q.gives
CheckIn q (loop_end at n) = LoopIsIn q n

abbrev pub PathIn : Procedure → List PathStep → Check → Type 0
PathIn q [] c = CheckIn q c
PathIn q (p ∷ ps) c = StepIn q p × PathIn q ps c

abbrev GraphIn : Procedure → Graph → Type 0
GraphIn q dead_end = Unit {0}
GraphIn q (ends c) = CheckIn q c
GraphIn q (moves p g) = StepIn q p × GraphIn q g
GraphIn q (guarded c p g) = CheckIn q c × StepIn q p × GraphIn q g
GraphIn q (fork l e r g k) = ExprIn l (variable_names q) × ExprIn r (variable_names q) × GraphIn q g × GraphIn q k

path_in : (q : Procedure) (g : Graph) (ps : List PathStep) (c : Check) → Path g ps c → GraphIn q g → PathIn q ps c
path_in q g ps c (at_end {c = d}) A = A
path_in q g ps c (arrived {g = h} {step = p} {c = d}) A = A.0
path_in q g ps c (past {g = h} {d = d} {step = p} {ps = qs} {c = k} rest) A = (A.1, path_in q h qs k rest A.2)
path_in q g ps c (on {g = h} {step = p} {ps = qs} {c = k} rest) A = (A.0, path_in q h qs k rest A.1)
path_in q g ps c (on_true {l = l} {e = e} {r = r} {g = h} {k = h'} {ps = qs} {c = k} rest) A =
    ((A.0, A.1), path_in q h qs k rest A.2)
path_in q g ps c (on_false {l = l} {e = e} {r = r} {g = h} {k = h'} {ps = qs} {c = k} rest) A =
    ((A.0, A.1), path_in q h' qs k rest A.3)

reads_in : (q : Procedure) (e : Expr) (g : Graph) → ExprIn e (variable_names q) → GraphIn q g → GraphIn q (reads e g)
reads_in q (Plain o) g E A = A
reads_in q (Read o) g E A = (E, E, A)

all_reads_in : (q : Procedure) (es : List Expr) (g : Graph) → ExprsIn es (variable_names q) → GraphIn q g
    → GraphIn q (all_reads es g)
all_reads_in q [] g E A = A
all_reads_in q (e ∷ es) g E A = reads_in q e (all_reads es g) E.0 (all_reads_in q es g E.1 A)

mutual
  tested_in : (q : Procedure) (t : Cond) (g k : Graph) → CondIn t (variable_names q) → GraphIn q g → GraphIn q k
      → GraphIn q (tested t g k)
  tested_in q (compare l e r) g k T A B =
      reads_in q l (reads r (fork l e r g k)) T.0 (reads_in q r (fork l e r g k) T.1 (T.0, T.1, A, B))
  tested_in q (negation t) g k T A B = tested_in q t k g T B A
  tested_in q (conjunction ts) g k T A B = all_tested_in q ts g k T A B
  tested_in q (disjunction ts) g k T A B = some_tested_in q ts g k T A B

  all_tested_in : (q : Procedure) (ts : Conds) (g k : Graph) → CondsIn ts (variable_names q) → GraphIn q g → GraphIn q k
      → GraphIn q (all_tested ts g k)
  all_tested_in q no_conds g k T A B = A
  all_tested_in q (cond_first t ts) g k T A B =
      tested_in q t (all_tested ts g k) k T.0 (all_tested_in q ts g k T.1 A B) B

  some_tested_in : (q : Procedure) (ts : Conds) (g k : Graph) → CondsIn ts (variable_names q) → GraphIn q g
      → GraphIn q k → GraphIn q (some_tested ts g k)
  some_tested_in q no_conds g k T A B = B
  some_tested_in q (cond_first t ts) g k T A B =
      tested_in q t g (some_tested ts g k) T.0 A (some_tested_in q ts g k T.1 A B)

-- the names at sites
abbrev SitesIn : List Name → List Site → Type 0
SitesIn xs ss = (o : Occ) → Contains ss (mentioned o) → Contains xs o.name

sites_left : (xs : List Name) (ps qs : List Site) → SitesIn xs (ps ++ qs) → SitesIn xs ps
sites_left xs ps qs S o c = S o (Contains-append_left ps qs (mentioned o) c)

sites_right : (xs : List Name) (ps qs : List Site) → SitesIn xs (ps ++ qs) → SitesIn xs qs
sites_right xs ps qs S o c = S o (Contains-append_right ps qs (mentioned o) c)

sites_past : (xs : List Name) (a : Site) (bs : List Site) → SitesIn xs (a ∷ bs) → SitesIn xs bs
sites_past xs a bs S o c = S o (member_later a (mentioned o) bs c)

mentions_in : (xs : List Name) (os : List Occ) → SitesIn xs (map mentioned os) → AllIn os xs
mentions_in xs os S o c = S o (member_map mentioned os o c)

exprs_in : (xs : List Name) (es : List Expr) → AllIn (in_exprs es) xs → ExprsIn es xs
exprs_in xs [] A = tt
exprs_in xs (e ∷ es) A = (
  expr_in e xs (λ o c. A o (Contains-append_left (in_expr e) (in_exprs es) o c)),
  exprs_in xs es (λ o c. A o (Contains-append_right (in_expr e) (in_exprs es) o c)),
)

targets_in : (xs : List Name) (os : List Occ) → AllIn os xs → AllOf (names os) xs
targets_in xs os A y c = let found = occurrence_of os y c in subst (Contains xs) found.2 (A found.0 found.1)

-- a loop's test, invariant and body
record LoopIn (xs : List Name) (l : While) : Type 0 where
  test : CondIn l.test xs
  invariant : AssertionIn l.invariant xs
  body : SitesIn xs (all_sites_in true l.body)

mutual
  loop_in : (xs : List Name) (inside : Bool) (s : Statement) (l : While) → SitesIn xs (sites_in inside s)
      → Contains (loops s) l → LoopIn xs l
  loop_in xs inside (set x e) l S there = absurd (no_member l there)
  loop_in xs inside (new x) l S there = absurd (no_member l there)
  loop_in xs inside (write x e) l S there = absurd (no_member l there)
  loop_in xs inside (free x) l S there = absurd (no_member l there)
  loop_in xs inside (call ys f es) l S there = absurd (no_member l there)
  loop_in xs inside (if t a c b d) l S there =
      let front = sites_left xs (map mentioned (in_cond t) ++ all_sites_in inside a) (all_sites_in inside b) S in
      elim (Contains-append_cases (all_loops a) (all_loops b) l there) [
        | inl first ↦ loops_in xs inside a l (sites_right xs (map mentioned (in_cond t)) (all_sites_in inside a) front)
            first
        | inr second ↦ loops_in xs inside b l
            (sites_right xs (map mentioned (in_cond t) ++ all_sites_in inside a) (all_sites_in inside b) S) second
      ]
  loop_in xs inside (while at t i body close) l S there =
      let all =
      mentions_in xs (in_cond t ++ in_assertion i)
      (sites_left xs (map mentioned (in_cond t ++ in_assertion i)) (all_sites_in true body) S) in
      let inner = sites_right xs (map mentioned (in_cond t ++ in_assertion i)) (all_sites_in true body) S in
      let own : While = record { at = at; test = t; invariant = i; body = body; close = close } in
      let known : LoopIn xs own = record {
        test = test_in t xs (λ o c. all o (Contains-append_left (in_cond t) (in_assertion i) o c));
        invariant = formula_in i xs (λ o c. all o (Contains-append_right (in_cond t) (in_assertion i) o c));
        body = inner;
      } in
      elim (member_cases own (all_loops body) l there) [
        | inl same ↦ subst (λ (k : While). LoopIn xs k) same known
        | inr more ↦ loops_in xs true body l inner more
      ]
  loop_in xs inside (return at es) l S there = absurd (no_member l there)

  loops_in : (xs : List Name) (inside : Bool) (ss : Statements) (l : While) → SitesIn xs (all_sites_in inside ss)
      → Contains (all_loops ss) l → LoopIn xs l
  loops_in xs inside no_statements l S there = absurd (no_member l there)
  loops_in xs inside (statement_first s ss) l S there = elim (Contains-append_cases (loops s) (all_loops ss) l there) [
    | inl first ↦ loop_in xs inside s l (sites_left xs (sites_in inside s) (all_sites_in inside ss) S) first
    | inr second ↦ loops_in xs inside ss l (sites_right xs (sites_in inside s) (all_sites_in inside ss) S) second
  ]

-- what a procedure gives, its results, and its loops
record IsOwn (q : Procedure) : Type 0 where
  gives : All (λ f. AssertionIn f (variable_names q)) q.gives
  results : AllOf (results_of q) (variable_names q)
  loops : (n : ℕ) (l : While) → IsLoopAt q n l → LoopIn (variable_names q) l

loop_is_in : (q : Procedure) → IsOwn q → (n : ℕ) → LoopIsIn q n
loop_is_in q O n l is = (O.loops n l is).invariant

mutual
  lowered_in : (P : Program) (q : Procedure) (inside : Bool) (n : ℕ) (s : Statement) (g : Graph) → IsOwn q
      → SitesIn (variable_names q) (sites_in inside s) → GraphIn q g → GraphIn q (lowered P n s g)
  lowered_in P q inside n (set x e) g O S A =
      let xs = variable_names q in
      let all =
      mentions_in xs (x ∷ in_expr e) (sites_past xs (assigned_at (x ∷ [])) (map mentioned (x ∷ in_expr e)) S) in
      let E : ExprIn e xs = expr_in e xs (λ o c. all o (member_later x o (in_expr e) c)) in
      reads_in q e (moves (set_step x e) g) E ((all x (member_first x (in_expr e)), E), A)
  lowered_in P q inside n (new x) g O S A =
      (S x (member_later (assigned_at (x ∷ [])) (mentioned x) (mentioned x ∷ []) (member_first (mentioned x) [])), A)
  lowered_in P q inside n (write x e) g O S A =
      let xs = variable_names q in
      let all = mentions_in xs (x ∷ in_expr e) S in
      let E : ExprIn e xs = expr_in e xs (λ o c. all o (member_later x o (in_expr e) c)) in
      let X : Contains xs x.name = all x (member_first x (in_expr e)) in
      reads_in q e (visits x (moves (write_step x e) g)) E (X, X, ((X, E), A))
  lowered_in P q inside n (free x) g O S A = let X : IsVariable q x.name = S x (member_first (mentioned x) []) in
      (X, X, (X, A))
  lowered_in P q inside n (call ts f es) g O S A =
      let xs = variable_names q in
      let rest = map mentioned (ts ++ in_exprs es) in
      let all =
      mentions_in xs (ts ++ in_exprs es)
      (sites_past xs (called_at ts f es) rest (sites_past xs (assigned_at ts) (called_at ts f es ∷ rest) S)) in
      let E = exprs_in xs es (λ o c. all o (Contains-append_right ts (in_exprs es) o c)) in
      let m = number_of P f.name in
      all_reads_in q es (guarded (callee_entry f.span m es) (call_step ts m es) g) E
      (E, (targets_in xs ts (λ o c. all o (Contains-append_left ts (in_exprs es) o c)), E), A)
  lowered_in P q inside n (if t a c b d) g O S A =
      let xs = variable_names q in
      let m = n + length (all_loops a) in
      let front = sites_left xs (map mentioned (in_cond t) ++ all_sites_in inside a) (all_sites_in inside b) S in
      tested_in q t (all_lowered P n a g) (all_lowered P m b g)
      (test_in t xs (mentions_in xs (in_cond t)
      (sites_left xs (map mentioned (in_cond t)) (all_sites_in inside a) front)))
      (all_lowered_in P q inside n a g O (sites_right xs (map mentioned (in_cond t)) (all_sites_in inside a) front) A)
      (all_lowered_in P q inside m b g O
      (sites_right xs (map mentioned (in_cond t) ++ all_sites_in inside a) (all_sites_in inside b) S) A)
  lowered_in P q inside n (while at t i body close) g O S A =
      let xs = variable_names q in
      let all =
      mentions_in xs (in_cond t ++ in_assertion i)
      (sites_left xs (map mentioned (in_cond t ++ in_assertion i)) (all_sites_in true body) S) in (
        loop_is_in q O n,
        loop_is_in q O n,
        tested_in q t dead_end g (test_in t xs (λ o c. all o (Contains-append_left (in_cond t) (in_assertion i) o c)))
            tt A,
      )
  lowered_in P q inside n (return at es) g O S A =
      let xs = variable_names q in
      let E = exprs_in xs es (mentions_in xs (in_exprs es)
      (sites_past xs (returned_at inside at es) (map mentioned (in_exprs es)) S)) in
      all_reads_in q es (moves (return_step es) (ends (return_check at))) E ((O.results, E), O.gives)

  all_lowered_in : (P : Program) (q : Procedure) (inside : Bool) (n : ℕ) (ss : Statements) (g : Graph) → IsOwn q
      → SitesIn (variable_names q) (all_sites_in inside ss) → GraphIn q g → GraphIn q (all_lowered P n ss g)
  all_lowered_in P q inside n no_statements g O S A = A
  all_lowered_in P q inside n (statement_first s ss) g O S A =
      let xs = variable_names q in
      let m = n + length (loops s) in
      lowered_in P q inside n s (all_lowered P m ss g) O (sites_left xs (sites_in inside s) (all_sites_in inside ss) S)
      (all_lowered_in P q inside m ss g O (sites_right xs (sites_in inside s) (all_sites_in inside ss) S) A)

results_are_variables : (q : Procedure) → AllOf (results_of q) (variable_names q)
results_are_variables q y c =
    subst (λ ys. Contains ys y) (sym (variables_split q))
    (Contains-append_left _ (names (locals_of q)) y (Contains-append_right _ (results_of q) y c))

-- a start's assertion and graph
abbrev IsStartIn : Program → Procedure → Start → Type 0
IsStartIn P q a = AssertionIn (meets_at q a) (variable_names q) × GraphIn q (graph_from P q a)

around_in : (P : Program) (q : Procedure) (n : ℕ) → IsOwn q → (o : Option While) → slice_get (loops_of q) n ≡ o
    → AssertionIn (invariant_of o) (variable_names q) × GraphIn q (loop_graph P n o)
around_in P q n O (Some l) e =
    let L = O.loops n l e in
    let end = ends (loop_end l.close n) in (
      L.invariant,
      tested_in q l.test (all_lowered P (suc n) l.body end) dead_end L.test
          (all_lowered_in P q true (suc n) l.body end O L.body (loop_is_in q O n)) tt,
    )
around_in P q n O None e = (tt, tt)

is_start_in : (P : Program) (q : Procedure) → IsOwn q → AssertionIn q.needs (variable_names q)
    → SitesIn (variable_names q) (all_sites_in false (body_statements q)) → (a : Start) → IsStartIn P q a
is_start_in P q O needs S at_entry =
    (needs, all_lowered_in P q false 0 (body_statements q) (ends (return_check q.close)) O S O.gives)
is_start_in P q O needs S (at_loop n) = around_in P q n O (slice_get (loops_of q) n) refl

-- .. and each path from it
pub record StartIn (P : Program) (q : Procedure) (a : Start) : Type 0 where
  pub meets : AssertionIn (meets_at q a) (variable_names q)
  pub graph : (ps : List PathStep) (c : Check) → Path (graph_from P q a) ps c → PathIn q ps c

-- the names of a start and of each path from it
pub start_in : (P : Program) → IsTyped P → (q : Procedure) → Contains P.procedures q → (a : Start) → StartIn P q a
start_in P typed q here a =
    let xs = variable_names q in
    let S : SitesIn xs (all_sites_in false (body_statements q)) =
    λ o c. mention_is_variable P typed q here o (site_in_body q (mentioned o) c) in
    let O : IsOwn q = record {
      gives = all_of_members (λ f. AssertionIn f xs) q.gives (gives_are_variables P typed q here);
      results = results_are_variables q;
      loops = λ n l is. loops_in xs false (body_statements q) l S (numbered (loops_of q) n l is);
    } in
    let both : IsStartIn P q a = is_start_in P q O (needs_are_variables P typed q here) S a in
    record { meets = both.0; graph = λ ps k way. path_in q (graph_from P q a) ps k way both.1 }
