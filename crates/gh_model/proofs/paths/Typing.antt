-- On a path of a typed program each read comes after an access of its variable, and calls and returns have as many
-- values as they should.
use Rattle.std.specs.Prelude.{◌≡◌, ◌≢◌, ◌⊎◌, ℕ, suc, ◌+◌, List, [], ◌∷◌, ◌++◌, length, map, Option, Some, None, Bool}
use Rattle.std.specs.Prelude.{true, false, not, slice_get, AllPairs, All, Contains}
use Rattle.std.proofs.Common.{refl, sym, ◌∙◌, subst, inl, inr, arith}
use Rattle.std.proofs.lemmas.List.{length-map}
use Rattle.std.proofs.lemmas.List.Elements.{All-head, All-tail, Contains-append_left, Contains-append_right}
use Rattle.std.proofs.lemmas.List.Elements.{Contains-append_cases}
use Rattle.gh_ast.specs.declared.Occ.{Occ}
use Rattle.gh_ast.specs.declared.Expr.{Expr}
use Rattle.gh_ast.specs.declared.Expr.TheVariants.{Plain, Read}
use Rattle.gh_ast.specs.Plain.{Cond, compare, negation, conjunction, disjunction, Conds, no_conds, cond_first}
use Rattle.gh_ast.specs.Plain.{Statement, set, new, write, free, call, if, while, return, Statements, no_statements}
use Rattle.gh_ast.specs.Plain.{statement_first, Procedure, Program}
use Rattle.gh_ast.specs.Programs.{Name, names, body_statements, parameters_of, results_of}
use Rattle.gh_ast.specs.Occurrences.{in_exprs, in_cond, in_assertion, Site, mentioned, assigned as assigned_at}
use Rattle.gh_ast.specs.Occurrences.{called as called_at, returned as returned_at, sites_in, all_sites_in, sites_of}
use Rattle.gh_ast.specs.Occurrences.{locals_of}
use Rattle.gh_ast.specs.Rules.{IsTyped}
use Rattle.gh_ast.proofs.Lists.{member_first, member_later, member_cases, no_member}
use Rattle.gh_ast.proofs.Sites.{site_in_body}
use Rattle.gh_ast.proofs.TypedPrograms.{variables_are_distinct, variables_split, targets_are_distinct, callee_is_known}
use Rattle.gh_ast.proofs.TypedPrograms.{counts_agree, values_are_counted}
use Rattle.gh_path.specs.Graphs.{Check, access, callee_entry, loop_entry, return_check, loop_end, PathStep, access_step}
use Rattle.gh_path.specs.Graphs.{assume_step, set_step, new_step, write_step, free_step, call_step, while_step}
use Rattle.gh_path.specs.Graphs.{return_step, Graph, dead_end, ends, moves, guarded, fork, reads, all_reads, visits}
use Rattle.gh_path.specs.Graphs.{tested, all_tested, some_tested, number_of, lowered, all_lowered, While, loops}
use Rattle.gh_path.specs.Graphs.{all_loops, loops_of, Start, at_entry, at_loop, loop_graph, graph_from}
use Rattle.gh_path.specs.Conditions.{Condition, IsCondition, IsOf, StepIsThere, CheckIsThere}
use Rattle.gh_path.specs.Graphs.{IsProcedureAt, IsLoopAt, HasLoop}
use Rattle.gh_path.specs.Paths.{Path, at_end, arrived, past, on, on_true, on_false}
use Rattle.gh_path.proofs.FormLemmas.{callees_are_numbered}
use Rattle.gh_path.proofs.Numbers.{numbers_are_there}
use Rattle.gh_path.proofs.ListLemmas.{got, member as numbered}
use Rattle.gh_model.proofs.paths.Ways.{its_declared, its_path}

abbrev pub ExprReady : (Name → Type 0) → Expr → Type 0
ExprReady R (Plain o) = Unit {0}
ExprReady R (Read o) = R o.name

abbrev pub ExprsReady : (Name → Type 0) → List Expr → Type 0
ExprsReady R [] = Unit {0}
ExprsReady R (e ∷ es) = ExprReady R e × ExprsReady R es

-- no name is listed twice
abbrev pub Distinct : List Name → Type 0
Distinct [] = Unit {0}
Distinct (x ∷ xs) = (Contains xs x → ⊥) × Distinct xs

-- a callee with as many parameters as there are arguments
pub record IsFitEntry (P : Program) (n : ℕ) (es : List Expr) : Type 0 where
  pub callee : Procedure
  pub at : IsProcedureAt P n callee
  pub arguments : length es ≡ length (parameters_of callee)

-- and as many results as there are targets
pub record IsFitCall (P : Program) (ts : List Occ) (n : ℕ) (es : List Expr) : Type 0 where
  pub entry : IsFitEntry P n es
  pub targets : length (names ts) ≡ length (results_of entry.callee)
  pub distinct : Distinct (names ts)

-- the procedure has a loop of the number
abbrev pub IsFitLoop : Procedure → ℕ → Type 0
IsFitLoop p n = (l : While) × IsLoopAt p n l

-- where the variables of R were accessed since the last other step
abbrev pub IsPrepared : Program → Procedure → (Name → Type 0) → PathStep → Type 0
IsPrepared P proc R (access_step o) = Unit {0}
IsPrepared P proc R (assume_step l e r) = ExprReady R l × ExprReady R r
IsPrepared P proc R (set_step x e) = ExprReady R e
IsPrepared P proc R (new_step x) = Unit {0}
IsPrepared P proc R (write_step x e) = ExprReady R e × R x.name
IsPrepared P proc R (free_step x) = R x.name
IsPrepared P proc R (call_step ts n es) = ExprsReady R es × IsFitCall P ts n es
IsPrepared P proc R (while_step n) = IsFitLoop proc n
IsPrepared P proc R (return_step es) =
    ExprsReady R es × (length es ≡ length (results_of proc)) × Distinct (results_of proc)

abbrev pub IsCheckPrepared : Program → Procedure → (Name → Type 0) → Check → Type 0
IsCheckPrepared P proc R (access o) = Unit {0}
IsCheckPrepared P proc R (callee_entry at n es) = ExprsReady R es × IsFitEntry P n es
IsCheckPrepared P proc R (loop_entry at n) = IsFitLoop proc n
IsCheckPrepared P proc R (return_check at) = Unit {0}
IsCheckPrepared P proc R (loop_end at n) = IsFitLoop proc n

abbrev pub Nowhere : Name → Type 0
Nowhere n = ⊥

abbrev pub ready_after : PathStep → (Name → Type 0) → Name → Type 0
ready_after (access_step o) R n = (n ≡ o.name) ⊎ R n
ready_after (assume_step l e r) R n = ⊥
ready_after (set_step x e) R n = ⊥
ready_after (new_step x) R n = ⊥
ready_after (write_step x e) R n = ⊥
ready_after (free_step x) R n = ⊥
ready_after (call_step ts m es) R n = ⊥
ready_after (while_step m) R n = ⊥
ready_after (return_step es) R n = ⊥

abbrev pub ArePrepared : Program → Procedure → (Name → Type 0) → List PathStep → Check → Type 0
ArePrepared P proc R [] c = IsCheckPrepared P proc R c
ArePrepared P proc R (s ∷ ss) c = IsPrepared P proc R s × ArePrepared P proc (ready_after s R) ss c

-- the same of each path of a graph, where the numbers are those of procedures and loops
abbrev WillBePrepared : Program → Procedure → (Name → Type 0) → PathStep → Type 0
WillBePrepared P proc R s = StepIsThere P proc s → IsPrepared P proc R s

abbrev CheckWillBePrepared : Program → Procedure → (Name → Type 0) → Check → Type 0
CheckWillBePrepared P proc R c = CheckIsThere P proc c → IsCheckPrepared P proc R c

abbrev AllPrepared : Program → Procedure → (Name → Type 0) → Graph → Type 0
AllPrepared P proc R dead_end = Unit {0}
AllPrepared P proc R (ends c) = CheckWillBePrepared P proc R c
AllPrepared P proc R (moves s g) = WillBePrepared P proc R s × AllPrepared P proc (ready_after s R) g
AllPrepared P proc R (guarded c s g) =
    CheckWillBePrepared P proc R c × WillBePrepared P proc R s × AllPrepared P proc (ready_after s R) g
AllPrepared P proc R (fork l e r g k) =
    ExprReady R l × ExprReady R r × AllPrepared P proc Nowhere g × AllPrepared P proc Nowhere k

-- a number below the count is that of a loop
loop_there : (p : Procedure) (n : ℕ) → HasLoop p n → IsFitLoop p n
loop_there p n there = got (loops_of p) n there

-- the numbers of steps
abbrev AreThere : Program → Procedure → List PathStep → Type 0
AreThere P proc ss = All (StepIsThere P proc) ss

first_there : (P : Program) (proc : Procedure) (s : PathStep) (ss : List PathStep) → AreThere P proc (s ∷ ss)
    → StepIsThere P proc s
first_there P proc s ss T = All-head (StepIsThere P proc) s ss T

others_there : (P : Program) (proc : Procedure) (s : PathStep) (ss : List PathStep) → AreThere P proc (s ∷ ss)
    → AreThere P proc ss
others_there P proc s ss T = All-tail (StepIsThere P proc) s ss T

path_prepared : (P : Program) (proc : Procedure) (R : Name → Type 0) (g : Graph) (ss : List PathStep) (c : Check)
    → Path g ss c → AreThere P proc ss → CheckIsThere P proc c → AllPrepared P proc R g → ArePrepared P proc R ss c
path_prepared P proc R g ss c (at_end {c = d}) T C A = A C
path_prepared P proc R g ss c (arrived {g = h} {step = s} {c = d}) T C A = A.0 C
path_prepared P proc R g ss c (past {g = h} {d = d} {step = s} {ps = qs} {c = k} rest) T C A = (
  A.1 (first_there P proc s qs T),
  path_prepared P proc (ready_after s R) h qs k rest (others_there P proc s qs T) C A.2,
)
path_prepared P proc R g ss c (on {g = h} {step = s} {ps = qs} {c = k} rest) T C A = (
  A.0 (first_there P proc s qs T),
  path_prepared P proc (ready_after s R) h qs k rest (others_there P proc s qs T) C A.1,
)
path_prepared P proc R g ss c (on_true {l = l} {e = e} {r = r} {g = h} {k = h'} {ps = qs} {c = k} rest) T C A =
    ((A.0, A.1), path_prepared P proc Nowhere h qs k rest (others_there P proc (assume_step l e r) qs T) C A.2)
path_prepared P proc R g ss c (on_false {l = l} {e = e} {r = r} {g = h} {k = h'} {ps = qs} {c = k} rest) T C A =
    ((A.0, A.1), path_prepared P proc Nowhere h' qs k rest (others_there P proc (assume_step l (not e) r) qs T) C A.3)

expr_more : (R S : Name → Type 0) (e : Expr) → ((n : Name) → R n → S n) → ExprReady R e → ExprReady S e
expr_more R S (Plain o) f A = tt
expr_more R S (Read o) f A = f o.name A

-- an expression's variable is accessed before it is read
reads_prepared : (P : Program) (proc : Procedure) (R : Name → Type 0) (e : Expr) (g : Graph)
    → ((S : Name → Type 0) → ((n : Name) → R n → S n) → ExprReady S e → AllPrepared P proc S g)
    → AllPrepared P proc R (reads e g)
reads_prepared P proc R (Plain o) g k = k R (λ n r. r) tt
reads_prepared P proc R (Read o) g k = (λ c. tt, λ c. tt, k (ready_after (access_step o) R) (λ n r. inr r) (inl refl))

all_reads_prepared : (P : Program) (proc : Procedure) (R : Name → Type 0) (es : List Expr) (g : Graph)
    → ((S : Name → Type 0) → ((n : Name) → R n → S n) → ExprsReady S es → AllPrepared P proc S g)
    → AllPrepared P proc R (all_reads es g)
all_reads_prepared P proc R [] g k = k R (λ n r. r) tt
all_reads_prepared P proc R (e ∷ es) g k =
    reads_prepared P proc R e (all_reads es g)
    (λ S f a. all_reads_prepared P proc S es g (λ T h b. k T (λ n r. h n (f n r)) (expr_more S T e h a, b)))

mutual
  tested_prepared : (P : Program) (proc : Procedure) (t : Cond) (g k : Graph) → AllPrepared P proc Nowhere g
      → AllPrepared P proc Nowhere k → AllPrepared P proc Nowhere (tested t g k)
  tested_prepared P proc (compare l e r) g k A B =
      reads_prepared P proc Nowhere l (reads r (fork l e r g k))
      (λ S f a. reads_prepared P proc S r (fork l e r g k) (λ T h b. (expr_more S T l h a, b, A, B)))
  tested_prepared P proc (negation t) g k A B = tested_prepared P proc t k g B A
  tested_prepared P proc (conjunction ts) g k A B = all_tested_prepared P proc ts g k A B
  tested_prepared P proc (disjunction ts) g k A B = some_tested_prepared P proc ts g k A B

  all_tested_prepared : (P : Program) (proc : Procedure) (ts : Conds) (g k : Graph) → AllPrepared P proc Nowhere g
      → AllPrepared P proc Nowhere k → AllPrepared P proc Nowhere (all_tested ts g k)
  all_tested_prepared P proc no_conds g k A B = A
  all_tested_prepared P proc (cond_first t ts) g k A B =
      tested_prepared P proc t (all_tested ts g k) k (all_tested_prepared P proc ts g k A B) B

  some_tested_prepared : (P : Program) (proc : Procedure) (ts : Conds) (g k : Graph) → AllPrepared P proc Nowhere g
      → AllPrepared P proc Nowhere k → AllPrepared P proc Nowhere (some_tested ts g k)
  some_tested_prepared P proc no_conds g k A B = B
  some_tested_prepared P proc (cond_first t ts) g k A B =
      tested_prepared P proc t g (some_tested ts g k) A (some_tested_prepared P proc ts g k A B)

-- what the type rules say of a site
abbrev IsFitSite : Program → Procedure → Site → Type 0
IsFitSite P q (mentioned o) = Unit {0}
IsFitSite P q (assigned_at ts) = Distinct (names ts)
IsFitSite P q (called_at ts f es) =
    (e : IsFitEntry P (number_of P f.name) es) × (length (names ts) ≡ length (results_of e.callee))
IsFitSite P q (returned_at inside w es) = length es ≡ length (results_of q)

abbrev AreFit : Program → Procedure → List Site → Type 0
AreFit P q xs = (x : Site) → Contains xs x → IsFitSite P q x

fit_left : (P : Program) (q : Procedure) (xs ys : List Site) → AreFit P q (xs ++ ys) → AreFit P q xs
fit_left P q xs ys F x c = F x (Contains-append_left xs ys x c)

fit_right : (P : Program) (q : Procedure) (xs ys : List Site) → AreFit P q (xs ++ ys) → AreFit P q ys
fit_right P q xs ys F x c = F x (Contains-append_right xs ys x c)

mutual
  lowered_prepared : (P : Program) (q : Procedure) (inside : Bool) (n : ℕ) (s : Statement) (g : Graph)
      → Distinct (results_of q) → AreFit P q (sites_in inside s) → AllPrepared P q Nowhere g
      → AllPrepared P q Nowhere (lowered P n s g)
  lowered_prepared P q inside n (set x e) g D F A =
      reads_prepared P q Nowhere e (moves (set_step x e) g) (λ S f a. (λ c. a, A))
  lowered_prepared P q inside n (new x) g D F A = (λ c. tt, A)
  lowered_prepared P q inside n (write x e) g D F A =
      reads_prepared P q Nowhere e (visits x (moves (write_step x e) g))
      (λ S f a. (
        λ c. tt,
        λ c. tt,
        (λ c. (expr_more S (ready_after (access_step x) S) e (λ n r. inr r) a, inl refl), A),
      ))
  lowered_prepared P q inside n (free x) g D F A = (λ c. tt, λ c. tt, (λ c. inl refl, A))
  lowered_prepared P q inside n (call ts f es) g D F A =
      let m = number_of P f.name in
      let C =
      F (called_at ts f es) (member_later (assigned_at ts) (called_at ts f es)
      (called_at ts f es ∷ map mentioned (ts ++ in_exprs es))
      (member_first (called_at ts f es) (map mentioned (ts ++ in_exprs es)))) in
      let E : Distinct (names ts) =
      F (assigned_at ts) (member_first (assigned_at ts) (called_at ts f es ∷ map mentioned (ts ++ in_exprs es))) in
      let fit : IsFitCall P ts m es = record { entry = C.0; targets = C.1; distinct = E } in
      all_reads_prepared P q Nowhere es (guarded (callee_entry f.span m es) (call_step ts m es) g)
      (λ S h a. (λ c. (a, C.0), λ c. (a, fit), A))
  lowered_prepared P q inside n (if t a c b d) g D F A =
      let m = n + length (all_loops a) in
      let front = fit_left P q (map mentioned (in_cond t) ++ all_sites_in inside a) (all_sites_in inside b) F in
      tested_prepared P q t (all_lowered P n a g) (all_lowered P m b g)
      (all_prepared P q inside n a g D (fit_right P q (map mentioned (in_cond t)) (all_sites_in inside a) front) A)
      (all_prepared P q inside m b g D
      (fit_right P q (map mentioned (in_cond t) ++ all_sites_in inside a) (all_sites_in inside b) F) A)
  lowered_prepared P q inside n (while at t i body close) g D F A =
      (loop_there q n, loop_there q n, tested_prepared P q t dead_end g tt A)
  lowered_prepared P q inside n (return at es) g D F A =
      all_reads_prepared P q Nowhere es (moves (return_step es) (ends (return_check at)))
      (λ S h a. (
        λ c. (
          a,
          F (returned_at inside at es)
              (member_first (returned_at inside at es) (map mentioned (in_exprs es))),
          D,
        ),
        λ c. tt,
      ))

  all_prepared : (P : Program) (q : Procedure) (inside : Bool) (n : ℕ) (ss : Statements) (g : Graph)
      → Distinct (results_of q) → AreFit P q (all_sites_in inside ss) → AllPrepared P q Nowhere g
      → AllPrepared P q Nowhere (all_lowered P n ss g)
  all_prepared P q inside n no_statements g D F A = A
  all_prepared P q inside n (statement_first s ss) g D F A =
      let m = n + length (loops s) in
      lowered_prepared P q inside n s (all_lowered P m ss g) D
      (fit_left P q (sites_in inside s) (all_sites_in inside ss) F)
      (all_prepared P q inside m ss g D (fit_right P q (sites_in inside s) (all_sites_in inside ss) F) A)

mutual
  loop_fit : (P : Program) (q : Procedure) (inside : Bool) (s : Statement) (l : While) → AreFit P q (sites_in inside s)
      → Contains (loops s) l → AreFit P q (all_sites_in true l.body)
  loop_fit P q inside (set x e) l F there = absurd (no_member l there)
  loop_fit P q inside (new x) l F there = absurd (no_member l there)
  loop_fit P q inside (write x e) l F there = absurd (no_member l there)
  loop_fit P q inside (free x) l F there = absurd (no_member l there)
  loop_fit P q inside (call ys f es) l F there = absurd (no_member l there)
  loop_fit P q inside (if t a c b d) l F there =
      let front = fit_left P q (map mentioned (in_cond t) ++ all_sites_in inside a) (all_sites_in inside b) F in
      elim (Contains-append_cases (all_loops a) (all_loops b) l there) [
        | inl first ↦ loops_fit P q inside a l (fit_right P q (map mentioned (in_cond t)) (all_sites_in inside a) front)
            first
        | inr second ↦ loops_fit P q inside b l
            (fit_right P q (map mentioned (in_cond t) ++ all_sites_in inside a) (all_sites_in inside b) F) second
      ]
  loop_fit P q inside (while at t i body close) l F there =
      let inner = fit_right P q (map mentioned (in_cond t ++ in_assertion i)) (all_sites_in true body) F in
      elim (member_cases (record { at = at; test = t; invariant = i; body = body; close = close }) (all_loops body) l
      there) [
        | inl same ↦ subst (λ (k : While). AreFit P q (all_sites_in true k.body)) same inner
        | inr more ↦ loops_fit P q true body l inner more
      ]
  loop_fit P q inside (return at es) l F there = absurd (no_member l there)

  loops_fit : (P : Program) (q : Procedure) (inside : Bool) (ss : Statements) (l : While)
      → AreFit P q (all_sites_in inside ss) → Contains (all_loops ss) l → AreFit P q (all_sites_in true l.body)
  loops_fit P q inside no_statements l F there = absurd (no_member l there)
  loops_fit P q inside (statement_first s ss) l F there =
      elim (Contains-append_cases (loops s) (all_loops ss) l there) [
        | inl first ↦ loop_fit P q inside s l (fit_left P q (sites_in inside s) (all_sites_in inside ss) F) first
        | inr second ↦ loops_fit P q inside ss l (fit_right P q (sites_in inside s) (all_sites_in inside ss) F) second
      ]

-- from each start
around_prepared : (P : Program) (q : Procedure) (n : ℕ) → Distinct (results_of q)
    → AreFit P q (all_sites_in false (body_statements q)) → (o : Option While) → slice_get (loops_of q) n ≡ o
    → AllPrepared P q Nowhere (loop_graph P n o)
around_prepared P q n D F (Some l) e =
    let end = ends (loop_end l.close n) in
    tested_prepared P q l.test (all_lowered P (suc n) l.body end) dead_end
    (all_prepared P q true (suc n) l.body end D
    (loops_fit P q false (body_statements q) l F (numbered (loops_of q) n l e)) (loop_there q n)) tt
around_prepared P q n D F None e = tt

start_prepared : (P : Program) (q : Procedure) → Distinct (results_of q)
    → AreFit P q (all_sites_in false (body_statements q)) → (a : Start) → AllPrepared P q Nowhere (graph_from P q a)
start_prepared P q D F at_entry =
    all_prepared P q false 0 (body_statements q) (ends (return_check q.close)) D F (λ c. tt)
start_prepared P q D F (at_loop n) = around_prepared P q n D F (slice_get (loops_of q) n) refl

distinct_from : (xs : List Name) → AllPairs (λ x y. x ≢ y) xs → Distinct xs
distinct_from [] A = tt
distinct_from (x ∷ xs) A = (
  λ there. A 0 (suc there.0) x (omega arith) (omega (arith, there.1)) (sym there.2),
  distinct_from xs (λ i j d l m. A (suc i) (suc j) d (omega (arith, l)) (omega (arith, m))),
)

distinct_left : (xs ys : List Name) → Distinct (xs ++ ys) → Distinct xs
distinct_left [] ys D = tt
distinct_left (x ∷ xs) ys D = ((λ c. D.0 (Contains-append_left xs ys x c)), distinct_left xs ys D.1)

distinct_right : (xs ys : List Name) → Distinct (xs ++ ys) → Distinct ys
distinct_right [] ys D = D
distinct_right (x ∷ xs) ys D = distinct_right xs ys D.1

pub parameters_and_results : (P : Program) → IsTyped P → (q : Procedure) → Contains P.procedures q
    → Distinct (parameters_of q) × Distinct (results_of q)
parameters_and_results P typed q here =
    let all : Distinct ((parameters_of q ++ results_of q) ++ names (locals_of q)) =
    distinct_from ((parameters_of q ++ results_of q) ++ names (locals_of q))
    (subst (λ (xs : List Name). AllPairs (λ x y. x ≢ y) xs) (variables_split q)
    (variables_are_distinct P typed q here)) in
    let both = distinct_left (parameters_of q ++ results_of q) (names (locals_of q)) all in
    (distinct_left (parameters_of q) (results_of q) both, distinct_right (parameters_of q) (results_of q) both)

sites_fit : (P : Program) → IsTyped P → (q : Procedure) → Contains P.procedures q → AreFit P q (sites_of q)
sites_fit P typed q here (mentioned o) there = tt
sites_fit P typed q here (assigned_at ts) there =
    distinct_from (names ts) (targets_are_distinct P typed q here ts there)
sites_fit P typed q here (called_at ts f es) there =
    let r = callee_is_known P typed q here ts f es there in
    let counts = counts_agree P typed q here ts f es there r.0 r.1 in (
      record { callee = r.0; at = (callees_are_numbered P f.name r.0).1 r.1; arguments = counts.0 },
      length-map ts (λ (o : Occ). o.name) ∙ counts.1,
    )
sites_fit P typed q here (returned_at inside w es) there = values_are_counted P typed q here inside w es there

pub paths_are_prepared : (P : Program) (q : Procedure) (c : Condition) → IsTyped P → IsCondition P c → IsOf P c q
    → ArePrepared P q Nowhere c.way.steps c.way.check
paths_are_prepared P q c typed is of =
    let here = its_declared P q c of in
    let D = (parameters_and_results P typed q here).1 in
    let F : AreFit P q (all_sites_in false (body_statements q)) =
    λ x there. sites_fit P typed q here x (site_in_body q x there) in
    let there = numbers_are_there P c q typed is of in
    path_prepared P q Nowhere (graph_from P q c.start) c.way.steps c.way.check (its_path P q c is of) there.steps
    there.check (start_prepared P q D F c.start)
