-- Reads and tests in safe states.
use Rattle.std.specs.Prelude.{◌≡◌, ℕ, List, [], ◌∷◌, map, Bool, true, false, not, cond, ◌==◌, Option, Some, None}
use Rattle.std.proofs.Common.{refl, ◌∙◌, ap}
use Rattle.gh_ast.specs.Plain.{Cond, compare, negation, conjunction, disjunction, Conds, no_conds, cond_first}
use Rattle.gh_ast.specs.Plain.{Procedure, Program}
use Rattle.gh_ast.specs.declared.Occ.{Occ}
use Rattle.gh_ast.specs.declared.Expr.{Expr}
use Rattle.gh_ast.specs.declared.Expr.TheVariants.{Plain, Read}
use Rattle.gh_assert.specs.Meaning.{value, agrees}
use Rattle.gh_assert.specs.Walks.{Allocated}
use Rattle.gh_assert.specs.Values.{result, Give, compared, not_outcome, and_then, or_then, outcome, all_outcome}
use Rattle.gh_assert.specs.Values.{some_outcome}
use Rattle.gh_ast.proofs.Lists.{cons_both}
use Rattle.gh_path.specs.Graphs.{Graph, fork, visits, reads, all_reads, tested, all_tested, some_tested}
use Rattle.gh_trace.specs.Traces.{State}
use Rattle.gh_decide.specs.Safe.{Safe}
use Rattle.gh_decide.specs.Laws.{TestsLead}

pub after_visit : (P : Program) (proc : Procedure) (o : Occ) (g : Graph) (x : State) → Safe P proc (visits o g) x
    → Allocated x.heap (x.store o.name) × Safe P proc g x
after_visit P proc o g x safe = (safe.0, safe.1 x (safe.0, refl))

pub after_read : (P : Program) (proc : Procedure) (e : Expr) (g : Graph) (x : State) → Safe P proc (reads e g) x
    → (v : ℕ) × (result x.store x.heap e ≡ Some v) × Safe P proc g x
after_read P proc (Plain o) g x safe = (value x.store o, refl, safe)
after_read P proc (Read o) g x safe = let seen = after_visit P proc o g x safe in (seen.0.0, seen.0.1, seen.1)

pub after_reads : (P : Program) (proc : Procedure) (es : List Expr) (g : Graph) (x : State)
    → Safe P proc (all_reads es g) x → (vs : List ℕ) × Give x.store x.heap es vs × Safe P proc g x
after_reads P proc [] g x safe = ([], refl, safe)
after_reads P proc (e ∷ es) g x safe =
    let first = after_read P proc e (all_reads es g) x safe in
    let others = after_reads P proc es g x first.2 in (
      first.0 ∷ others.0,
      cons_both (result x.store x.heap e) first.0 (map (result x.store x.heap) es) others.0 first.1
          others.1,
      others.2,
    )

-- the opposite of a comparison that is false is true
opposite_agrees : (e t : Bool) → agrees e t ≡ false → agrees (not e) t ≡ true
opposite_agrees true true is = absurd cc
opposite_agrees true false is = refl
opposite_agrees false true is = refl
opposite_agrees false false is = absurd cc

-- so it is of values that may be missing
opposite : (e : Bool) (a b : Option ℕ) → compared e a b ≡ Some false → compared (not e) a b ≡ Some true
opposite e None b is = absurd cc
opposite e (Some v) None is = absurd cc
opposite e (Some v) (Some w) is = let same : agrees e (v == w) ≡ false = cc in ap Some (opposite_agrees e (v == w) same)

at_fork : (P : Program) (proc : Procedure) (l : Expr) (e : Bool) (r : Expr) (g k : Graph) (x : State) (way : Bool)
    → compared e (result x.store x.heap l) (result x.store x.heap r) ≡ Some way → Safe P proc (fork l e r g k) x
    → Safe P proc (cond way g k) x
at_fork P proc l e r g k x true gives safe = safe.0 x (gives, refl)
at_fork P proc l e r g k x false gives safe =
    safe.1 x (opposite e (result x.store x.heap l) (result x.store x.heap r) gives, refl)

turned : (P : Program) (proc : Procedure) (g k : Graph) (x : State) (way : Bool) → Safe P proc (cond way k g) x
    → Safe P proc (cond (not way) g k) x
turned P proc g k x true safe = safe
turned P proc g k x false safe = safe

-- where a test leads
abbrev pub LeadsOn : Program → Procedure → Option Bool → Graph → Graph → State → Type 0
LeadsOn P proc o g k x = (way : Bool) × (o ≡ Some way) × Safe P proc (cond way g k) x

past_and : (P : Program) (proc : Procedure) (o : Option Bool) (rest : Option Bool) (g m k : Graph) (x : State)
    → LeadsOn P proc o m k x → (Safe P proc m x → LeadsOn P proc rest g k x) → LeadsOn P proc (and_then o rest) g k x
past_and P proc o rest g m k x (true, e, safe) f = let more = f safe in
    (more.0, ap (λ t. and_then t rest) e ∙ more.1, more.2)
past_and P proc o rest g m k x (false, e, safe) f = (false, ap (λ t. and_then t rest) e, safe)

past_or : (P : Program) (proc : Procedure) (o : Option Bool) (rest : Option Bool) (g m k : Graph) (x : State)
    → LeadsOn P proc o g m x → (Safe P proc m x → LeadsOn P proc rest g k x) → LeadsOn P proc (or_then o rest) g k x
past_or P proc o rest g m k x (true, e, safe) f = (true, ap (λ t. or_then t rest) e, safe)
past_or P proc o rest g m k x (false, e, safe) f = let more = f safe in
    (more.0, ap (λ t. or_then t rest) e ∙ more.1, more.2)

mutual
  pub lead : (P : Program) (proc : Procedure) (t : Cond) (g k : Graph) (x : State) → Safe P proc (tested t g k) x
      → LeadsOn P proc (outcome x.store x.heap t) g k x
  lead P proc (compare l e r) g k x safe =
      let a = after_read P proc l (reads r (fork l e r g k)) x safe in
      let b = after_read P proc r (fork l e r g k) x a.2 in
      let both : compared e (result x.store x.heap l) (result x.store x.heap r) ≡ Some (agrees e (a.0 == b.0)) =
      rw (a.1, b.1) refl in
      (agrees e (a.0 == b.0), both, at_fork P proc l e r g k x (agrees e (a.0 == b.0)) both b.2)
  lead P proc (negation t) g k x safe =
      let way = lead P proc t k g x safe in
      (not way.0, ap not_outcome way.1, turned P proc g k x way.0 way.2)
  lead P proc (conjunction ts) g k x safe = lead_all P proc ts g k x safe
  lead P proc (disjunction ts) g k x safe = lead_some P proc ts g k x safe

  lead_all : (P : Program) (proc : Procedure) (ts : Conds) (g k : Graph) (x : State) → Safe P proc (all_tested ts g k) x
      → LeadsOn P proc (all_outcome x.store x.heap ts) g k x
  lead_all P proc no_conds g k x safe = (true, refl, safe)
  lead_all P proc (cond_first t ts) g k x safe =
      past_and P proc (outcome x.store x.heap t) (all_outcome x.store x.heap ts) g (all_tested ts g k) k x
      (lead P proc t (all_tested ts g k) k x safe) (λ s. lead_all P proc ts g k x s)

  lead_some : (P : Program) (proc : Procedure) (ts : Conds) (g k : Graph) (x : State)
      → Safe P proc (some_tested ts g k) x → LeadsOn P proc (some_outcome x.store x.heap ts) g k x
  lead_some P proc no_conds g k x safe = (false, refl, safe)
  lead_some P proc (cond_first t ts) g k x safe =
      past_or P proc (outcome x.store x.heap t) (some_outcome x.store x.heap ts) g (some_tested ts g k) k x
      (lead P proc t g (some_tested ts g k) x safe) (λ s. lead_some P proc ts g k x s)

pub tests_lead : TestsLead
tests_lead P proc t g k x safe = lead P proc t g k x safe
