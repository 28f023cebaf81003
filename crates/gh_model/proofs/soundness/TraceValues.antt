-- Values for the terms of a counterexample.
use Rattle.std.specs.Prelude.{◌≡◌, ℕ, zero, suc, ◌+◌, ◌≤◌, ◌==◌, List, [], ◌∷◌, slice_get, unwrap_or, Option, Some}
use Rattle.std.specs.Prelude.{None, cond}
use Rattle.std.proofs.Common.{refl, sym, ◌∙◌, ap, subst, inl, inr, arith}
use Rattle.std.proofs.lemmas.Bool.{eq-eqb, eqb-true, cases_Bool}
use Rattle.gh_ast.specs.declared.Expr.{Expr}
use Rattle.gh_ast.specs.Plain.{Procedure, Program}
use Rattle.gh_ast.specs.Programs.{Name, parameters_of}
use Rattle.gh_assert.specs.Heaps.{Heap}
use Rattle.gh_assert.specs.Meaning.{Store}
use Rattle.gh_assert.specs.Walks.{succ}
use Rattle.gh_path.specs.Graphs as path
use Rattle.gh_path.specs.Terms.{Kind, null, next, Bindings, unbound, bound, all_bound, Terms, expr_used, exprs_used}
use Rattle.gh_path.specs.Terms.{exprs_terms, rebound, bound_inside, entry_walked, invariant_walked, check_walked}
use Rattle.gh_path.specs.Terms.{step_walked, steps_walked, no_terms}
use Rattle.gh_symb.specs.Symbolic.{TermStep, access_step, assume_step, same_step, write_step, new_step, free_step}
use Rattle.gh_symb.specs.Symbolic.{part_step, term_step, term_steps, step_used, check_used, first_use, used_first}
use Rattle.gh_symb.specs.Symbolic.{either_term, state_bindings, begins, symbolic_of}
use Rattle.gh_trace.specs.Traces.{State, StepLeads, IsTrace}
use Rattle.gh_model.specs.TermValues.{path_version, HasStateValues, HasCellValues, HasResultValues, HaveValues}
use Rattle.gh_model.specs.TermValues.{AreTermValues}
use Rattle.gh_ast.specs.Rules.{IsTyped}
use Rattle.gh_path.specs.Conditions.{Condition, IsOf}
use Rattle.gh_model.specs.TraceLaws.{ValuesExist}
use Rattle.gh_trace.specs.Validity.{IsCounterexample}
use Rattle.gh_model.proofs.terms.Extension.{Grows, stays, onto, bound_cases, exprs_grow, walked_grows}
use Rattle.gh_model.proofs.terms.Denotation.{Sound, expr_some}
use Rattle.gh_model.proofs.terms.Callees.{Gives}
use Rattle.gh_model.proofs.soundness.WalkValues.{More, IsKindValuation, IsValuation, Extended, done, gives_more}
use Rattle.gh_model.proofs.soundness.WalkValues.{used_valued, exprs_valued, walked_valued, sound_of, each_valued}
use Rattle.gh_model.proofs.soundness.WalkValues.{same_term}
use Rattle.gh_path.proofs.LoopVariables.{loop_is_over}
use Rattle.gh_model.proofs.paths.Ways.{its_declared}
use Rattle.gh_model.proofs.soundness.StepValues.{LoopsAreOver, step_values}
use Rattle.gh_model.proofs.ownership.Traces.{here, step_version}

-- the heap of each version
abbrev pub heap_in : List path.PathStep → State → List State → ℕ → ℕ → Heap
heap_in [] x ys i j = x.heap
heap_in (p ∷ ps) x [] i j = x.heap
heap_in (p ∷ ps) x (y ∷ ys) i j = cond (j == i) x.heap (heap_in ps y ys (path_version p i) j)

abbrev pub HeapsAre : (ℕ → Heap) → List path.PathStep → State → List State → ℕ → Type 0
HeapsAre H [] x ys i = H i ≡ x.heap
HeapsAre H (p ∷ ps) x [] i = H i ≡ x.heap
HeapsAre H (p ∷ ps) x (y ∷ ys) i = (H i ≡ x.heap) × HeapsAre H ps y ys (path_version p i)

pub front_heap : (ps : List path.PathStep) (x : State) (ys : List State) (i : ℕ) → heap_in ps x ys i i ≡ x.heap
front_heap [] x ys i = refl
front_heap (p ∷ ps) x [] i = refl
front_heap (p ∷ ps) x (y ∷ ys) i = ap (λ b. cond b x.heap (heap_in ps y ys (path_version p i) i)) (eq-eqb i i refl)

goes_up : (p : path.PathStep) (i : ℕ) → i ≤ path_version p i
goes_up (path.access_step o) i = omega arith
goes_up (path.assume_step l e r) i = omega arith
goes_up (path.set_step x e) i = omega arith
goes_up (path.new_step x) i = omega arith
goes_up (path.write_step x e) i = omega arith
goes_up (path.free_step x) i = omega arith
goes_up (path.call_step ys n es) i = omega arith
goes_up (path.while_step n) i = omega arith
goes_up (path.return_step es) i = omega arith

not_up : (i : ℕ) → i + 1 ≡ i → ⊥
not_up i e = omega arith

same_heap : (P : Program) (home : Procedure) (proc : path.PathStep) (i : ℕ) (x y : State) → StepLeads P home proc x y
    → path_version proc i ≡ i → y.heap ≡ x.heap
same_heap P home (path.access_step o) i x y t e = ap (λ (z : State). z.heap) t.1
same_heap P home (path.assume_step l e' r) i x y t e = ap (λ (z : State). z.heap) t.1
same_heap P home (path.set_step z e') i x y t e = t.3
same_heap P home (path.new_step z) i x y t e = absurd (not_up i e)
same_heap P home (path.write_step z e') i x y t e = absurd (not_up i e)
same_heap P home (path.free_step z) i x y t e = absurd (not_up i e)
same_heap P home (path.call_step zs n es) i x y t e = absurd (not_up i e)
same_heap P home (path.while_step n) i x y t e = absurd (not_up i e)
same_heap P home (path.return_step es) i x y t e = t.3

-- past the first version the heaps are those of the rest
past_heap : (P : Program) (home : Procedure) (proc : path.PathStep) (ps : List path.PathStep) (x y : State)
    (ys : List State) (i j : ℕ) → StepLeads P home proc x y → path_version proc i ≤ j
    → heap_in (proc ∷ ps) x (y ∷ ys) i j ≡ heap_in ps y ys (path_version proc i) j
past_heap P home proc ps x y ys i j t l = elim (cases_Bool (j == i)) [
  | inr off ↦ ap (λ b. cond b x.heap (heap_in ps y ys (path_version proc i) j)) off
  | inl yes' ↦
      let equal : j ≡ i = eqb-true j i yes' in
      let stays' : path_version proc i ≡ i = omega (arith, goes_up proc i, l) in
      let at : path_version proc i ≡ j = omega arith in
      ap (λ b. cond b x.heap (heap_in ps y ys (path_version proc i) j)) yes'
      ∙ sym (same_heap P home proc i x y t stays') ∙ sym (front_heap ps y ys (path_version proc i))
      ∙ ap (heap_in ps y ys (path_version proc i)) at
]

pub heaps_are : (P : Program) (home : Procedure) (H : ℕ → Heap) (ps : List path.PathStep) (x : State) (ys : List State)
    (i : ℕ) → IsTrace P home x ps ys → ((j : ℕ) → i ≤ j → H j ≡ heap_in ps x ys i j) → HeapsAre H ps x ys i
heaps_are P home H [] x ys i T e = e i (omega arith)
heaps_are P home H (proc ∷ ps) x [] i T e = absurd T
heaps_are P home H (proc ∷ ps) x (y ∷ ys) i T e = (
  e i (omega arith) ∙ front_heap (proc ∷ ps) x (y ∷ ys) i,
  heaps_are P home H ps y ys (path_version proc i) T.1
      (λ j l. e j (omega (arith, goes_up proc i, l)) ∙ past_heap P home proc ps x y ys i j T.0 l),
)

pub first_heap : (H : ℕ → Heap) (ps : List path.PathStep) (x : State) (ys : List State) (i : ℕ) → HeapsAre H ps x ys i
    → H i ≡ x.heap
first_heap H [] x ys i A = A
first_heap H (p ∷ ps) x [] i A = A
first_heap H (p ∷ ps) x (y ∷ ys) i A = A.0

-- the terms of a check
record CheckValues (H : ℕ → Heap) (V : List ℕ) (P : Program) (home : Procedure) (c : path.Check) (x : State)
    (s : Terms) : Type 0 where
  values : List ℕ
  more : More V values
  kinds : IsKindValuation H values (check_walked P home c s).kinds
  used : Gives values x.store (check_used home c s).bindings

-- a store for a callee's parameters
abbrev AreListed : List ℕ → Bindings → Type 0
AreListed V b = (n : Name) (t : ℕ) → b n ≡ Some t → (v : ℕ) × (slice_get V t ≡ Some v)

abbrev value_under : List ℕ → Option ℕ → ℕ
value_under V None = 0
value_under V (Some t) = unwrap_or (slice_get V t) 0

store_under : (V : List ℕ) (b : Bindings) → AreListed V b → Gives V (λ n. value_under V (b n)) b
store_under V b L n t e =
    let v = L n t e in
    let is : value_under V (b n) ≡ v.0 = ap (value_under V) e ∙ ap (λ o. unwrap_or o 0) v.1 in
    v.1 ∙ ap Some (sym is)

abbrev AreTermsListed : List ℕ → List ℕ → Type 0
AreTermsListed V [] = Unit {0}
AreTermsListed V (t ∷ ts) = ((v : ℕ) × (slice_get V t ≡ Some v)) × AreTermsListed V ts

all_listed : (V : List ℕ) (b : Bindings) (xs : List Name) (ts : List ℕ) → AreTermsListed V ts → AreListed V b
    → AreListed V (all_bound b xs ts)
all_listed V b [] ts L B = B
all_listed V b (x ∷ xs) [] L B = B
all_listed V b (x ∷ xs) (t ∷ ts) L B = all_listed V (bound b x t) xs ts L.1 (λ n u e. elim (bound_cases b x t n u e) [
  | inl (named, at) ↦ let v = L.0 in (v.0, ap (slice_get V) (sym at) ∙ v.1)
  | inr old ↦ B n u old
])

exprs_listed : (K : List Kind) (V : List ℕ) (st : Store) (h : Heap) (es : List Expr) (s t : Terms)
    → Grows (exprs_used es s) t → Sound K V st h t → AreTermsListed V (exprs_terms es t)
exprs_listed K V st h [] s t g S = tt
exprs_listed K V st h (e ∷ es) s t g S = (
  expr_some K V st h e s t (onto (exprs_grow es (expr_used e s)) g) S,
  exprs_listed K V st h es (expr_used e s) t g S,
)

entry_values : (H : ℕ → Heap) (V : List ℕ) (o : Option Procedure) (ts : List ℕ) (t : Terms)
    → IsKindValuation H V t.kinds → AreTermsListed V ts
    → (W : List ℕ) × More V W × IsKindValuation H W (entry_walked o ts t).kinds
entry_values H V None ts t K L = (V, λ j v e. e, K)
entry_values H V (Some p) ts t K L =
    let b = bound_inside p ts in
    let B : AreListed V b = all_listed V unbound (parameters_of p) ts L (λ n u e. absurd cc) in
    let E =
    walked_valued H (λ n. value_under V (b n)) p.needs V (rebound t b)
    (record { kinds = K; gives = store_under V b B }) in
    (E.values, E.more, E.valued.kinds)

invariant_values : (H : ℕ → Heap) (V : List ℕ) (st : Store) (o : Option path.While) (s : Terms) → IsValuation H V st s
    → Extended H V st (invariant_walked o s)
invariant_values H V st None s S = done H V st s S
invariant_values H V st (Some l) s S = walked_valued H st l.invariant V s S

check_values : (H : ℕ → Heap) (V : List ℕ) (P : Program) (home : Procedure) (c : path.Check) (x : State) (s : Terms)
    → IsValuation H V x.store s → H s.version ≡ x.heap → CheckValues H V P home c x s
check_values H V P home (path.access o) x s S at = let E = used_valued H V x.store o.name s S in
    record { values = E.values; more = E.more; kinds = E.valued.kinds; used = E.valued.gives }
check_values H V P home (path.callee_entry w n es) x s S at =
    let T = exprs_used es s in
    let E = exprs_valued H V x.store es s S in
    let sound = sound_of H E.values x.store x.heap T (ap H (exprs_grow es s).version ∙ at) E.valued in
    let F =
    entry_values H E.values (slice_get P.procedures n) (exprs_terms es T) T E.valued.kinds
    (exprs_listed T.kinds E.values x.store x.heap es s T (stays T) sound) in
    record {
      values = F.0;
      more = λ t v e. F.1 t v (E.more t v e);
      kinds = F.2;
      used = gives_more E.values F.0 x.store T.bindings F.1 E.valued.gives;
    }
check_values H V P home (path.loop_entry w n) x s S at =
    let E = invariant_values H V x.store (slice_get (path.loops_of home) n) s S in
    record { values = E.values; more = E.more; kinds = E.valued.kinds; used = E.valued.gives }
check_values H V P home (path.return_check w) x s S at = let E = each_valued H x.store home.gives V s S in
    record { values = E.values; more = E.more; kinds = E.valued.kinds; used = E.valued.gives }
check_values H V P home (path.loop_end w n) x s S at =
    let E = invariant_values H V x.store (slice_get (path.loops_of home) n) s S in
    record { values = E.values; more = E.more; kinds = E.valued.kinds; used = E.valued.gives }

-- a state, once the values of all terms stand
state_values : (H : ℕ → Heap) (W : List ℕ) (K : List Kind) (i : ℕ) (b : Bindings) (x : State) → IsKindValuation H W K
    → H i ≡ x.heap → Gives W x.store b → HasStateValues K W i b x
state_values H W K i b x S at G = record {
  next = λ t u v e a.
      let f = S.follows t i u e in
      f.2 ∙ ap (λ n. Some (succ (H i) n)) (same_term f.0 v (sym f.1 ∙ a)) ∙ ap (λ k. Some (succ k v)) at;
  bound = G;
}

-- what variables get at their first use
abbrev FirstGives : Program → Procedure → List path.PathStep → path.Check → Terms → List ℕ → Store → Type 0
FirstGives P home ps c s W st = (n : Name) (t : ℕ) → first_use P home ps c s n ≡ Some t → slice_get W t ≡ Some (st n)

here_gives : (P : Program) (home : Procedure) (ps : List path.PathStep) (c : path.Check) (s : Terms) (W : List ℕ)
    (st : Store) → Gives W st s.bindings → FirstGives P home ps c s W st → Gives W st (here P home ps c s)
here_gives P home ps c s W st G F n t e = by_binding (s.bindings n) refl
  where
    by_binding : (o : Option ℕ) → s.bindings n ≡ o → slice_get W t ≡ Some (st n)
    by_binding (Some u) f =
        let is : u ≡ t = same_term u t (sym (ap (λ o. either_term o (first_use P home ps c s n)) f) ∙ e) in
        ap (slice_get W) (sym is) ∙ G n u f
    by_binding None f = F n t (sym (ap (λ o. either_term o (first_use P home ps c s n)) f) ∙ e)

-- the values of all terms, from a state on
record Along (P : Program) (home : Procedure) (H : ℕ → Heap) (c : path.Check) (ps : List path.PathStep) (s : Terms)
    (x : State) (ys : List State) (V : List ℕ) : Type 0 where
  values : List ℕ
  more : More V values
  kinds : IsKindValuation H values (check_walked P home c (steps_walked P home ps s)).kinds
  along : HaveValues P (check_walked P home c (steps_walked P home ps s)).kinds values ps (term_steps P home ps s)
      (state_bindings P home ps c s) s.version x ys
  first : FirstGives P home ps c s values x.store

-- a step's first uses, from those after it
first_before : (P : Program) (home : Procedure) (proc : path.PathStep) (ps : List path.PathStep) (c : path.Check)
    (s : Terms) (W : List ℕ) (x y : State) → Gives W x.store (step_used home proc s).bindings
    → ((n : Name) → (step_walked P home proc s).bindings n ≡ None → y.store n ≡ x.store n)
    → FirstGives P home ps c (step_walked P home proc s) W y.store → FirstGives P home (proc ∷ ps) c s W x.store
first_before P home proc ps c s W x y G kept F n t e = by_used ((step_used home proc s).bindings n) refl
  where
    by_bound : (o : Option ℕ) → (step_walked P home proc s).bindings n ≡ o
        → used_first None o (first_use P home ps c (step_walked P home proc s) n) ≡ Some t
        → slice_get W t ≡ Some (x.store n)
    by_bound (Some u) f g = absurd cc
    by_bound None f g = F n t g ∙ ap Some (kept n f)

    by_used : (o : Option ℕ) → (step_used home proc s).bindings n ≡ o → slice_get W t ≡ Some (x.store n)
    by_used (Some u) f =
        let is : u ≡ t =
        same_term u t (sym (ap (λ o. used_first o ((step_walked P home proc s).bindings n)
        (first_use P home ps c (step_walked P home proc s) n)) f) ∙ e) in
        ap (slice_get W) (sym is) ∙ G n u f
    by_used None f =
        by_bound ((step_walked P home proc s).bindings n) refl
        (sym (ap (λ o. used_first o ((step_walked P home proc s).bindings n)
        (first_use P home ps c (step_walked P home proc s) n)) f) ∙ e)

cells_more : (V W : List ℕ) (q : TermStep) (y : State) → More V W → HasCellValues V q y → HasCellValues W q y
cells_more V W (new_step l t) y m c = (c.0, c.1, m l c.0 c.2, m t c.1 c.3, c.4)
cells_more V W (access_step t) y m c = tt
cells_more V W (assume_step t e u) y m c = tt
cells_more V W same_step y m c = tt
cells_more V W (write_step t u) y m c = tt
cells_more V W (free_step t) y m c = tt
cells_more V W (part_step b a) y m c = tt

results_more : (P : Program) (V W : List ℕ) (proc : path.PathStep) (q : TermStep) (y : State) → More V W
    → HasResultValues P V proc q y → HasResultValues P W proc q y
results_more P V W (path.call_step ys n es) (part_step b as') y m R =
    λ proc inside d e a there r t c g. m t (inside r) (R proc inside d e a there r t c g)
results_more P V W (path.call_step ys n es) (new_step l t) y m R = tt
results_more P V W (path.call_step ys n es) (access_step t) y m R = tt
results_more P V W (path.call_step ys n es) (assume_step t e u) y m R = tt
results_more P V W (path.call_step ys n es) same_step y m R = tt
results_more P V W (path.call_step ys n es) (write_step t u) y m R = tt
results_more P V W (path.call_step ys n es) (free_step t) y m R = tt
results_more P V W (path.access_step o) q y m R = tt
results_more P V W (path.assume_step l e r) q y m R = tt
results_more P V W (path.set_step x e) q y m R = tt
results_more P V W (path.new_step x) q y m R = tt
results_more P V W (path.write_step x e) q y m R = tt
results_more P V W (path.free_step x) q y m R = tt
results_more P V W (path.while_step n) q y m R = tt
results_more P V W (path.return_step es) q y m R = tt

values_along : (P : Program) (home : Procedure) (H : ℕ → Heap) (c : path.Check) → LoopsAreOver home
    → (ps : List path.PathStep) (s : Terms) (x : State) (ys : List State) (V : List ℕ) → IsValuation H V x.store s
    → HeapsAre H ps x ys s.version → IsTrace P home x ps ys → Along P home H c ps s x ys V
values_along P home H c over [] s x ys V S A T =
    let C = check_values H V P home c x s S A in
    record {
      values = C.values;
      more = C.more;
      kinds = C.kinds;
      along =
          state_values H C.values (check_walked P home c s).kinds s.version (here P home [] c s) x C.kinds A
          (here_gives P home [] c s C.values x.store (gives_more V C.values x.store s.bindings C.more S.gives) C.used);
      first = C.used;
    }
values_along P home H c over (proc ∷ ps) s x [] V S A T = absurd T
values_along P home H c over (proc ∷ ps) s x (y ∷ ys) V S A T =
    let t = step_walked P home proc s in
    let R = step_values H V P home proc s x y over S A.0 T.0 in
    let version : t.version ≡ path_version proc s.version = step_version P home proc s x y T.0 in
    let I =
    values_along P home H c over ps t y ys R.values R.valued (subst (HeapsAre H ps y ys) (sym version) A.1) T.1 in
    let W = I.values in
    let K = (check_walked P home c (steps_walked P home ps t)).kinds in
    let more : More V W = λ j v e. I.more j v (R.more j v e) in
    let first : FirstGives P home (proc ∷ ps) c s W x.store =
    first_before P home proc ps c s W x y
    (gives_more R.values W x.store (step_used home proc s).bindings I.more R.used) R.kept I.first in
    record {
      values = W;
      more = more;
      kinds = I.kinds;
      along = (
        state_values H W K s.version (here P home (proc ∷ ps) c s) x I.kinds A.0
            (here_gives P home (proc ∷ ps) c s W x.store (gives_more V W x.store s.bindings more S.gives) first),
        cells_more R.values W (term_step P home proc s) y I.more R.cells,
        results_more P R.values W proc (term_step P home proc s) y I.more R.results,
        subst (λ i. HaveValues P K W ps (term_steps P home ps t) (state_bindings P home ps c t) i y ys) version I.along,
      );
      first = first;
    }

-- null alone
null_kinds : (H : ℕ → Heap) → IsKindValuation H (0 ∷ []) (null ∷ [])
null_kinds H = record { count = refl; null = refl; follows = λ t i u e. null_only t i u e }
  where
    null_only : (t i u : ℕ) → slice_get (null ∷ []) t ≡ Some (next i u)
        → (v : ℕ) × (slice_get (0 ∷ []) u ≡ Some v) × (slice_get (0 ∷ []) t ≡ Some (succ (H i) v))
    null_only zero i u e = absurd cc
    null_only (suc t) i u e = absurd cc

pub found : (P : Program) (proc : Procedure) (c : Condition) (x : State) (ys : List State) → IsTyped P → IsOf P c proc
    → IsCounterexample P proc c x ys
    → (V : List ℕ) × AreTermValues P proc c x ys V
    × IsKindValuation (heap_in c.way.steps x ys 0) V (symbolic_of P proc c).terms
found P proc c x ys typed of C =
    let ps = c.way.steps in
    let k = c.way.check in
    let H = heap_in ps x ys 0 in
    let f = path.meets_at proc c.start in
    let s = begins proc c.start in
    let version : s.version ≡ 0 = (walked_grows f no_terms).version in
    let E = walked_valued H x.store f (0 ∷ []) no_terms (record { kinds = null_kinds H; gives = λ n t e. absurd cc }) in
    let A : HeapsAre H ps x ys 0 = heaps_are P proc H ps x ys 0 C.leads (λ j l. refl) in
    let over : LoopsAreOver proc = loop_is_over P typed proc (its_declared P proc c of) in
    let I =
    values_along P proc H k over ps s x ys E.values E.valued (subst (HeapsAre H ps x ys) (sym version) A) C.leads in (
      I.values,
      record {
        count = I.kinds.count;
        null = I.kinds.null;
        along = subst (λ i. HaveValues P (symbolic_of P proc c).terms I.values ps (term_steps P proc ps s)
            (state_bindings P proc ps k s) i x ys) version I.along;
      },
      I.kinds,
    )

pub values_exist : ValuesExist
values_exist P proc c x ys typed is of C = let f = found P proc c x ys typed of C in (f.0, f.1)
