-- No state of a trace has a cell at null, so its checks are decided.
use Rattle.std.specs.Prelude.{List, [], ◌∷◌}
use Rattle.std.specs.FinMap.{get}
use Rattle.std.proofs.Common.{sym, ◌∙◌, ap, inl, inr}
use Rattle.gh_ast.specs.Plain.{Assertion, Procedure, Program}
use Rattle.gh_assert.specs.Heaps.{Heap, IsProper}
use Rattle.gh_assert.specs.Meaning.{Store, Meaning, MeetsOneOf}
use Rattle.gh_assert.proofs.Alternatives.{one_met_proper, one_met_decided}
use Rattle.gh_assert.proofs.Unique.{get_kept}
use Rattle.gh_assert.proofs.Cells.{allocated_or}
use Rattle.gh_assert.proofs.Decide.{Decided, part_decided, meaning_decided}
use Rattle.gh_assert.proofs.Frames.{in_neither}
use Rattle.gh_assert.proofs.Proper.{none_both, met_proper, put_proper, at_proper}
use Rattle.gh_path.specs.Graphs.{Check, access, callee_entry, loop_entry, return_check, loop_end, PathStep, access_step}
use Rattle.gh_path.specs.Graphs.{assume_step, set_step, new_step, write_step, free_step, call_step, while_step}
use Rattle.gh_path.specs.Graphs.{return_step}
use Rattle.gh_trace.specs.Traces.{State, Replaced, StepLeads, Passes, IsTrace, last_state}
use Rattle.gh_trace.specs.Laws.{TracesAreProper, ChecksAreDecided}

replaced_proper : (f : Assertion) (s : Store) (h : Heap) (Q : Heap → Type 0) (k : Heap)
    → ((a : Heap) → Q a → IsProper a) → Replaced f s h Q k → IsProper h → IsProper k
replaced_proper f s h Q k proper r p =
    none_both (get k 0) (get r.other 0) (get r.frame 0) (r.joins.union 0) (proper r.other r.meets)
    (in_neither h r.part r.frame r.splits 0 p).1

pub step_proper : (P : Program) (proc : Procedure) (s : PathStep) (x y : State) → StepLeads P proc s x y
    → IsProper x.heap → IsProper y.heap
step_proper P proc (access_step o) x y t h = ap (λ z. get z.heap 0) t.1 ∙ h
step_proper P proc (assume_step l e r) x y t h = ap (λ z. get z.heap 0) t.1 ∙ h
step_proper P proc (set_step o e) x y t h = ap (λ k. get k 0) t.3 ∙ h
step_proper P proc (new_step o) x y t h = ap (λ k. get k 0) t.5 ∙ put_proper x.heap t.0 t.1 t.2 h
step_proper P proc (write_step o e) x y t h =
    ap (λ z. get z.heap 0) t.3 ∙ put_proper x.heap (x.store o.name) t.0 (at_proper x.heap (x.store o.name) t.2 h) h
step_proper P proc (free_step o) x y t h =
    ap (λ z. get z.heap 0) t.1
    ∙ get_kept x.heap (x.store o.name) 0 (λ e. at_proper x.heap (x.store o.name) t.0 h (sym e)) ∙ h
step_proper P proc (call_step xs n es) x y t h =
    replaced_proper t.0.needs t.4.inside x.heap (MeetsOneOf t.0.gives t.4.inside) y.heap
    (λ a m. one_met_proper t.0.gives t.4.inside a m) t.4.replaced h
step_proper P proc (while_step n) x y t h =
    replaced_proper t.0.invariant x.store x.heap (Meaning t.0.invariant y.store) y.heap
    (λ a m. met_proper t.0.invariant y.store a m) t.2.replaced h
step_proper P proc (return_step es) x y t h = ap (λ k. get k 0) t.3 ∙ h

pub trace_proper : (P : Program) (proc : Procedure) (x : State) (ss : List PathStep) (ys : List State)
    → IsTrace P proc x ss ys → IsProper x.heap → IsProper (last_state x ys).heap
trace_proper P proc x [] [] t h = h
trace_proper P proc x [] (y ∷ ys) t h = absurd t
trace_proper P proc x (s ∷ ss) [] t h = absurd t
trace_proper P proc x (s ∷ ss) (y ∷ ys) t h = trace_proper P proc y ss ys t.1 (step_proper P proc s x y t.0 h)

settled : {A : Type 0} → Decided A → ((A → ⊥) → ⊥) → A
settled d f = elim d [ inl a ↦ a | inr none ↦ absurd (f none) ]

pub pass : (P : Program) (proc : Procedure) (c : Check) (x : State) → IsProper x.heap → ((Passes P proc c x → ⊥) → ⊥)
    → Passes P proc c x
pass P proc (access o) x h f =
    elim (allocated_or x.heap (x.store o.name))
    [ inl a ↦ a | inr none ↦ absurd (f (λ there. let e = there.1 in absurd cc)) ]
pass P proc (callee_entry at n es) x h f =
    λ q vs inside is gives params. settled (part_decided q.needs inside x.heap h)
    (λ none. f (λ all. none (all q vs inside is gives params)))
pass P proc (loop_entry at n) x h f =
    λ l is. settled (part_decided l.invariant x.store x.heap h) (λ none. f (λ all. none (all l is)))
pass P proc (return_check at) x h f = settled (one_met_decided proc.gives x.store x.heap h) f
pass P proc (loop_end at n) x h f =
    λ l is. settled (meaning_decided l.invariant x.store x.heap h) (λ none. f (λ all. none (all l is)))

pub traces_are_proper : TracesAreProper
traces_are_proper P proc f x ss ys met trace = trace_proper P proc x ss ys trace (met_proper f x.store x.heap met)

pub checks_are_decided : ChecksAreDecided
checks_are_decided P proc c x h f = pass P proc c x h f
