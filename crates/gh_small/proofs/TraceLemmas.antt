-- From counterexamples with few first cells to models of the bounded clauses.
use Rattle.std.proofs.Common.{◌≡◌, inl, inr, ℕ, ◌<◌, ◌≤◌, List, [], ◌∷◌, length, Some, get_or, subst, arith}
use Rattle.std.specs.Prelude.{slice_get}
use Rattle.std.specs.FinMap.{len}
use Rattle.std.proofs.lemmas.Bool.{cases_lt}
use Rattle.std.proofs.lemmas.Option.{slice_get-get_or}
use Rattle.gh_base.specs.Meaning.{Interpretation}
use Rattle.gh_ast.specs.Plain.{Procedure}
use Rattle.gh_ast.proofs.Lists.{one_value}
use Rattle.gh_path.specs.Graphs as path
use Rattle.gh_symb.specs.Symbolic.{symbolic_of}
use Rattle.gh_symb.specs.Formulas.{problem}
use Rattle.gh_log.proofs.SectionLemmas.{refute}
use Rattle.gh_trace.specs.Traces.{State}
use Rattle.gh_model.specs.Depictions.{IsHeapDepicted, AreHeapsDepicted}
use Rattle.gh_trace.specs.Validity.{IsCounterexample}
use Rattle.gh_model.proofs.soundness.TraceValues.{values_exist}
use Rattle.gh_model.proofs.soundness.Depiction.{traces_are_depicted}
use Rattle.gh_small.specs.Leaders.{allocated_classes}
use Rattle.gh_small.specs.Bounded.{bounded_by}
use Rattle.gh_small.specs.Laws.{SmallTracesAreModels, SectionsShowLeast}
use Rattle.gh_small.proofs.CellLemmas.{cells}
use Rattle.gh_small.proofs.ModelLemmas.{bounded_possible}

-- the first heap is that of the first version
first_depicted : (V : List ℕ) (m : Interpretation) (ps : List path.PathStep) (x : State) (ys : List State)
    → AreHeapsDepicted V m ps 0 x ys → IsHeapDepicted V m 0 x.heap
first_depicted V m [] x ys h = h
first_depicted V m (p ∷ ps) x [] h = absurd h
first_depicted V m (p ∷ ps) x (y ∷ ys) h = h.0

pub small_traces : SmallTracesAreModels
small_traces P proc c x ys k typed is of known some against few =
    let g = problem (symbolic_of P proc c) in
    let V = values_exist P proc c x ys typed is of against in
    let m = traces_are_depicted P proc c x ys V.0 typed is of against V.1 in
    let first = first_depicted V.0 m.0 c.way.steps x ys m.2.along in
    let many : length V.0 ≡ g.sizes.terms = V.1.count in
    let at : (t : ℕ) → t < g.sizes.terms → slice_get V.0 t ≡ Some (get_or V.0 t 0) =
    λ t lt. slice_get-get_or V.0 t 0 (omega arith) in
    let fewer' : allocated_classes m.0 g.sizes.terms ≤ len x.heap =
    cells m.0 (λ t. get_or V.0 t 0) g.sizes.terms x.heap (λ t u lt lu e. (m.2.classes t u _ _ (at t lt) (at u lu)).1 e)
    (λ t lt on. (first.alloc t _ (at t lt)).0 on) in
    let made =
    bounded_possible g k m.0 known some
    (record { congruence = m.1.congruence; instances = m.1.instances; clauses = m.1.clauses }) (omega arith) in
    (made.0, made.2)

pub sections_show : SectionsShowLeast
sections_show P proc c lines k typed is of known some valid q its x ys against =
    elim (cases_lt (len x.heap) k) as (λ _. k ≤ len x.heap) [
      | inl few ↦
          let same : q ≡ proc = one_value (slice_get P.procedures c.procedure) q proc its of in
          let here : IsCounterexample P proc c x ys = subst (λ (o : Procedure). IsCounterexample P o c x ys) same against in
          let made = small_traces P proc c x ys k typed is of known some here few in
          absurd (refute (bounded_by (problem (symbolic_of P proc c)) k) lines valid made.0 made.1.congruence made.1.clauses
          made.1.instances)
      | inr many ↦ many
    ]
