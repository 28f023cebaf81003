-- From a model with the fewest first cells to the smallest counterexample.
use Rattle.std.proofs.Common.{◌≡◌, ℕ, List, [], ◌∷◌, length, Option, Some, None, refl, sym, ap, subst, ◌∙◌, arith}
use Rattle.std.specs.FinMap.{len}
use Rattle.gh_base.specs.Grounds.{Problem, IsProblem}
use Rattle.gh_base.specs.Meaning.{Interpretation}
use Rattle.gh_base.specs.Structures.{interpretation_of}
use Rattle.gh_ast.specs.Plain.{Procedure, Program}
use Rattle.gh_ast.specs.Programs.{Name, variable_names}
use Rattle.gh_ast.specs.Rules.{IsTyped}
use Rattle.gh_path.specs.Graphs.{PathStep}
use Rattle.gh_path.specs.Conditions.{Condition, IsCondition, IsOf}
use Rattle.gh_path.specs.Kept.{condition_of, IsOne}
use Rattle.gh_path.specs.Terms.{Bindings}
use Rattle.gh_path.specs.declared.condition.Condition as kept
use Rattle.gh_symb.specs.Symbolic.{symbolic_of}
use Rattle.gh_symb.specs.Formulas.{problem}
use Rattle.gh_log.specs.declared.lines.Section.{Section}
use Rattle.gh_trace.specs.Replay.{Drawn, IsDrawnCounterexample}
use Rattle.gh_trace.specs.Kept.{drawn_of}
use Rattle.gh_trace.specs.declared.state.Trace.{Trace}
use Rattle.gh_trace.proofs.FirstRefuted.{condition_one}
use Rattle.gh_decide.specs.Verdicts.{IsGroundOf}
use Rattle.gh_model.specs.Abstraction.{IsModelOf}
use Rattle.gh_model.specs.BuiltTraces.{heap_in, built_trace, states_under, versions_along}
use Rattle.gh_model.specs.KeptTraces.{drawn_over, IsTraceOf}
use Rattle.gh_model.proofs.building.Drawings.{built_is_counterexample}
use Rattle.gh_inst.specs.Models.{IsModel}
use Rattle.gh_small.specs.Models.{IsFewest, IsLowest}
use Rattle.gh_small.specs.Smallest.{first_cells, IsLeast, IsSmallest}
use Rattle.gh_small.specs.declared.descent.Fewest.{Fewest}
use Rattle.gh_small.proofs.TraceLemmas.{sections_show}

-- a model of the clauses is one of the condition
of_condition : (P : Program) (q : Procedure) (c : Condition) (asked : Problem) (m : Interpretation)
    → asked ≡ problem (symbolic_of P q c) → IsModel asked m → IsModelOf P q c m
of_condition P q c asked m same is =
    let here = subst (λ (g : Problem). IsModel g m) same is in
    record { congruence = here.congruence; instances = here.instances; clauses = here.clauses }

-- a trace that has a state begins with the heap of the first version
begins_first : (m : Interpretation) (n : ℕ) (vs : List Name) (ps : List PathStep) (bs : List Bindings) (x : Drawn)
    (xs : List Drawn)
    → drawn_over vs (states_under m n (versions_along 0 ps) bs) ≡ x ∷ xs
    → first_cells (drawn_over vs (states_under m n (versions_along 0 ps) bs)) ≡ len (heap_in m n 0)
begins_first m n vs [] [] x xs e = absurd (cc)
begins_first m n vs (p ∷ ps) [] x xs e = absurd (cc)
begins_first m n vs [] (b ∷ bs) x xs e = refl
begins_first m n vs (p ∷ ps) (b ∷ bs) x xs e = refl

-- what is lowest shows what is least
shows_least : (P : Program) (q : Procedure) (c : Condition) (cells : ℕ) (o : Option Section) → IsTyped P
    → IsCondition P c → IsOf P c q → IsProblem (problem (symbolic_of P q c)) →
    IsLowest (problem (symbolic_of P q c)) cells o → IsLeast P c cells
shows_least P q c cells None typed is of known e = λ proc its x ys against. omega (arith, e)
shows_least P q c cells (Some s) typed is of known h =
    sections_show P q c s.lines cells typed is of known (omega (arith, h.0)) h.1.valid

module _ (P : Program) (r : kept.Condition) (asked : Problem) (f : Fewest) (t : Trace) (typed : IsTyped P)
    (ground : IsGroundOf P r asked) (known : IsProblem asked) (is : IsFewest asked f)
    (drawn : IsTraceOf P r f.structure t) where
  abbrev meaning : Interpretation
  meaning = interpretation_of f.structure

  abbrev its : Condition
  its = condition_of r

  built : (q : Procedure) → IsCondition P its → IsOf P its q
      → IsDrawnCounterexample P its (drawn_over (variable_names q) (built_trace P q its meaning))
  built q there of =
      built_is_counterexample P q its meaning typed there of
      (of_condition P q its asked meaning (ground q of) is.model.model)

  counted_first : (q : Procedure) → IsCondition P its → IsOf P its q → f.cells ≡ first_cells (drawn_of t)
  counted_first q there of =
      let s = symbolic_of P q its in
      let refutes = built q there of in
      let terms : f.structure.sizes.terms ≡ length s.terms =
      is.model.terms ∙ ap (λ (g : Problem). g.sizes.terms) (ground q of) in
      is.count ∙ ap (λ n. len (heap_in meaning n 0)) terms
      ∙ sym (begins_first meaning (length s.terms) (variable_names q) its.way.steps s.bindings refutes.first
      refutes.others refutes.states)
      ∙ sym (ap first_cells (drawn q of))

  lowest : (q : Procedure) → IsOf P its q → IsLowest (problem (symbolic_of P q its)) f.cells f.section
  lowest q of = subst (λ (g : Problem). IsLowest g f.cells f.section) (ground q of) is.lowest

  pub smallest_found : IsOne P r → IsSmallest P r (record { trace = t; cells = f.cells; section = f.section })
  smallest_found one =
      let there = condition_one P r one in
      let q = there.procedure in
      let of = there.of in
      record {
        counterexample = subst (IsDrawnCounterexample P its) (sym (drawn q of)) (built q there of);
        count = counted_first q there of;
        least =
            shows_least P q its f.cells f.section typed there of (subst IsProblem (ground q of) known) (lowest q of);
        lowest = lowest;
      }
