-- Traces of structures, as they are kept.
use Rattle.std.specs.Prelude.{◌≡◌, ℕ, ◌<◌, List, [], ◌∷◌, map, Some}
use Rattle.gh_base.specs.declared.atom.Term.{Term}
use Rattle.gh_base.specs.Meaning.{Interpretation}
use Rattle.gh_base.specs.Structures.{Tables, interpretation_of}
use Rattle.gh_ast.specs.Plain.{Procedure, Program}
use Rattle.gh_ast.specs.Programs.{Name, variable_names}
use Rattle.gh_ast.specs.Rules.{IsTyped}
use Rattle.gh_assert.specs.declared.store.Entry.{Entry}
use Rattle.gh_assert.specs.Meaning.{Store}
use Rattle.gh_path.specs.Conditions.{Condition, IsCondition, IsOf}
use Rattle.gh_path.specs.Kept.{HoldsFor}
use Rattle.gh_path.specs.declared.condition.Condition as kept_condition
use Rattle.gh_grass.specs.declared.binding.Bond.{Bond}
use Rattle.gh_grass.specs.Bindings.{term_in}
use Rattle.gh_symb.specs.Formulas.{version_after}
use Rattle.gh_symb.specs.Inside.{binding_of, step_of}
use Rattle.gh_symb.specs.declared.over_terms.Symbolic.{Symbolic}
use Rattle.gh_symb.specs.declared.over_terms.TermStep.{TermStep}
use Rattle.gh_trace.specs.declared.state.State.{State}
use Rattle.gh_trace.specs.declared.state.Trace.{Trace}
use Rattle.gh_trace.specs.Kept.{drawn_of}
use Rattle.gh_trace.specs.Replay.{Drawn, IsDrawnCounterexample}
use Rattle.gh_trace.specs.Traces as plain
use Rattle.gh_model.specs.Classes.{class_of}
use Rattle.gh_model.specs.Versions.{equal_in}
use Rattle.gh_model.specs.Abstraction.{IsModelOf}
use Rattle.gh_model.specs.BuiltTraces.{store_under, heap_in, built_trace}

-- variables in order with their values
abbrev pub entries_under : Store → List Name → List Entry
entries_under s xs = map (λ x. record { name = x; value = s x }) xs

-- a variable has the class of its term in the structure, or 0 where it has no term
abbrev pub store_in : Tables → List Bond → Store
store_in s b = store_under (class_of (equal_in (interpretation_of s)) s.sizes.terms) (binding_of b)

-- the variables xs in order with these values, and the heap of version i
abbrev pub state_in : Tables → List Name → ℕ → List Bond → State
state_in s xs i b = record {
  store = entries_under (store_in s b) xs;
  heap = heap_in (interpretation_of s) s.sizes.terms i;
}

-- some variables with their values in a structure, and the state of a procedure at the version i
abbrev pub values_of : Tables → List Bond → List Name → List Entry
values_of s b xs = entries_under (store_in s b) xs

abbrev pub state_at : Tables → Procedure → ℕ → List Bond → State
state_at s p i b = state_in s (variable_names p) i b

-- the version after the first of some steps, and the others
abbrev pub after_first : List TermStep → ℕ → ℕ
after_first [] i = i
after_first (p ∷ ps) i = version_after i (step_of p)

abbrev pub past_first : List TermStep → List TermStep
past_first [] = []
past_first (p ∷ ps) = ps

-- a state for each binding, from version i on
abbrev pub states_in : Tables → List Name → ℕ → List TermStep → List (List Bond) → List State
states_in s xs i ps [] = []
states_in s xs i ps (b ∷ bs) = state_in s xs i b ∷ states_in s xs (after_first ps i) (past_first ps) bs

-- the states of a procedure for the steps and the bindings of a condition over terms
abbrev pub states_of : Tables → Procedure → Symbolic → List State
states_of s p y = states_in s (variable_names p) 0 y.steps.items y.bindings.items

-- the terms are below n
abbrev pub AreBelow : ℕ → List Bond → Type 0
AreBelow n b = (x : Name) (t : Term) → term_in b x ≡ Some t → t.0 < n

-- the structure has the terms of each binding and the version of each state
abbrev pub HasAll : Tables → ℕ → List TermStep → List (List Bond) → Type 0
HasAll s i ps [] = Unit {0}
HasAll s i ps (b ∷ bs) =
    (i < s.sizes.versions) × AreBelow s.sizes.terms b × HasAll s (after_first ps i) (past_first ps) bs

-- states whose stores list these names
abbrev pub drawn_over : List Name → List plain.State → List Drawn
drawn_over xs ys = map (λ y. record { listed = xs; state = y }) ys

-- the states that an interpretation builds for a kept condition, over the variables of its procedure
abbrev pub AreBuilt : Program → kept_condition.Condition → Interpretation → List Drawn → Type 0
AreBuilt P r m xs = HoldsFor P r (λ P proc c. xs ≡ drawn_over (variable_names proc) (built_trace P proc c m))

-- the trace of a structure for a kept condition
abbrev pub IsTraceOf : Program → kept_condition.Condition → Tables → Trace → Type 0
IsTraceOf P r s t = AreBuilt P r (interpretation_of s) (drawn_of t)

-- the trace of a model of a condition, drawn over the variables of its procedure, is a counterexample
abbrev pub BuiltIsCounterexample : Type 0
BuiltIsCounterexample =
    (P : Program) (proc : Procedure) (c : Condition) (m : Interpretation) → IsTyped P → IsCondition P c → IsOf P c proc
    → IsModelOf P proc c m →
    IsDrawnCounterexample P c (drawn_over (variable_names proc) (built_trace P proc c m))
