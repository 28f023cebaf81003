-- States that are drawn over the variables of a procedure.
use Rattle.std.specs.Prelude.{◌≡◌, List, [], ◌∷◌, map, slice_get, Contains}
use Rattle.std.proofs.Common.{refl, sym, ap, subst, inl, inr}
use Rattle.gh_ast.specs.Plain.{Procedure, Program}
use Rattle.gh_ast.specs.Programs.{Name, variable_names}
use Rattle.gh_ast.proofs.Lists.{member_cases, no_member, one_value}
use Rattle.gh_path.specs.Graphs.{meets_at}
use Rattle.gh_path.specs.Conditions.{Condition, IsOf}
use Rattle.gh_trace.specs.Traces.{State, Counterexample}
use Rattle.gh_trace.specs.Validity as whole
use Rattle.gh_trace.specs.Replay.{Drawn, IsDrawnCounterexample}
use Rattle.gh_trace.specs.Validity.{IsCounterexample}
use Rattle.gh_model.specs.BuiltTraces.{built_trace}
use Rattle.gh_model.specs.KeptTraces.{drawn_over, BuiltIsCounterexample}
use Rattle.gh_model.proofs.locality.Traces.{locality_holds}

-- drawing keeps the states
states_of : (xs : List Name) (ys : List State) → map (λ (d : Drawn). d.state) (drawn_over xs ys) ≡ ys
states_of xs [] = refl
states_of xs (y ∷ ys) = ap (λ zs. y ∷ zs) (states_of xs ys)

all_over : (xs : List Name) (ys : List State) (d : Drawn) → Contains (drawn_over xs ys) d → d.listed ≡ xs
all_over xs [] d there = absurd (no_member d there)
all_over xs (y ∷ ys) d there = elim (member_cases (record { listed = xs; state = y }) (drawn_over xs ys) d there) [
  | inl same ↦ sym (ap (λ (z : Drawn). z.listed) same)
  | inr later ↦ all_over xs ys d later
]

-- a counterexample that is drawn over the variables of the condition's procedure refutes the condition
pub drawn_refutes : (P : Program) (proc : Procedure) (c : Condition) (ys : List State) → IsOf P c proc
    → whole.AreCounterexample P c ys → IsDrawnCounterexample P c (drawn_over (variable_names proc) ys)
drawn_refutes P proc c [] of R = absurd R
drawn_refutes P proc c (y ∷ ys) of R =
    let (q, of', C) = R in
    let xs = variable_names proc in
    let same : q ≡ proc = one_value (slice_get P.procedures c.procedure) q proc of' of in
    let C' : IsCounterexample P proc c y ys = subst (λ (r : Procedure). IsCounterexample P r c y ys) same C in
    record {
      procedure = proc;
      of = of;
      first = record { listed = xs; state = y };
      others = drawn_over xs ys;
      states = refl;
      over = all_over xs (y ∷ ys);
      counterexample =
          subst (Counterexample P proc (meets_at proc c.start) c.way.steps c.way.check y) (sym (states_of xs ys)) C';
    }

pub built_is_counterexample : BuiltIsCounterexample
built_is_counterexample P proc c m typed is of I =
    drawn_refutes P proc c (built_trace P proc c m) of (locality_holds P proc c m typed is of I)
