-- The first refuted condition of a report and that of a decision are one.
use Rattle.std.proofs.Common.{◌≡◌, ◌∙◌, inl, inr, ℕ, List, [], ◌∷◌, map, refl, ap, subst}
use Rattle.std.specs.Prelude.{All, Contains, slice_get}
use Rattle.std.proofs.lemmas.List.Elements.{All-head, All-tail}
use Rattle.gh_ast.proofs.Lists.{member_cases, no_member, one_value}
use Rattle.gh_ast.specs.Plain.{Procedure, Program}
use Rattle.gh_ast.specs.Programs.{Name, variable_names}
use Rattle.gh_ast.specs.Rules.{IsTyped}
use Rattle.gh_draw.proofs.Refuted.{told_of_refuted}
use Rattle.gh_draw.specs.Drawings.{drawing}
use Rattle.gh_draw.specs.Drawn.{drawing_text, HasValues, HasVariables}
use Rattle.gh_path.specs.Conditions.{Condition, IsOf}
use Rattle.gh_path.specs.Graphs.{meets_at}
use Rattle.gh_top.specs.Laws.{FirstsAreOne}
use Rattle.gh_top.specs.Reports.{IsFirstRefuted}
use Rattle.gh_trace.proofs.FirstRefuted.{first_at, first_low}
use Rattle.gh_trace.specs.Kept.{state_of, drawn}
use Rattle.gh_trace.specs.Refuted.{ShowsFirst}
use Rattle.gh_trace.specs.Replay as replay
use Rattle.gh_trace.specs.Traces.{Counterexample}
use Rattle.gh_trace.specs.Traces as plain
use Rattle.gh_trace.specs.Validity.{AreCounterexample}
use Rattle.gh_trace.specs.declared.state.State.{State}
use Rattle.gh_trace.specs.declared.state.Trace.{Trace}

pub first_reported : (P : Program) (k : ℕ) (t : Trace) → IsTyped P → (f : ShowsFirst P k t)
    → All HasValues t.states.items → IsFirstRefuted P k f.condition (map state_of t.states.items)
first_reported P k t typed f values =
    let told =
    told_of_refuted P k f.condition t.states.items typed (first_low P k t f, first_at P k t f) f.refutes values in
    record {
      procedure = told.procedure;
      of = told.of;
      reached = record { before = f.before; after = f.after; whole = f.whole; number = f.number_is; valid = f.valid };
      refutes = told.refutes;
      drawable = told.drawable;
    }

-- its drawing is one over the variables of its procedure
pub first_drawn : (P : Program) (k : ℕ) (t : Trace) (typed : IsTyped P) (f : ShowsFirst P k t)
    (values : All HasValues t.states.items)
    → drawing_text k t.states.items
    ≡ drawing k (variable_names (first_reported P k t typed f values).procedure) (map state_of t.states.items)
first_drawn P k t typed f values =
    let told =
    told_of_refuted P k f.condition t.states.items typed (first_low P k t f, first_at P k t f) f.refutes values in
    let reported = first_reported P k t typed f values in
    let same : told.procedure ≡ reported.procedure =
    one_value (slice_get P.procedures f.condition.procedure) told.procedure reported.procedure told.of
    reported.of in
    told.text ∙ ap (λ (proc : Procedure). drawing k (variable_names proc) (map state_of t.states.items)) same

plain_states : (ss : List State) → map state_of ss ≡ map (λ (x : replay.Drawn). x.state) (map drawn ss)
plain_states [] = refl
plain_states (s ∷ ss) = ap (λ xs. state_of s ∷ xs) (plain_states ss)

drawn_over : (ns : List Name) (ss : List State) → All (HasVariables ns) ss → (x : replay.Drawn)
    → Contains (map drawn ss) x → x.listed ≡ ns
drawn_over ns [] over x there = absurd (no_member x there)
drawn_over ns (s ∷ ss) over x there = elim (member_cases (drawn s) (map drawn ss) x there) as (λ _. x.listed ≡ ns) [
  | inl is ↦ subst (λ (y : replay.Drawn). y.listed ≡ ns) is (All-head (HasVariables ns) s ss over)
  | inr later ↦ drawn_over ns ss (All-tail (HasVariables ns) s ss over) x later
]

drawn_refute : (P : Program) (c : Condition) (proc : Procedure) (ss : List State)
    → AreCounterexample P c (map state_of ss) → IsOf P c proc → All (HasVariables (variable_names proc)) ss
    → replay.IsDrawnCounterexample P c (map drawn ss)
drawn_refute P c proc [] against of over = absurd against
drawn_refute P c proc (s ∷ ss) (q, its, against) of over = record {
  procedure = proc;
  of = of;
  first = drawn s;
  others = map drawn ss;
  states = refl;
  over = drawn_over (variable_names proc) (s ∷ ss) over;
  counterexample =
      let here = subst (λ (x : Procedure). Counterexample P x (meets_at x c.start) c.way.steps c.way.check (state_of s)
      (map state_of ss)) (one_value (slice_get P.procedures c.procedure) q proc its of) against in
      subst (λ (ys : List plain.State). Counterexample P proc (meets_at proc c.start) c.way.steps c.way.check
      (state_of s) ys) (plain_states ss) here;
}

first_decided : (P : Program) (k : ℕ) (c : Condition) (t : Trace)
    → (f : IsFirstRefuted P k c (map state_of t.states.items))
    → All (HasVariables (variable_names f.procedure)) t.states.items → ShowsFirst P k t
first_decided P k c t f over = record {
  before = f.reached.before;
  condition = c;
  after = f.reached.after;
  whole = f.reached.whole;
  number_is = f.reached.number;
  valid = f.reached.valid;
  refutes = drawn_refute P c f.procedure t.states.items f.refutes f.of over;
}

pub firsts_are_one : FirstsAreOne
firsts_are_one = record { reported = first_reported; decided = first_decided }
