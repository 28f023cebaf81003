-- Kept states that refute a condition, and the drawing of them.
use Rattle.std.specs.Prelude.{◌≡◌, ℕ, List, [], ◌∷◌, Option, Some, Bool, true, false, cond, unwrap_or, map, get_or, All}
use Rattle.std.specs.Prelude.{Contains}
use Rattle.std.specs.Str.{bytes_eq}
use Rattle.std.specs.FinMap.{entries}
use Rattle.std.proofs.Common.{refl, sym, ◌∙◌, ap, subst, arith}
use Rattle.std.proofs.lemmas.List.Elements.{All-nil, All-cons, All-head, All-tail, All-map, All-weaker}
use Rattle.gh_ast.specs.Plain.{Program}
use Rattle.gh_ast.specs.Programs.{Name, variable_names}
use Rattle.gh_ast.specs.Rules.{IsTyped}
use Rattle.gh_ast.proofs.Lists.{member_first, member_later}
use Rattle.gh_assert.specs.Stores.{listed, store_of}
use Rattle.gh_assert.specs.declared.store.Entry.{Entry}
use Rattle.gh_path.specs.Conditions.{Condition, IsConditionAt}
use Rattle.gh_path.specs.Graphs.{meets_at}
use Rattle.gh_trace.specs.Kept.{state_of, drawn}
use Rattle.gh_trace.specs.Replay as replay
use Rattle.gh_trace.specs.Traces as plain
use Rattle.gh_trace.specs.Traces.{Counterexample}
use Rattle.gh_trace.specs.Validity.{AreCounterexample}
use Rattle.gh_trace.specs.declared.state.State.{State}
use Rattle.gh_draw.specs.Drawings.{drawing, IsDrawable}
use Rattle.gh_draw.specs.Drawn.{drawing_text, IsValue, HasValues, IsDrawnCell, HasVariables, IsDrawnState, IsDrawnFor}
use Rattle.gh_draw.specs.Drawn.{IsTold}
use Rattle.gh_draw.proofs.Texts.{numbered_told}

-- values

either_fits : (b : Bool) (v : ℕ) (o : Option ℕ) → IsValue v → IsValue (unwrap_or o 0)
    → IsValue (unwrap_or (cond b (Some v) o) 0)
either_fits true v o h k = h
either_fits false v o h k = k

value_fits : (es : List Entry) → All (λ e. IsValue e.value) es → (name : Name) → IsValue (store_of es name)
value_fits [] p name = omega arith
value_fits (e ∷ es) p name =
    either_fits (bytes_eq e.name name) e.value (listed es name) (All-head (λ (x : Entry). IsValue x.value) e es p)
    (value_fits es (All-tail (λ (x : Entry). IsValue x.value) e es p) name)

pub state_drawable : (ns : List Name) (s : State) → HasValues s → IsDrawable ns (state_of s)
state_drawable ns s h = record {
  values = λ k d w. value_fits s.store h.values (get_or ns k d);
  cells =
      All-weaker IsDrawnCell (λ c. IsValue c.0 × IsValue c.1) (λ c d. (d.place, d.content)) (entries s.heap) h.cells;
}

states_drawable : (ns : List Name) (ss : List State) → All HasValues ss → All (IsDrawable ns) (map state_of ss)
states_drawable ns ss p =
    All-map (IsDrawable ns) state_of ss
    (All-weaker HasValues (λ s. IsDrawable ns (state_of s)) (state_drawable ns) ss p)

-- states

all_over : (ns : List Name) (ss : List State) → ((x : replay.Drawn) → Contains (map drawn ss) x → x.listed ≡ ns)
    → All (HasVariables ns) ss
all_over ns [] f = All-nil (HasVariables ns)
all_over ns (s ∷ ss) f =
    All-cons (HasVariables ns) s ss (f (drawn s) (member_first (drawn s) (map drawn ss)))
    (all_over ns ss (λ x i. f x (member_later (drawn s) x (map drawn ss) i)))

states_of : (ss : List State) → map (λ x. x.state) (map drawn ss) ≡ map state_of ss
states_of [] = refl
states_of (s ∷ ss) = ap (λ xs. state_of s ∷ xs) (states_of ss)

plain_refutes : (P : Program) (c : Condition) (ss : List State) → replay.IsDrawnCounterexample P c (map drawn ss)
    → AreCounterexample P c (map state_of ss)
plain_refutes P c [] r = let none : [] ≡ r.first ∷ r.others = r.states in absurd cc
plain_refutes P c (s ∷ ss) r =
    let first : r.first ≡ drawn s = cc in
    let others : r.others ≡ map drawn ss = cc in
    let begins : r.first.state ≡ state_of s = ap (λ (x : replay.Drawn). x.state) first in
    let follow : map (λ (x : replay.Drawn). x.state) r.others ≡ map state_of ss =
    ap (λ xs. map (λ (x : replay.Drawn). x.state) xs) others ∙ states_of ss in (
      r.procedure,
      r.of,
      subst (λ (x : plain.State). Counterexample P r.procedure (meets_at r.procedure c.start) c.way.steps c.way.check x
          (map state_of ss)) begins
          (subst (λ (ys : List plain.State). Counterexample P r.procedure (meets_at r.procedure c.start) c.way.steps
          c.way.check r.first.state ys) follow r.counterexample),
    )

pub states_are_drawn : (ns : List Name) (ss : List State) → All (HasVariables ns) ss → All HasValues ss
    → All (IsDrawnState ns) ss
states_are_drawn ns ss over values =
    λ k d w. record { over = over k d w; values = (values k d w).values; cells = (values k d w).cells }

states_drawn : (P : Program) (c : Condition) (ss : List State) → (r : replay.IsDrawnCounterexample P c (map drawn ss))
    → All HasValues ss → All (IsDrawnState (variable_names r.procedure)) ss
states_drawn P c ss r values =
    states_are_drawn (variable_names r.procedure) ss (all_over (variable_names r.procedure) ss r.over) values

-- the text of the drawing is that of plain states
pub text_of_refuted : (P : Program) (n : ℕ) (c : Condition) (ss : List State) → IsTyped P
    → (r : replay.IsDrawnCounterexample P c (map drawn ss)) → All HasValues ss
    → drawing_text n ss ≡ drawing n (variable_names r.procedure) (map state_of ss)
text_of_refuted P n c ss typed r values = numbered_told P n c r.procedure ss typed r.of (states_drawn P c ss r values)

-- which refute the condition and are drawable
pub told_of_refuted : (P : Program) (n : ℕ) (c : Condition) (ss : List State) → IsTyped P → IsConditionAt P n c
    → replay.IsDrawnCounterexample P c (map drawn ss) → All HasValues ss → IsTold P n c ss
told_of_refuted P n c ss typed at r values = record {
  procedure = r.procedure;
  of = r.of;
  text = text_of_refuted P n c ss typed r values;
  refutes = plain_refutes P c ss r;
  drawable = states_drawable (variable_names r.procedure) ss values;
}

pub drawn_of_refuted : (P : Program) (n : ℕ) (c : Condition) (ss : List State) → IsConditionAt P n c → IsValue n
    → replay.IsDrawnCounterexample P c (map drawn ss) → All HasValues ss
    → IsDrawnFor P n ss
drawn_of_refuted P n c ss at fits r values = record {
  condition = c;
  procedure = r.procedure;
  of = r.of;
  at = at;
  fits = fits;
  some = λ none. let empty : [] ≡ r.first ∷ r.others = ap (λ xs. map drawn xs) (sym none) ∙ r.states in absurd cc;
  states = states_drawn P c ss r values;
}
