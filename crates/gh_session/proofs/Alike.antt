-- Conditions of one essence have the same counterexamples.
use Rattle.std.specs.Prelude.{◌≡◌, ◌↔◌, ℕ, List, [], ◌∷◌, ◌++◌, map, flat_map, slice_get, Contains}
use Rattle.std.proofs.Common.{◌∙◌, sym, ap, subst}
use Rattle.std.proofs.lemmas.List.Elements.{Contains-append_left, Contains-append_right}
use Rattle.std.proofs.lemmas.Option.{slice_get_within, get_or_from_slice_get}
use Rattle.gh_ast.specs.Plain.{Procedure, Program}
use Rattle.gh_ast.specs.Programs.{variable_names}
use Rattle.gh_ast.specs.Rules.{IsTyped}
use Rattle.gh_ast.proofs.Lists.{one_value}
use Rattle.gh_path.specs.Graphs.{meets_at}
use Rattle.gh_path.specs.Conditions.{Condition, IsOf, IsThere}
use Rattle.gh_path.proofs.Listed.{all_are_listed}
use Rattle.gh_path.proofs.LoopVariables.{loop_is_over}
use Rattle.gh_path.proofs.Numbers.{numbers_are_there, each_is_there}
use Rattle.gh_trace.specs.Traces.{State, Counterexample, IsTrace, last_state}
use Rattle.gh_trace.specs.Validity.{AreCounterexample}
use Rattle.gh_session.specs.Essences.{Essence, essence, callees_in, callees_at, loops_from, loops_in, loops_at}
use Rattle.gh_session.specs.Essences.{procedures_of, loops_met}
use Rattle.gh_session.specs.Meaning as of
use Rattle.gh_session.specs.Laws.{HaveOneEssence, Decides, EssencesDecide, SameCounterexamples}
use Rattle.gh_session.proofs.Placing.{listed_keeps, listed_has}
use Rattle.gh_session.proofs.Deciding.{Knows, knows, traces, SamePasses, passes, SameStarts, starts}

one_procedure : (P : Program) (c : Condition) (proc q : Procedure) → IsOf P c proc → IsOf P c q → proc ≡ q
one_procedure P c proc q = one_value (slice_get P.procedures c.procedure) proc q

module _ (P : Program) (c : Condition) (proc : Procedure) (typed : IsTyped P) (of_p : IsOf P c proc)
    (there : IsThere P proc c) where
  abbrev pub ps : List ℕ
  ps = procedures_of c

  abbrev pub ls : List ℕ
  ls = loops_met c

  abbrev pub E : Essence
  E = essence P proc c

  K : Knows P proc ps ls E
  K = knows P proc c of_p

  in_ps : (n : ℕ) → Contains (flat_map callees_in c.way.steps ++ callees_at c.way.check) n → Contains ps n
  in_ps n has = listed_has (c.procedure ∷ []) (flat_map callees_in c.way.steps ++ callees_at c.way.check) n has

  in_ls : (n : ℕ) → Contains (flat_map loops_in c.way.steps ++ loops_at c.way.check) n → Contains ls n
  in_ls n has = listed_has (loops_from c.start) (flat_map loops_in c.way.steps ++ loops_at c.way.check) n has

  declared : Contains P.procedures proc
  declared = (
    c.procedure,
    slice_get_within P.procedures c.procedure proc of_p,
    get_or_from_slice_get P.procedures c.procedure proc proc of_p,
  )

  begins : (x : State) → SameStarts proc E ls x c.start
  begins x =
      starts P proc ps ls E K x c.start there.start
      (λ n has. listed_keeps (loops_from c.start) (flat_map loops_in c.way.steps ++ loops_at c.way.check) n has)

  leads : (x : State) (ys : List State) → IsTrace P proc x c.way.steps ys ↔ of.IsTrace E x E.steps ys
  leads x ys =
      traces P proc ps ls E K (loop_is_over P typed proc declared) c.way.steps x ys (each_is_there P proc c there)
      (λ n has. in_ps n (Contains-append_left (flat_map callees_in c.way.steps) (callees_at c.way.check) n has))
      (λ n has. in_ls n (Contains-append_left (flat_map loops_in c.way.steps) (loops_at c.way.check) n has))

  ends : (x : State) → SamePasses P proc E ps ls x c.way.check
  ends x = passes P proc ps ls E K x c.way.check there.check
      (λ n has. in_ps n (Contains-append_right (flat_map callees_in c.way.steps) (callees_at c.way.check) n has))
      (λ n has. in_ls n (Contains-append_right (flat_map loops_in c.way.steps) (loops_at c.way.check) n has))

  both : (x : State) (ys : List State)
      → Counterexample P proc (meets_at proc c.start) c.way.steps c.way.check x ys ↔ of.Counterexample E x ys
  both x ys = (
    λ w. record {
      begins = (begins x).0 w.begins;
      leads = (leads x ys).0 w.leads;
      fails = λ passed. w.fails ((ends (last_state x ys)).1 passed);
    },
    λ w. record {
      begins = (begins x).1 w.begins;
      leads = (leads x ys).1 w.leads;
      fails = λ passed. w.fails ((ends (last_state x ys)).0 passed);
    },
  )

  -- whatever procedure it is said of, it is proc
  here : (x : State) (ys : List State) → AreCounterexample P c (x ∷ ys) → of.Counterexample E x ys
  here x ys (q, of_q, w) =
      (both x ys).0 (subst (λ r. Counterexample P r (meets_at r c.start) c.way.steps c.way.check x ys)
      (one_procedure P c q proc of_q of_p) w)

  pub decided : Decides P c E
  decided = record {
    traces = λ x ys. (here x ys, λ w. (proc, of_p, (both x ys).1 w));
    drawn = λ xs. (
      λ w. record {
        first = w.first;
        others = w.others;
        states = w.states;
        over = λ x has. w.over x has ∙ ap variable_names (one_procedure P c w.procedure proc w.of of_p);
        counterexample = here w.first.state (map (λ x. x.state) w.others) (w.procedure, w.of, w.counterexample);
      },
      λ w. record {
        procedure = proc;
        of = of_p;
        first = w.first;
        others = w.others;
        states = w.states;
        over = w.over;
        counterexample = (both w.first.state (map (λ x. x.state) w.others)).1 w.counterexample;
      },
    );
    valid = (
      λ v x ys w. v proc of_p x ys ((both x ys).1 w),
      λ v q of_q x ys w. v x ys (here x ys (q, of_q, w)),
    );
  }

pub essences_decide : EssencesDecide
essences_decide P c E e =
    subst (Decides P c) e.is
    (decided P c e.procedure e.typed e.of
    (numbers_are_there P c e.procedure e.typed ((all_are_listed P c).0 e.one) e.of))

pub same_counterexamples : SameCounterexamples
same_counterexamples P Q c d E e f =
    let a = essences_decide P c E e in
    let b = essences_decide Q d E f in
    record {
      traces = λ x ys. (λ w. (b.traces x ys).1 ((a.traces x ys).0 w), λ w. (a.traces x ys).1 ((b.traces x ys).0 w));
      drawn = λ xs. (λ w. (b.drawn xs).1 ((a.drawn xs).0 w), λ w. (a.drawn xs).1 ((b.drawn xs).0 w));
      valid = (λ v. b.valid.1 (a.valid.0 v), λ v. a.valid.1 (b.valid.0 v));
    }

pub have_one_essence : HaveOneEssence
have_one_essence P c E F a b =
    sym a.is ∙ ap (λ proc. essence P proc c) (one_procedure P c a.procedure b.procedure a.of b.of) ∙ b.is
