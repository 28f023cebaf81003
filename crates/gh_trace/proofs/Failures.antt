-- Drawn states have at most one first failure, and those that refute a condition have none.
use Rattle.std.specs.Prelude.{◌≡◌, ℕ, suc, ◌≤◌, List, [], ◌∷◌, length, map, Contains, slice_get}
use Rattle.std.proofs.Common.{refl, sym, ◌∙◌, ap, subst, inl, inr, arith}
use Rattle.gh_ast.specs.Plain.{Assertion, Procedure, Program}
use Rattle.gh_ast.specs.Programs.{variable_names}
use Rattle.gh_ast.proofs.Lists.{member_first, member_later, member_cases, no_member, one_value}
use Rattle.gh_assert.specs.Meaning.{Meaning}
use Rattle.gh_path.specs.Graphs.{Check, PathStep, meets_at}
use Rattle.gh_path.specs.Conditions.{Condition, IsOf}
use Rattle.gh_trace.specs.Traces.{State, Passes, IsTrace, last_state}
use Rattle.gh_trace.specs.Replay.{Drawn, FailsAfter, FailsFirst, FirstFailure, IsDrawnCounterexample}
use Rattle.gh_trace.specs.Laws.{FailuresAreOne}

one_after : (P : Program) (proc : Procedure) (x : State) (ss : List PathStep) (c : Check) (ys : List Drawn) (n m : ℕ)
    → FailsAfter P proc x ss c ys n → FailsAfter P proc x ss c ys m → n ≡ m
one_after P proc x [] c [] n m f g = f.1 ∙ sym g.1
one_after P proc x [] c (y ∷ ys) n m f g = f ∙ sym g
one_after P proc x (s ∷ ss) c [] n m f g = f ∙ sym g
one_after P proc x (s ∷ ss) c (y ∷ ys) n m f g = elim f [
  | inl (not, e) ↦ elim g [ inl (not', e') ↦ e ∙ sym e' | inr (takes, k, e', more) ↦ absurd (not takes) ]
  | inr (takes, k, e, more) ↦ elim g [
    | inl (not, e') ↦ absurd (not takes)
    | inr (takes', k', e', more') ↦ e
        ∙ ap suc (one_after P proc y.state ss c ys k k' more more') ∙ sym e'
  ]
]

one_first : (P : Program) (proc : Procedure) (f : Assertion) (ss : List PathStep) (c : Check) (xs : List Drawn)
    (n m : ℕ) → FailsFirst P proc f ss c xs n → FailsFirst P proc f ss c xs m → n ≡ m
one_first P proc f ss c [] n m a b = a ∙ sym b
one_first P proc f ss c (x ∷ ys) n m a b = elim a [
  | inl (not, e) ↦ elim b [ inl (not', e') ↦ e ∙ sym e' | inr (met, more) ↦ absurd (not met) ]
  | inr (met, more) ↦ elim b
      [ inl (not, e) ↦ absurd (not met) | inr (met', more') ↦ one_after P proc x.state ss c ys n m more more' ]
]

-- what is first of a condition is told by its procedure, which is one
abbrev IsFirstIn : Program → Condition → Procedure → List Drawn → ℕ → Type 0
IsFirstIn P c proc xs n = FailsFirst P proc (meets_at proc c.start) c.way.steps c.way.check xs n

-- so it is first in that procedure
first_in : (P : Program) (c : Condition) (proc : Procedure) (xs : List Drawn) (n : ℕ) → IsOf P c proc
    → FirstFailure P c xs n → IsFirstIn P c proc xs n
first_in P c proc xs n of (q, there, a) =
    subst (λ r. IsFirstIn P c r xs n) (one_value (slice_get P.procedures c.procedure) q proc there of) a

-- there is one first failure
one : (P : Program) (c : Condition) (xs : List Drawn) (n m : ℕ) → FirstFailure P c xs n → FirstFailure P c xs m → n ≡ m
one P c xs n m (proc, of, a) b =
    one_first P proc (meets_at proc c.start) c.way.steps c.way.check xs n m a (first_in P c proc xs m of b)

abbrev states : List Drawn → List State
states = map (λ x. x.state)

abbrev AreOver : Procedure → List Drawn → Type 0
AreOver p xs = (x : Drawn) → Contains xs x → x.listed ≡ variable_names p

none_after : (P : Program) (proc : Procedure) (x : State) (ss : List PathStep) (c : Check) (ys : List Drawn) (n : ℕ)
    → AreOver proc ys → IsTrace P proc x ss (states ys) → (Passes P proc c (last_state x (states ys)) → ⊥)
    → FailsAfter P proc x ss c ys n → ⊥
none_after P proc x [] c [] n over t fails f = fails f.0
none_after P proc x [] c (y ∷ ys) n over t fails f = t
none_after P proc x (s ∷ ss) c [] n over t fails f = t
none_after P proc x (s ∷ ss) c (y ∷ ys) n over t fails f = elim f [
  | inl (not, e) ↦ not (over y (member_first y ys), t.0)
  | inr (takes, k, e, more) ↦ none_after P proc y.state ss c ys k (λ z i. over z (member_later y z ys i)) t.1 fails more
]

none_first : (P : Program) (proc : Procedure) (f : Assertion) (ss : List PathStep) (c : Check) (x : Drawn)
    (ys : List Drawn) (n : ℕ) → AreOver proc (x ∷ ys) → Meaning f x.state.store x.state.heap
    → IsTrace P proc x.state ss (states ys) →
    (Passes P proc c (last_state x.state (states ys)) → ⊥) → FailsFirst P proc f ss c (x ∷ ys) n → ⊥
none_first P proc f ss c x ys n over met t fails a = elim a [
  | inl (not, e) ↦ not (over x (member_first x ys), met)
  | inr (begins, more) ↦ none_after P proc x.state ss c ys n (λ z i. over z (member_later x z ys i)) t fails more
]

refutes : (P : Program) (c : Condition) (xs : List Drawn) → IsDrawnCounterexample P c xs → (n : ℕ) → FirstFailure P c xs n → ⊥
refutes P c xs is n a =
    let proc = is.procedure in
    none_first P proc (meets_at proc c.start) c.way.steps c.way.check is.first is.others n
    (subst (AreOver proc) is.states is.over) is.counterexample.begins is.counterexample.leads
    is.counterexample.fails
    (subst (λ zs. IsFirstIn P c proc zs n) is.states (first_in P c proc xs n is.of a))

within_after : (P : Program) (proc : Procedure) (x : State) (ss : List PathStep) (c : Check) (ys : List Drawn) (n : ℕ)
    → FailsAfter P proc x ss c ys n → n ≤ suc (length ss)
within_after P proc x [] c [] n f = omega (arith, f.1)
within_after P proc x [] c (y ∷ ys) n f = omega (arith, f)
within_after P proc x (s ∷ ss) c [] n f = omega (arith, f)
within_after P proc x (s ∷ ss) c (y ∷ ys) n f = elim f [
  | inl (not, e) ↦ omega (arith, e)
  | inr (takes, k, e, more) ↦ let less = within_after P proc y.state ss c ys k more in omega (arith, e, less)
]

within_first : (P : Program) (proc : Procedure) (f : Assertion) (ss : List PathStep) (c : Check) (xs : List Drawn)
    (n : ℕ) → FailsFirst P proc f ss c xs n → n ≤ suc (length ss)
within_first P proc f ss c [] n a = omega (arith, a)
within_first P proc f ss c (x ∷ ys) n a =
    elim a [ inl (not, e) ↦ omega (arith, e) | inr (begins, more) ↦ within_after P proc x.state ss c ys n more ]

-- and it is at most one past the last step
within : (P : Program) (c : Condition) (xs : List Drawn) (n : ℕ) → FirstFailure P c xs n → n ≤ suc (length c.way.steps)
within P c xs n (proc, of, a) = within_first P proc (meets_at proc c.start) c.way.steps c.way.check xs n a

over_more : (p : Procedure) (y : Drawn) (ys : List Drawn) → y.listed ≡ variable_names p → AreOver p ys
    → AreOver p (y ∷ ys)
over_more p y ys first over z i =
    elim (member_cases y ys z i)
    [ inl same ↦ subst (λ q. q.listed ≡ variable_names p) same first | inr more ↦ over z more ]

-- there is a failure, or all goes well to the check, which fails
some_after : (P : Program) (proc : Procedure) (x : State) (ss : List PathStep) (c : Check) (ys : List Drawn)
    → ((n : ℕ) → FailsAfter P proc x ss c ys n → ⊥) →
    (AreOver proc ys → IsTrace P proc x ss (states ys) → (Passes P proc c (last_state x (states ys)) → ⊥) → ⊥) → ⊥
some_after P proc x [] c [] f g = g (λ y i. absurd (no_member y i)) tt (λ passed. f 1 (passed, refl))
some_after P proc x [] c (y ∷ ys) f g = f 1 refl
some_after P proc x (s ∷ ss) c [] f g = f 1 refl
some_after P proc x (s ∷ ss) c (y ∷ ys) f g = f 1 (inl (
  λ leads. some_after P proc y.state ss c ys (λ n more. f (suc n) (inr (leads, n, refl, more)))
      (λ over t fails. g (over_more proc y ys leads.0 over) (leads.1, t) fails),
  refl,
))

some_first : (P : Program) (c : Condition) (proc : Procedure) (xs : List Drawn) → IsOf P c proc
    → ((n : ℕ) → FirstFailure P c xs n → ⊥) → (IsDrawnCounterexample P c xs → ⊥) → ⊥
some_first P c proc [] of f g = f 0 (proc, of, refl)
some_first P c proc (x ∷ ys) of f g = f 0 (
  proc,
  of,
  inl (
    λ begins. some_after P proc x.state c.way.steps c.way.check ys (λ n more. f n (proc, of, inr (begins, more)))
        (λ over t fails. g (record {
          procedure = proc;
          of = of;
          first = x;
          others = ys;
          states = refl;
          over = over_more proc x ys begins.0 over;
          counterexample = record { begins = begins.1; leads = t; fails = fails };
        })),
    refl,
  ),
)

pub failures_are_one : FailuresAreOne
failures_are_one = record { one = one; none = refutes; some = some_first; within = within }
