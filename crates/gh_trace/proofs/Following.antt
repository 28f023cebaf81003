-- A walk along the steps of a condition.
use Rattle.std.specs.Prelude.{◌≡◌, ℕ, suc, ◌+◌, ◌<◌, ◌≤◌, List, [], ◌∷◌, map, length, get_or, drop, Contains}
use Rattle.std.proofs.Common.{refl, ap, subst, inl, inr, arith}
use Rattle.std.proofs.lemmas.List.{drop_all}
use Rattle.gh_ast.specs.Plain.{Procedure, Program}
use Rattle.gh_ast.specs.Programs.{variable_names}
use Rattle.gh_ast.proofs.Lists.{member_cases, no_member}
use Rattle.gh_path.specs.Graphs.{Check, PathStep, meets_at}
use Rattle.gh_path.specs.Conditions.{IsOf}
use Rattle.gh_path.specs.Kept.{step_of, condition_of}
use Rattle.gh_path.specs.declared.condition.PathStep as kept_step
use Rattle.gh_path.specs.declared.condition.Condition as kept_condition
use Rattle.gh_trace.specs.declared.state.State as kept_state
use Rattle.gh_trace.specs.declared.replay.ReplayError.{ReplayError}
use Rattle.gh_trace.specs.declared.replay.ReplayError.TheVariants.{Step, OutOfMemory}
use Rattle.gh_trace.specs.Traces.{State, Passes}
use Rattle.gh_trace.specs.Replay.{Drawn, Begins, LeadsTo, FailsAfter, IsDrawnCounterexample}
use Rattle.gh_trace.specs.Kept.{drawn, IsFailure}
use Rattle.gh_trace.specs.Rest.{RefutesAfter, IsRefutedAfter, IsFailureAfter}
use Rattle.gh_trace.proofs.Listings.{next}

-- what is found from a later state on is found from an earlier one on, i steps before
pub record CarriesBack (P : Program) (proc : Procedure) (ss : List PathStep) (x : State) (ys : List Drawn)
    (rest : List PathStep) (x' : State) (ys' : List Drawn) (i : ℕ) : Type 0 where
  pub failure : (c : Check) (n : ℕ) → FailsAfter P proc x' rest c ys' n → FailsAfter P proc x ss c ys (i + n)
  pub refuted : (c : Check) → RefutesAfter P proc x' rest c ys' → RefutesAfter P proc x ss c ys

pub follows_first : (P : Program) (proc : Procedure) (ss : List PathStep) (x : State) (ys : List Drawn)
    → CarriesBack P proc ss x ys ss x ys 0
follows_first P proc ss x ys =
    record {
      failure = λ c n f. (let same : n ≡ 0 + n = omega arith in subst (FailsAfter P proc x ss c ys) same f);
      refuted = λ c r. r;
    }

over_more : (p : Procedure) (y : Drawn) (ys : List Drawn) → y.listed ≡ variable_names p
    → ((z : Drawn) → Contains ys z → z.listed ≡ variable_names p) → (z : Drawn) → Contains (y ∷ ys) z
    → z.listed ≡ variable_names p
over_more p y ys first over z i =
    elim (member_cases y ys z i)
    [ inl same ↦ subst (λ q. q.listed ≡ variable_names p) same first | inr more ↦ over z more ]

pub follows_more : (P : Program) (proc : Procedure) (ss : List PathStep) (x : State) (ys : List Drawn) (s : PathStep)
    (rest : List PathStep) (x' : State) (y : Drawn) (ys' : List Drawn) (i : ℕ) → LeadsTo P proc s x' y
    → CarriesBack P proc ss x ys (s ∷ rest) x' (y ∷ ys') i
    → CarriesBack P proc ss x ys rest y.state ys' (i + 1)
follows_more P proc ss x ys s rest x' y ys' i leads g = record {
  failure = λ c n f. (let count : i + suc n ≡ (i + 1) + n = omega arith in
      subst (FailsAfter P proc x ss c ys) count (g.failure c (suc n) (inr (leads, n, refl, f))));
  refuted =
      λ c r. g.refuted c (record
      { over = over_more proc y ys' leads.0 r.over; leads = (leads.1, r.leads); fails = r.fails });
}

-- a state is missing
pub missing_fails : (P : Program) (proc : Procedure) (ss : List PathStep) (x : State) (ys : List Drawn) (s : PathStep)
    (rest : List PathStep) (x' : State) (i : ℕ) → CarriesBack P proc ss x ys (s ∷ rest) x' [] i → (c : Check)
    → FailsAfter P proc x ss c ys (i + 1)
missing_fails P proc ss x ys s rest x' i g c = g.failure c 1 refl

-- the step doesn't lead to the next state
pub step_fails : (P : Program) (proc : Procedure) (ss : List PathStep) (x : State) (ys : List Drawn) (s : PathStep)
    (rest : List PathStep) (x' : State) (y : Drawn) (ys' : List Drawn) (i : ℕ) → (LeadsTo P proc s x' y → ⊥)
    → CarriesBack P proc ss x ys (s ∷ rest) x' (y ∷ ys') i
    → (c : Check) → FailsAfter P proc x ss c ys (i + 1)
step_fails P proc ss x ys s rest x' y ys' i misses g c = g.failure c 1 (inl (misses, refl))

-- after the last step more states follow
pub more_fails : (P : Program) (proc : Procedure) (ss : List PathStep) (x : State) (ys : List Drawn) (x' : State)
    (y : Drawn) (ys' : List Drawn) (i : ℕ) → CarriesBack P proc ss x ys [] x' (y ∷ ys') i → (c : Check)
    → FailsAfter P proc x ss c ys (i + 1)
more_fails P proc ss x ys x' y ys' i g c = g.failure c 1 refl

-- or the check is passed
pub check_fails : (P : Program) (proc : Procedure) (ss : List PathStep) (x : State) (ys : List Drawn) (x' : State)
    (i : ℕ) → CarriesBack P proc ss x ys [] x' [] i → (c : Check) → Passes P proc c x'
    → FailsAfter P proc x ss c ys (i + 1)
check_fails P proc ss x ys x' i g c passes = g.failure c 1 (passes, refl)

-- or it isn't, and the states refute
pub check_refutes : (P : Program) (proc : Procedure) (ss : List PathStep) (x : State) (ys : List Drawn) (x' : State)
    (i : ℕ) → CarriesBack P proc ss x ys [] x' [] i → (c : Check) → (Passes P proc c x' → ⊥)
    → RefutesAfter P proc x ss c ys
check_refutes P proc ss x ys x' i g c fails =
    g.refuted c (record { over = λ y there. absurd (no_member y there); leads = tt; fails = fails })

-- the same of the steps that are kept, and of kept states: both from the place i on
abbrev pub CarriesBackKept : Program → Procedure → List kept_step.PathStep → State → List kept_state.State → State → ℕ
    → Type 0
CarriesBackKept P proc rs x others x' i =
    CarriesBack P proc (map step_of rs) x (map drawn others) (map step_of (drop i rs)) x' (map drawn (drop i others)) i

-- what is left at a step, and after the last one
some_step : (rs : List kept_step.PathStep) (i : ℕ) (r : kept_step.PathStep) → i < length rs → r ≡ get_or rs i r
    → map step_of (drop i rs) ≡ step_of r ∷ map step_of (drop (i + 1) rs)
some_step rs i r within is = ap (map step_of) (next rs i r within is)

no_step : (rs : List kept_step.PathStep) (i : ℕ) → length rs ≤ i → map step_of (drop i rs) ≡ []
no_step rs i end = ap (map step_of) (drop_all i rs end)

-- and of the states
pub some_state : (others : List kept_state.State) (i : ℕ) (y : kept_state.State) → i < length others
    → y ≡ get_or others i y → map drawn (drop i others) ≡ drawn y ∷ map drawn (drop (i + 1) others)
some_state others i y within is = ap (map drawn) (next others i y within is)

pub no_state : (others : List kept_state.State) (i : ℕ) → length others ≤ i → map drawn (drop i others) ≡ []
no_state others i end = ap (map drawn) (drop_all i others end)

-- at a step
pub at_turn : (P : Program) (proc : Procedure) (rs : List kept_step.PathStep) (x x' : State)
    (others : List kept_state.State) (i : ℕ) (r : kept_step.PathStep) → i < length rs → r ≡ get_or rs i r
    → CarriesBackKept P proc rs x others x' i
    → CarriesBack P proc (map step_of rs) x (map drawn others) (step_of r ∷ map step_of (drop (i + 1) rs)) x'
    (map drawn (drop i others)) i
at_turn P proc rs x x' others i r within is g =
    subst (λ z. CarriesBack P proc (map step_of rs) x (map drawn others) z x' (map drawn (drop i others)) i)
    (some_step rs i r within is) g

-- with the next state
pub at_state : (P : Program) (proc : Procedure) (rs : List kept_step.PathStep) (x x' : State)
    (others : List kept_state.State) (i : ℕ) (r : kept_step.PathStep) (y : kept_state.State) → i < length rs
    → r ≡ get_or rs i r → i < length others → y ≡ get_or others i y
    → CarriesBackKept P proc rs x others x' i
    → CarriesBack P proc (map step_of rs) x (map drawn others) (step_of r ∷ map step_of (drop (i + 1) rs)) x'
    (drawn y ∷ map drawn (drop (i + 1) others)) i
at_state P proc rs x x' others i r y within is there at g =
    subst (λ z. CarriesBack P proc (map step_of rs) x (map drawn others) (step_of r ∷ map step_of (drop (i + 1) rs)) x'
    z i) (some_state others i y there at) (at_turn P proc rs x x' others i r within is g)

-- the step leads to the next state
pub kept_more : (P : Program) (proc : Procedure) (rs : List kept_step.PathStep) (x x' : State)
    (others : List kept_state.State) (i : ℕ) (r : kept_step.PathStep) (y : kept_state.State) → i < length rs
    → r ≡ get_or rs i r → i < length others → y ≡ get_or others i y
    → LeadsTo P proc (step_of r) x' (drawn y) → CarriesBackKept P proc rs x others x' i
    → CarriesBackKept P proc rs x others (drawn y).state (i + 1)
kept_more P proc rs x x' others i r y within is there at leads g =
    follows_more P proc (map step_of rs) x (map drawn others) (step_of r) (map step_of (drop (i + 1) rs)) x' (drawn y)
    (map drawn (drop (i + 1) others)) i leads (at_state P proc rs x x' others i r y within is there at g)

-- it doesn't
pub kept_misses : (P : Program) (proc : Procedure) (rs : List kept_step.PathStep) (x x' : State)
    (others : List kept_state.State) (i : ℕ) (r : kept_step.PathStep) (y : kept_state.State) → i < length rs
    → r ≡ get_or rs i r → i < length others → y ≡ get_or others i y
    → (LeadsTo P proc (step_of r) x' (drawn y) → ⊥) → CarriesBackKept P proc rs x others x' i → (c : Check)
    → FailsAfter P proc x (map step_of rs) c (map drawn others) (i + 1)
kept_misses P proc rs x x' others i r y within is there at misses g c =
    step_fails P proc (map step_of rs) x (map drawn others) (step_of r) (map step_of (drop (i + 1) rs)) x' (drawn y)
    (map drawn (drop (i + 1) others)) i misses (at_state P proc rs x x' others i r y within is there at g) c

-- or there is no next state
pub kept_missing : (P : Program) (proc : Procedure) (rs : List kept_step.PathStep) (x x' : State)
    (others : List kept_state.State) (i : ℕ) (r : kept_step.PathStep) → i < length rs → r ≡ get_or rs i r
    → length others ≤ i
    → CarriesBackKept P proc rs x others x' i → (c : Check)
    → FailsAfter P proc x (map step_of rs) c (map drawn others) (i + 1)
kept_missing P proc rs x x' others i r within is none g c =
    missing_fails P proc (map step_of rs) x (map drawn others) (step_of r) (map step_of (drop (i + 1) rs)) x' i
    (subst (λ z. CarriesBack P proc (map step_of rs) x (map drawn others) (step_of r ∷ map step_of (drop (i + 1) rs)) x'
    z i) (no_state others i none) (at_turn P proc rs x x' others i r within is g)) c

-- past the last step, with as many states as steps
pub record IsPast (P : Program) (proc : Procedure) (rs : List kept_step.PathStep) (x : State)
    (others : List kept_state.State) (x' : State) (i n : ℕ) : Type 0 where
  pub count : i ≡ n
  pub follows : CarriesBack P proc (map step_of rs) x (map drawn others) [] x' (map drawn (drop i others)) i

pub past : (P : Program) (proc : Procedure) (rs : List kept_step.PathStep) (x : State) (others : List kept_state.State)
    (x' : State) (i n : ℕ) (zs : List kept_step.PathStep) (len : ℕ)
    → zs ≡ rs → length zs ≡ len → length zs ≤ i → i ≤ length zs → n ≡ len → CarriesBackKept P proc rs x others x' i
    → IsPast P proc rs x others x' i n
past P proc rs x others x' i n zs len same whole far within all g = record {
  count = omega (arith, whole, far, within, all);
  follows =
      subst (λ z. CarriesBack P proc (map step_of rs) x (map drawn others) z x' (map drawn (drop i others)) i)
      (no_step rs i (subst (λ ys. length ys ≤ i) same far)) g;
}

-- from a first state on
pub refutes_whole : (P : Program) (proc : Procedure) (r : kept_condition.Condition) (x : Drawn) (ys : List Drawn)
    → IsOf P (condition_of r) proc → Begins proc (meets_at proc (condition_of r).start) x
    → IsRefutedAfter P proc r x.state ys → IsDrawnCounterexample P (condition_of r) (x ∷ ys)
refutes_whole P proc r x ys of begins after = record {
  procedure = proc;
  of = of;
  first = x;
  others = ys;
  states = refl;
  over = over_more proc x ys begins.0 after.over;
  counterexample = record { begins = begins.1; leads = after.leads; fails = after.fails };
}

-- a later failure is one of the whole
pub fails_whole : (P : Program) (proc : Procedure) (r : kept_condition.Condition) (x : Drawn) (ys : List Drawn)
    (e : ReplayError) → IsOf P (condition_of r) proc → Begins proc (meets_at proc (condition_of r).start) x
    → IsFailureAfter P proc r x.state ys e → IsFailure P r (x ∷ ys) e
fails_whole P proc r x ys (Step n) of begins after = (proc, of, inr (begins, after))
fails_whole P proc r x ys OutOfMemory of begins after = tt

-- the first state isn't as it should be
pub start_fails : (P : Program) (proc : Procedure) (r : kept_condition.Condition) (x : Drawn) (ys : List Drawn)
    → IsOf P (condition_of r) proc → (Begins proc (meets_at proc (condition_of r).start) x → ⊥)
    → IsFailure P r (x ∷ ys) (Step 0)
start_fails P proc r x ys of misses = (proc, of, inl (misses, refl))

-- or there is none
pub nothing_fails : (P : Program) (proc : Procedure) (r : kept_condition.Condition) → IsOf P (condition_of r) proc
    → IsFailure P r [] (Step 0)
nothing_fails P proc r of = (proc, of, refl)
