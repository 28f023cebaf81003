-- Why a program whose conditions are valid is good: by the number of steps, for all procedures, states and frames at
-- once.
use Rattle.std.specs.Prelude.{◌≡◌, ◌⊎◌, ℕ, zero, suc, ◌+◌, ◌≤◌, List, [], ◌∷◌, ◌++◌, map, length, Bool, cond, Some}
use Rattle.std.specs.Prelude.{None, Contains, slice_get}
use Rattle.std.proofs.lemmas.Option.{slice_get_within}
use Rattle.std.proofs.Common.{refl, sym, ◌∙◌, ap, subst, inl, inr, arith}
use Rattle.gh_base.specs.declared.place.Span.{Span}
use Rattle.gh_base.proofs.ListLemmas.{at_front, at_back}
use Rattle.gh_ast.specs.declared.Occ.{Occ}
use Rattle.gh_ast.specs.declared.Expr.{Expr}
use Rattle.gh_ast.specs.Plain.{Cond, Assertion, Statement, set, new, write, free, call, if, while, return, Statements}
use Rattle.gh_ast.specs.Plain.{no_statements, statement_first, Procedure, Program}
use Rattle.gh_assert.specs.Heaps.{Heap, Splits}
use Rattle.gh_assert.specs.Meaning.{Store, Meaning, MeetsOneOf, HasPart}
use Rattle.gh_assert.proofs.Unions.{union}
use Rattle.gh_assert.specs.Values.{Give, outcome}
use Rattle.gh_ast.specs.Programs.{Name, names, parameters_of, results_of, body_statements, Declares, Assigns}
use Rattle.gh_ast.specs.Programs.{SomeAssigns, joined}
use Rattle.gh_ast.proofs.Declared.{is_member}
use Rattle.gh_machine.specs.Machine.{Activation, Config, Fault, IsRun, starting, EndsWell, IsGoodRun, IsGood}
use Rattle.gh_path.specs.Graphs.{Graph, dead_end, ends, guarded, callee_entry, loop_entry, loop_end, return_check}
use Rattle.gh_path.specs.Graphs.{all_reads, tested, call_step, while_step, number_of, lowered, all_lowered, While}
use Rattle.gh_path.specs.Graphs.{while_of, loop_graph, once_around, at_loop, loop_starts, at_entry, invariant_of}
use Rattle.gh_path.specs.Graphs.{meets_at, graph_from, loops, all_loops, loops_of, IsLoopAt, IsProcedureAt}
use Rattle.gh_path.proofs.FormLemmas.{callees_are_numbered}
use Rattle.gh_trace.specs.Traces.{State, StepLeads}
use Rattle.gh_decide.specs.Rules.{ReturnsNot, AllReturnNot, LoopsReturnNot, AllLoopsReturnNot, KeepsRules, AllKeepRules}
use Rattle.gh_decide.specs.Safe.{Safe}
use Rattle.gh_decide.specs.Laws.{Composition}
use Rattle.gh_ast.proofs.Lists.{member_first, member_later, member_cases, no_member, same_values}
use Rattle.gh_decide.proofs.Tests.{after_reads}
use Rattle.gh_decide.proofs.Safe.{from_paths}
use Rattle.gh_assert.proofs.Given.{not_given}
use Rattle.gh_assert.proofs.Frames.{gives_whole, set_aside, taken_back, aside_apart}
use Rattle.gh_assert.proofs.Agree.{Agree, same_meaning}
use Rattle.gh_decide.proofs.Sound.{Sound, working, state, Keeps, Goes, Ending, keeps_on, not_empty, sound_set}
use Rattle.gh_decide.proofs.Sound.{sound_new, sound_write, sound_free, sound_give, sound_test, sound_loop_test}

-- the loop has the number, and each way once around it is safe
pub record IsRound (P : Program) (proc : Procedure) (o : ℕ) (l : While) : Type 0 where
  pub numbered : IsLoopAt proc o l
  pub safe : (x : State) → Meaning l.invariant x.store x.heap → Safe P proc (once_around P o l) x

-- so it is with some loops, which are numbered from o
abbrev pub RoundsSafe : Program → Procedure → ℕ → List While → Type 0
RoundsSafe P proc o ls = (j : ℕ) (l : While) → slice_get ls j ≡ Some l → IsRound P proc (o + j) l

-- those of the first of two lists, and of the last
first_rounds : (P : Program) (proc : Procedure) (o : ℕ) (ls ms : List While) → RoundsSafe P proc o (ls ++ ms)
    → RoundsSafe P proc o ls
first_rounds P proc o ls ms loop_starts j l at = loop_starts j l (at_front ls ms j (slice_get_within ls j l at) ∙ at)

last_rounds : (P : Program) (proc : Procedure) (o : ℕ) (ls ms : List While) → RoundsSafe P proc o (ls ++ ms)
    → RoundsSafe P proc (o + length ls) ms
last_rounds P proc o ls ms loop_starts j l at =
    let count : o + (length ls + j) ≡ (o + length ls) + j = omega arith in
    subst (λ i. IsRound P proc i l) count (loop_starts (length ls + j) l (at_back ls ms (length ls + j) j refl ∙ at))

-- the first loop, and those after it
first_round : (P : Program) (proc : Procedure) (o : ℕ) (l : While) (ls : List While) → RoundsSafe P proc o (l ∷ ls)
    → IsRound P proc o l
first_round P proc o l ls loop_starts = let count : o + 0 ≡ o = omega arith in
    subst (λ i. IsRound P proc i l) count (loop_starts 0 l refl)

later_rounds : (P : Program) (proc : Procedure) (o : ℕ) (l : While) (ls : List While) → RoundsSafe P proc o (l ∷ ls)
    → RoundsSafe P proc (suc o) ls
later_rounds P proc o l ls loop_starts j m at = let count : o + suc j ≡ suc o + j = omega arith in
    subst (λ i. IsRound P proc i m) count (loop_starts (suc j) m at)

pub record Ready (P : Program) : Type 0 where
  pub typed : AllKeepRules P
  pub bodies : (proc : Procedure) → Contains P.procedures proc → (x : State) → Meaning proc.needs x.store x.heap
      → Safe P proc (graph_from P proc at_entry) x
  pub loop_starts : (proc : Procedure) → Contains P.procedures proc → RoundsSafe P proc 0 (loops_of proc)

-- what is known of statements that stand in the block b, whose first loop has the number o
pub record Fits (P : Program) (proc : Procedure) (b : Statements) (o : ℕ) (r : Statements) : Type 0 where
  pub assigns : (y : Name) → SomeAssigns r y → SomeAssigns b y
  pub loop_starts : RoundsSafe P proc o (all_loops r)
  pub returns : AllLoopsReturnNot r

-- for up to n steps: statements that are safe, before a rest that is sound wherever they lead, are sound
abbrev pub AreSoundUpTo : Program → (Config → Type 0) → ℕ → Type 0
AreSoundUpTo P E n =
    (m : ℕ) → m ≤ n → (proc : Procedure) → Contains P.procedures proc
    → (b : Statements) (xs : List Name) (s0 : Store) (F : Heap) (below : List Activation) (q : Statements)
    (k : Graph) (o : ℕ) (r : Statements) →
    Goes P E F b xs s0 k proc q below m → AllReturnNot r ⊎ Ending P E F b xs s0 proc below m → Fits P proc b o r →
    (s : Store) (a h : Heap) → Splits h a F → Safe P proc (all_lowered P o r k) (state s a) → Keeps b xs s0 s
    → Sound P E m (working proc s h (joined r q) below)

nothing_joined : (r : Statements) → joined r no_statements ≡ r
nothing_joined no_statements = refl
nothing_joined (statement_first s ss) = ap (statement_first s) (nothing_joined ss)

no_below : (c : Activation) (cs : List Activation) → c ∷ cs ≡ [] → ⊥
no_below c cs e = absurd cc

same_map : (xs : List Name) (s t : Store) → Agree xs s t → map s xs ≡ map t xs
same_map [] s t a = refl
same_map (x ∷ xs) s t a =
    let first : s x ≡ t x = a x (member_first x xs) in
    let others : map s xs ≡ map t xs = same_map xs s t (λ y c. a y (member_later x y xs c)) in
    rw (first, others) refl

less_goes : (P : Program) (E : Config → Type 0) (F : Heap) (b : Statements) (xs : List Name) (s0 : Store) (g : Graph)
    (proc : Procedure) (rest : Statements) (below : List Activation) (n m : ℕ) → m ≤ n
    → Goes P E F b xs s0 g proc rest below n → Goes P E F b xs s0 g proc rest below m
less_goes P E F b xs s0 g proc rest below n m l go j k = go j (omega (arith, l, k))

less_ending : (P : Program) (E : Config → Type 0) (F : Heap) (b : Statements) (xs : List Name) (s0 : Store)
    (proc : Procedure) (below : List Activation) (n m : ℕ) → m ≤ n → Ending P E F b xs s0 proc below n
    → Ending P E F b xs s0 proc below m
less_ending P E F b xs s0 proc below n m l end =
    record { results_in = end.results_in; finish = λ j k. end.finish j (omega (arith, l, k)) }

module _ (P : Program) (ready : Ready P) (E : Config → Type 0) (n : ℕ) (claim : AreSoundUpTo P E n) (proc : Procedure)
    (is : Contains P.procedures proc) (b : Statements) (xs : List Name) (s0 : Store) (F : Heap)
    (below : List Activation) (rest : Statements) (g : Graph) where
  -- a call: the callee's run is shorter, and its end is the step of the path
  sound_call : (m : ℕ) → m ≤ n → (ts : List Occ) (f : Occ) (es : List Expr) → Goes P E F b xs s0 g proc rest below m
      → ((y : Name) → Contains (names ts) y → SomeAssigns b y) → (s : Store) (a h : Heap) → Splits h a F →
      Safe P proc (all_reads es
      (guarded (callee_entry f.span (number_of P f.name) es) (call_step ts (number_of P f.name) es) g)) (state s a)
      → Keeps b xs s0 s → Sound P E (suc m) (working proc s h (statement_first (call ts f es) rest) below)
  sound_call m l ts f es go mine s a h split safe keeps = (
    λ fault. not_given s h es r.0 fault up,
    λ ended. absurd (not_empty (call ts f es) rest ended.0),
    λ d st.
        let same : st.1 ≡ r.0 = same_values st.1 r.0 (sym st.4 ∙ up) in
        subst (Sound P E m) (sym st.6) (inside st.0 st.2 st.3 (st.5 ∙ same)),
  )
    where
      num : ℕ
      num = number_of P f.name

      r : (vs : List ℕ) × Give s a es vs
          × Safe P proc (guarded (callee_entry f.span num es) (call_step ts num es) g) (state s a)
      r = after_reads P proc es (guarded (callee_entry f.span num es) (call_step ts num es) g) (state s a) safe

      up : Give s h es r.0
      up = gives_whole s h a F split es r.0 r.1

      caller : Activation
      caller = record { procedure = proc; store = s; rest = statement_first (call ts f es) rest }

      inside : (c : Procedure) (t : Store) → Declares P f.name c → map t (parameters_of c) ≡ r.0
          → Sound P E m (working c t h (body_statements c) (caller ∷ below))
      inside c t decl params =
          subst (λ body. Sound P E m (working c t h body (caller ∷ below))) (nothing_joined (body_statements c))
          (claim m l c known (body_statements c) (results_of c) t (union part.1 F) (caller ∷ below) no_statements
          (ends (return_check c.close)) 0 (body_statements c)
          (λ j k u a' h' sp done keep. back j k u a' h' sp done keep)
          (inr (record { results_in = λ y i. i; finish = back }))
          (record { assigns = λ y i. i; loop_starts = ready.loop_starts c known; returns = typed.loops_return_not })
          t part.0 h (set_aside h a F part.0 part.1 split part.2) (ready.bodies c known (state t part.0) part.3)
          (λ y _ _. refl))
        where
          known : Contains P.procedures c
          known = is_member P.procedures f.name c decl

          typed : KeepsRules c
          typed = ready.typed c known

          callee : IsProcedureAt P num c
          callee = (callees_are_numbered P f.name c).1 decl

          part : HasPart c.needs t a
          part = r.2.0 c r.0 t callee r.1 params

          back : (j : ℕ) → j ≤ m → (u : Store) (a' h' : Heap) → Splits h' a' (union part.1 F) → MeetsOneOf c.gives u a'
              → Keeps (body_statements c) (results_of c) t u
              → Sound P E j (working c u h' no_statements (caller ∷ below))
          back zero k u a' h' sp met keep = tt
          back (suc j) k u a' h' sp met keep = (
            λ fault. fault,
            λ ended. absurd (no_below caller below ended.1),
            λ d st.
                let agree : Agree (parameters_of c) t u =
                λ y i. sym (keep y (typed.parameters_stay y i) (typed.distinct y i)) in
                let whole = taken_back h' a' part.1 F sp (aside_apart h a F part.0 part.1 split part.2) in
                let step : StepLeads P proc (call_step ts num es) (state s a) (state st.0 (union a' part.1)) = (
                  c,
                  r.0,
                  callee,
                  r.1,
                  record {
                    inside = u;
                    arguments = sym (same_map (parameters_of c) t u agree) ∙ params;
                    targets = st.1;
                    replaced = record {
                      part = part.0;
                      frame = part.1;
                      other = a';
                      splits = part.2;
                      met = same_meaning c.needs (parameters_of c) t u part.0 agree typed.needs_in part.3;
                      joins = whole.1;
                      meets = met;
                    };
                  },
                ) in
                subst (Sound P E j) (sym st.2)
                (go j (omega (arith, k)) st.0 (union a' part.1) h' whole.0 (r.2.1 (state st.0 (union a' part.1)) step)
                (keeps_on b xs s0 s (names ts) (map u (results_of c)) st.0 keeps st.1 (λ y i. inl (mine y i)))),
          )

  -- a loop: round after round from its own start, and out by the step of the path
  sound_loop : (m : ℕ) → m ≤ n → (o : ℕ) (at : Span) (test : Cond) (i : Assertion) (body : Statements) (close : Span)
      → Goes P E F b xs s0 g proc rest below m →
      IsRound P proc o (while_of at test i body close) → RoundsSafe P proc (suc o) (all_loops body) → AllReturnNot body
      → AllLoopsReturnNot body → ((y : Name) → SomeAssigns body y → SomeAssigns b y) →
      (s : Store) (a h : Heap) → Splits h a F
      → Safe P proc (guarded (loop_entry at o) (while_step o) (tested test dead_end g)) (state s a)
      → Keeps b xs s0 s → Sound P E (suc m)
      (working proc s h (statement_first (while at test i body close) rest) below)
  sound_loop m l o at test i body close go loop_graph loop_starts none inner mine s a h split safe keeps =
      again (suc m) (suc m) (omega arith) (omega arith) s part.0 h (set_aside h a F part.0 part.1 split part.2) part.3
      (λ y _ _. refl)
    where
      this : While
      this = while_of at test i body close

      part : HasPart i s a
      part = safe.0 this loop_graph.numbered

      here : Statements
      here = statement_first (while at test i body close) rest

      once : (j : ℕ) → suc j ≤ suc m → (t : Store) (c k : Heap) → Splits k c (union part.1 F) → Meaning i t c
          → Keeps body [] s t →
          ((e : ℕ) → e ≤ j → (t' : Store) (c' k' : Heap) → Splits k' c' (union part.1 F) → Meaning i t' c'
          → Keeps body [] s t' → Sound P E e (working proc t' k' here below)) →
          Sound P E (suc j) (working proc t k here below)
      once j v t c k sp met keep more = (
        both.0,
        λ ended. absurd (not_empty (while at test i body close) rest ended.0),
        λ d st. subst (Sound P E j) (sym st.2) (both.1 st.0 st.1),
      )
        where
          back : Splits k (union c part.1) F × Splits (union c part.1) c part.1
          back = taken_back k c part.1 F sp (aside_apart h a F part.0 part.1 split part.2)

          out : Safe P proc (tested test dead_end g) (state t (union c part.1))
          out = safe.1 (state t (union c part.1)) (
            this,
            loop_graph.numbered,
            record {
              replaced = record {
                part = part.0;
                frame = part.1;
                other = c;
                splits = part.2;
                met = part.3;
                joins = back.1;
                meets = met;
              };
              kept = λ y no. keep y no (no_member y);
            },
          )

          kept : Keeps b xs s0 t
          kept y nb nx = keep y (λ q. nb (mine y q)) (no_member y) ∙ keeps y nb nx

          both : (outcome t k test ≡ None → ⊥)
              × ((way : Bool) → outcome t k test ≡ Some way
              → Sound P E j (working proc t k (cond way (joined body here) rest) below))
          both = sound_loop_test P E j proc t c part.1 k F (joined body here) rest below test
              (all_lowered P (suc o) body (ends (loop_end close o))) g sp back.0 back.1
              (loop_graph.safe (state t c) met) out
              (λ body_safe. claim j (omega (arith, v, l)) proc is body [] s (union part.1 F) below here
              (ends (loop_end close o)) (suc o) body
              (λ e le t' c' k' sp' done keep'. more e le t' c' k' sp' (done this loop_graph.numbered) keep')
              (inl none) (record { assigns = λ y q. q; loop_starts = loop_starts; returns = inner }) t c k sp body_safe
              keep)
              (λ rest_safe. go j (omega (arith, v)) t (union c part.1) k back.0 rest_safe kept)

      again : (f j : ℕ) → j ≤ f → j ≤ suc m → (t : Store) (c k : Heap) → Splits k c (union part.1 F) → Meaning i t c
          → Keeps body [] s t → Sound P E j (working proc t k here below)
      again f zero u v t c k sp met keep = tt
      again zero (suc j) u v t c k sp met keep = absurd (omega (arith, u))
      again (suc f) (suc j) u v t c k sp met keep =
          once j v t c k sp met keep
          (λ e le t' c' k' sp' met' keep'. again f e (omega (arith, le, u)) (omega (arith, le, v)) t' c' k' sp' met'
          keep')

module _ (P : Program) (ready : Ready P) (E : Config → Type 0) where
  -- one statement, and then the rest of the block
  by_first : (n : ℕ) → AreSoundUpTo P E n → (m : ℕ) → m ≤ n → (proc : Procedure) → Contains P.procedures proc
      → (b : Statements) (xs : List Name) (s0 : Store) (F : Heap) (below : List Activation) (q : Statements) (g : Graph)
      (o : ℕ) (st : Statement) →
      Goes P E F b xs s0 g proc q below m → ReturnsNot st ⊎ Ending P E F b xs s0 proc below (suc m)
      → ((y : Name) → Assigns st y → SomeAssigns b y) → RoundsSafe P proc o (loops st) → LoopsReturnNot st →
      (s : Store) (a h : Heap) → Splits h a F → Safe P proc (lowered P o st g) (state s a) → Keeps b xs s0 s
      → Sound P E (suc m) (working proc s h (statement_first st q) below)
  by_first n claim m l proc is b xs s0 F below q g o (set x e) go end mine loop_starts returns s a h split safe keeps =
      sound_set P E F b xs s0 g proc q below m s a h x e go split safe (mine x.name refl) keeps
  by_first n claim m l proc is b xs s0 F below q g o (new x) go end mine loop_starts returns s a h split safe keeps =
      sound_new P E F b xs s0 g proc q below m s a h x go split safe (mine x.name refl) keeps
  by_first n claim m l proc is b xs s0 F below q g o (write x e) go end mine loop_starts returns s a h split safe
      keeps =
      sound_write P E F b xs s0 g proc q below m s a h x e go split safe keeps
  by_first n claim m l proc is b xs s0 F below q g o (free x) go end mine loop_starts returns s a h split safe keeps =
      sound_free P E F b xs s0 g proc q below m s a h x go split safe keeps
  by_first n claim m l proc is b xs s0 F below q g o (call ts f es) go end mine loop_starts returns s a h split safe
      keeps =
      sound_call P ready E n claim proc is b xs s0 F below q g m l ts f es go mine s a h split safe keeps
  by_first n claim m l proc is b xs s0 F below q g o (if t r1 c1 r2 c2) go end mine loop_starts returns s a h split safe
      keeps =
      let both =
      sound_test P E m proc s a h F (joined r1 q) (joined r2 q) below t (all_lowered P o r1 g)
      (all_lowered P (o + length (all_loops r1)) r2 g) split safe
      (λ one. claim m l proc is b xs s0 F below q g o r1 go (first_end end)
      (record {
        assigns = λ y i. mine y (inl i);
        loop_starts = first_rounds P proc o (all_loops r1) (all_loops r2) loop_starts;
        returns = returns.0;
      }) s a h
      split one keeps)
      (λ two. claim m l proc is b xs s0 F below q g (o + length (all_loops r1)) r2 go (second_end end)
      (record {
        assigns = λ y i. mine y (inr i);
        loop_starts = last_rounds P proc o (all_loops r1) (all_loops r2) loop_starts;
        returns = returns.1;
      }) s a h
      split two keeps) in (
        both.0,
        λ ended. absurd (not_empty (if t r1 c1 r2 c2) q ended.0),
        λ d st. subst (Sound P E m) (sym st.2) (both.1 st.0 st.1),
      )
    where
      first_end : (AllReturnNot r1 × AllReturnNot r2) ⊎ Ending P E F b xs s0 proc below (suc m)
          → AllReturnNot r1 ⊎ Ending P E F b xs s0 proc below m
      first_end e = elim e [
        | inl none ↦ inl none.0
        | inr some ↦ inr
            (less_ending P E F b xs s0 proc below (suc m) m (omega arith) some)
      ]

      second_end : (AllReturnNot r1 × AllReturnNot r2) ⊎ Ending P E F b xs s0 proc below (suc m)
          → AllReturnNot r2 ⊎ Ending P E F b xs s0 proc below m
      second_end e = elim e [
        | inl none ↦ inl none.1
        | inr some ↦ inr
            (less_ending P E F b xs s0 proc below (suc m) m (omega arith) some)
      ]
  by_first n claim m l proc is b xs s0 F below q g o (while at t i body close) go end mine loop_starts returns s a h
      split safe keeps =
      sound_loop P ready E n claim proc is b xs s0 F below q g m l o at t i body close go
      (first_round P proc o (while_of at t i body close) (all_loops body) loop_starts)
      (later_rounds P proc o (while_of at t i body close) (all_loops body) loop_starts) returns.0 returns.1 mine s a
      h split safe keeps
  by_first n claim m l proc is b xs s0 F below q g o (return at es) go end mine loop_starts returns s a h split safe
      keeps = elim end [
        | inl none ↦ absurd none
        | inr some ↦ sound_give P E F b xs s0 g proc q below m s a h at es some split safe keeps
      ]

  by_rest : (n : ℕ) → AreSoundUpTo P E n → (m : ℕ) → m ≤ suc n → (proc : Procedure) → Contains P.procedures proc
      → (b : Statements) (xs : List Name) (s0 : Store) (F : Heap) (below : List Activation) (q : Statements) (k : Graph)
      (o : ℕ) (r : Statements) →
      Goes P E F b xs s0 k proc q below m → AllReturnNot r ⊎ Ending P E F b xs s0 proc below m → Fits P proc b o r →
      (s : Store) (a h : Heap) → Splits h a F → Safe P proc (all_lowered P o r k) (state s a) → Keeps b xs s0 s
      → Sound P E m (working proc s h (joined r q) below)
  by_rest n claim m l proc is b xs s0 F below q k o no_statements go end fits s a h split safe keeps =
      go m (omega arith) s a h split safe keeps
  by_rest n claim zero l proc is b xs s0 F below q k o (statement_first st r) go end fits s a h split safe keeps = tt
  by_rest n claim (suc m) l proc is b xs s0 F below q k o (statement_first st r) go end fits s a h split safe keeps =
      by_first n claim m (omega (arith, l)) proc is b xs s0 F below (joined r q)
      (all_lowered P (o + length (loops st)) r k) o st
      (λ j lj t c h' sp sf kp. claim j (omega (arith, lj, l)) proc is b xs s0 F below q k (o + length (loops st)) r
      (less_goes P E F b xs s0 k proc q below (suc m) j (omega (arith, lj)) go) (rest_end j lj end)
      (record {
        assigns = λ y i. fits.assigns y (inr i);
        loop_starts = last_rounds P proc o (loops st) (all_loops r) fits.loop_starts;
        returns = fits.returns.1;
      }) t c
      h' sp sf kp)
      (first_end end) (λ y i. fits.assigns y (inl i)) (first_rounds P proc o (loops st) (all_loops r) fits.loop_starts)
      fits.returns.0 s a h split safe keeps
    where
      first_end : (ReturnsNot st × AllReturnNot r) ⊎ Ending P E F b xs s0 proc below (suc m)
          → ReturnsNot st ⊎ Ending P E F b xs s0 proc below (suc m)
      first_end e = elim e [ inl none ↦ inl none.0 | inr some ↦ inr some ]

      rest_end : (j : ℕ) → j ≤ m → (ReturnsNot st × AllReturnNot r) ⊎ Ending P E F b xs s0 proc below (suc m)
          → AllReturnNot r ⊎ Ending P E F b xs s0 proc below j
      rest_end j lj e = elim e [
        | inl none ↦ inl none.1
        | inr some ↦ inr
            (less_ending P E F b xs s0 proc below (suc m) j (omega (arith, lj)) some)
      ]

  pub every : (n : ℕ) → AreSoundUpTo P E n
  every zero zero l proc is b xs s0 F below q k o r go end fits s a h split safe keeps = tt
  every zero (suc m) l proc is b xs s0 F below q k o r go end fits s a h split safe keeps = absurd (omega (arith, l))
  every (suc n) m l proc is b xs s0 F below q k o r go end fits s a h split safe keeps =
      by_rest n (every n) m l proc is b xs s0 F below q k o r go end fits s a h split safe keeps

-- from enough steps to whole runs
sound_run : (P : Program) (proc : Procedure) (frame : Heap) (c : Config) (ds : List Config)
    → Sound P (EndsWell proc frame) (suc (length ds)) c → IsRun P c ds → IsGoodRun proc frame c ds
sound_run P proc frame c [] sound run = record {
  never_faults =
      λ d there fault. elim (member_cases c [] d there)
      [ inl same ↦ sound.0 (subst Fault (sym same) fault) | inr none ↦ absurd (no_member d none) ];
  ends_well = sound.1;
}
sound_run P proc frame c (d ∷ ds) sound run =
    let rest = sound_run P proc frame d ds (sound.2 d run.0) run.1 in record {
      never_faults =
          λ e there fault. elim (member_cases c (d ∷ ds) e there)
          [ inl same ↦ sound.0 (subst Fault (sym same) fault) | inr later ↦ rest.never_faults e later fault ];
      ends_well = rest.ends_well;
    }

pub ready_is_good : (P : Program) → Ready P → IsGood P
ready_is_good P ready proc is s h part frame split met ds run =
    sound_run P proc frame (starting proc s h []) ds
    (subst (λ body. Sound P E n (working proc s h body [])) (nothing_joined (body_statements proc))
    (every P ready E n n (omega arith) proc is (body_statements proc) (results_of proc) s frame [] no_statements
    (ends (return_check proc.close)) 0 (body_statements proc)
    (λ j l t a k sp done keep. finish j l t a k sp done keep)
    (inr (record { results_in = λ y i. i; finish = finish }))
    (record { assigns = λ y i. i; loop_starts = ready.loop_starts proc is; returns = typed.loops_return_not })
    s part h split (ready.bodies proc is (state s part) met) (λ y _ _. refl)))
    run
  where
    E : Config → Type 0
    E = EndsWell proc frame

    n : ℕ
    n = suc (length ds)

    typed : KeepsRules proc
    typed = ready.typed proc is

    finish : (j : ℕ) → j ≤ n → (t : Store) (a k : Heap) → Splits k a frame → MeetsOneOf proc.gives t a
        → Keeps (body_statements proc) (results_of proc) s t → Sound P E j (working proc t k no_statements [])
    finish zero l t a k sp m keep = tt
    finish (suc j) l t a k sp m keep = (λ fault. fault, λ ended. (a, sp, m), λ d step. absurd step)

-- a loop of the procedure is one of its starts
round_there : (o : ℕ) (ls : List While) (j : ℕ) (l : While) → slice_get ls j ≡ Some l
    → Contains (loop_starts o ls) (at_loop (o + j))
round_there o [] j l at = absurd cc
round_there o (m ∷ ls) zero l at = let count : o ≡ o + 0 = omega arith in
    subst (λ k. Contains (loop_starts o (m ∷ ls)) (at_loop k)) count (member_first (at_loop o) (loop_starts (suc o) ls))
round_there o (m ∷ ls) (suc j) l at =
    let count : suc o + j ≡ o + suc j = omega arith in
    subst (λ k. Contains (loop_starts o (m ∷ ls)) (at_loop k)) count
    (member_later (at_loop o) (at_loop (suc o + j)) (loop_starts (suc o) ls) (round_there (suc o) ls j l at))

-- the ways from it are those once around
around_loop : (P : Program) (proc : Procedure) (o : ℕ) (l : While) (x : State) → IsLoopAt proc o l
    → Safe P proc (graph_from P proc (at_loop o)) x → Safe P proc (once_around P o l) x
around_loop P proc o l x at safe = subst (λ f. Safe P proc (loop_graph P o f) x) at safe

-- and what its start meets is its invariant
met_there : (p : Procedure) (o : ℕ) (l : While) (x : State) → IsLoopAt p o l → Meaning l.invariant x.store x.heap
    → Meaning (meets_at p (at_loop o)) x.store x.heap
met_there p o l x at met = subst (λ f. Meaning (invariant_of f) x.store x.heap) (sym at) met

pub composition : Composition
composition P typed pass = ready_is_good P (record { typed = typed; bodies = bodies; loop_starts = around_each })
  where
    bodies : (proc : Procedure) → Contains P.procedures proc → (x : State) → Meaning proc.needs x.store x.heap
        → Safe P proc (graph_from P proc at_entry) x
    bodies proc is x met =
        from_paths P proc (graph_from P proc at_entry) x
        (pass proc is at_entry (member_first at_entry (loop_starts 0 (loops_of proc))) x met)

    at_start : (proc : Procedure) → Contains P.procedures proc → (o : ℕ) (l : While) → IsLoopAt proc o l
        → Contains (loop_starts 0 (loops_of proc)) (at_loop o) → IsRound P proc o l
    at_start proc is o l at there = record {
      numbered = at;
      safe = λ x met. around_loop P proc o l x at
          (from_paths P proc (graph_from P proc (at_loop o)) x
          (pass proc is (at_loop o) (member_later at_entry (at_loop o) (loop_starts 0 (loops_of proc)) there) x
          (met_there proc o l x at met)));
    }

    around_each : (proc : Procedure) → Contains P.procedures proc → RoundsSafe P proc 0 (loops_of proc)
    around_each proc is j l at = let count : j ≡ 0 + j = omega arith in
        at_start proc is (0 + j) l (subst (λ k. IsLoopAt proc k l) count at) (round_there 0 (loops_of proc) j l at)
