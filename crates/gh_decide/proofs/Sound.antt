-- What a number of steps cannot spoil, and each statement without blocks and calls.
use Rattle.std.specs.Prelude.{◌≡◌, ◌⊎◌, ℕ, zero, suc, ◌≤◌, List, [], ◌∷◌, Bool, true, false, cond, Some, None, Contains}
use Rattle.std.specs.FinMap.{get, insert, remove}
use Rattle.std.proofs.Common.{refl, sym, ◌∙◌, ap, subst, inl, inr, arith}
use Rattle.gh_base.specs.declared.place.Span.{Span}
use Rattle.gh_ast.specs.declared.Occ.{Occ}
use Rattle.gh_ast.specs.declared.Expr.{Expr}
use Rattle.gh_ast.specs.Plain.{Cond, Statement, set, new, write, free, return, Statements, no_statements}
use Rattle.gh_ast.specs.Plain.{statement_first, Procedure, Program}
use Rattle.gh_assert.specs.Heaps.{Heap, Splits}
use Rattle.gh_assert.specs.Meaning.{Store, MeetsOneOf}
use Rattle.gh_assert.proofs.Unions.{union}
use Rattle.gh_assert.specs.Values.{result, Give, outcome, Gets}
use Rattle.gh_ast.specs.Programs.{Name, results_of, SomeAssigns}
use Rattle.gh_machine.specs.Machine.{Activation, Config, Step, Fault, HasEnded}
use Rattle.gh_path.specs.Graphs.{Graph, dead_end, ends, moves, return_check, visits, reads, all_reads, tested, set_step}
use Rattle.gh_path.specs.Graphs.{new_step, write_step, free_step, return_step}
use Rattle.gh_trace.specs.Traces.{State}
use Rattle.gh_decide.specs.Safe.{Safe}
use Rattle.gh_ast.proofs.Lists.{only_member, same_values, one_value, not_both}
use Rattle.gh_decide.proofs.Tests.{after_visit, after_read, after_reads, lead}
use Rattle.gh_assert.proofs.Given.{not_given}
use Rattle.gh_assert.proofs.Frames.{in_whole, not_in_frame, in_neither, put_beside, remove_beside, reads_whole}
use Rattle.gh_assert.proofs.Frames.{gives_whole, outcome_whole}

-- in n configurations from c on there is no fault, and what has ended has ended as E says
abbrev pub Sound : Program → (Config → Type 0) → ℕ → Config → Type 0
Sound P E zero c = Unit {0}
Sound P E (suc n) c = (Fault c → ⊥) × (HasEnded c → E c) × ((d : Config) → Step P c d → Sound P E n d)

abbrev pub working : Procedure → Store → Heap → Statements → List Activation → Config
working p s h rest below = record { heap = h; top = record { procedure = p; store = s; rest = rest }; below = below }

abbrev pub state : Store → Heap → State
state s h = record { store = s; heap = h }

-- from s to t only variables changed that the block assigns or the list has
abbrev pub Keeps : Statements → List Name → Store → Store → Type 0
Keeps b xs s t = (y : Name) → (SomeAssigns b y → ⊥) → (Contains xs y → ⊥) → t y ≡ s y

-- wherever the graph g is safe in a heap beside the frame, the rest is sound for up to n steps
abbrev pub Goes : Program → (Config → Type 0) → Heap → Statements → List Name → Store → Graph → Procedure → Statements
    → List Activation → ℕ → Type 0
Goes P E F b xs s0 g proc rest below n =
    (j : ℕ) → j ≤ n → (t : Store) (a h : Heap) → Splits h a F → Safe P proc g (state t a) → Keeps b xs s0 t
    → Sound P E j (working proc t h rest below)

-- where a procedure may return: its end is sound
pub record Ending (P : Program) (E : Config → Type 0) (F : Heap) (b : Statements) (xs : List Name) (s0 : Store)
    (proc : Procedure) (below : List Activation) (n : ℕ) : Type 0 where
  pub results_in : (y : Name) → Contains (results_of proc) y → Contains xs y
  pub finish : (j : ℕ) → j ≤ n → (t : Store) (a h : Heap) → Splits h a F → MeetsOneOf proc.gives t a → Keeps b xs s0 t
      → Sound P E j (working proc t h no_statements below)

pub keeps_on : (b : Statements) (xs : List Name) (s0 s : Store) (ys : List Name) (vs : List ℕ) (t : Store)
    → Keeps b xs s0 s → Gets s ys vs t → ((y : Name) → Contains ys y → SomeAssigns b y ⊎ Contains xs y)
    → Keeps b xs s0 t
keeps_on b xs s0 s ys vs t keeps gets in_either y nb nx =
    gets.kept y (λ c. elim (in_either y c) [ inl l ↦ nb l | inr r ↦ nx r ]) ∙ keeps y nb nx

pub not_empty : (s : Statement) (ss : Statements) → statement_first s ss ≡ no_statements → ⊥
not_empty s ss e = absurd cc

module _ (P : Program) (E : Config → Type 0) (F : Heap) (b : Statements) (xs : List Name) (s0 : Store) (g : Graph)
    (proc : Procedure) (rest : Statements) (below : List Activation) (n : ℕ) (s : Store) (a h : Heap) where
  pub sound_set : (x : Occ) (e : Expr) → Goes P E F b xs s0 g proc rest below n → Splits h a F
      → Safe P proc (reads e (moves (set_step x e) g)) (state s a) → SomeAssigns b x.name → Keeps b xs s0 s
      → Sound P E (suc n) (working proc s h (statement_first (set x e) rest) below)
  sound_set x e go split safe mine keeps =
      let r = after_read P proc e (moves (set_step x e) g) (state s a) safe in
      let up : result s h e ≡ Some r.0 = reads_whole s h a F split e r.0 r.1 in (
        λ none. not_both (result s h e) r.0 up none,
        λ ended. absurd (not_empty (set x e) rest ended.0),
        λ d st.
            let same : st.0 ≡ r.0 = one_value (result s h e) st.0 r.0 st.2 up in
            let gets : Gets s (x.name ∷ []) (r.0 ∷ []) st.1 =
            subst (λ v. Gets s (x.name ∷ []) (v ∷ []) st.1) same st.3 in
            subst (Sound P E n) (sym st.4)
            (go n (omega arith) st.1 a h split (r.2 (state st.1 a) (r.0, r.1, gets, refl))
            (keeps_on b xs s0 s (x.name ∷ []) (r.0 ∷ []) st.1 keeps gets
            (λ y c. inl (subst (SomeAssigns b) (sym (only_member x.name y c)) mine)))),
      )

  pub sound_new : (x : Occ) → Goes P E F b xs s0 g proc rest below n → Splits h a F
      → Safe P proc (moves (new_step x) g) (state s a) → SomeAssigns b x.name → Keeps b xs s0 s
      → Sound P E (suc n) (working proc s h (statement_first (new x) rest) below)
  sound_new x go split safe mine keeps = (
    λ none. none,
    λ ended. absurd (not_empty (new x) rest ended.0),
    λ d st.
        let out = in_neither h a F split st.0 st.4 in
        subst (Sound P E n) (sym st.6)
        (go n (omega arith) st.2 (insert a st.0 st.1) (insert h st.0 st.1) (put_beside h a F st.0 st.1 split out.1)
        (safe (state st.2 (insert a st.0 st.1)) (st.0, st.1, st.3, out.0, st.5, refl))
        (keeps_on b xs s0 s (x.name ∷ []) (st.0 ∷ []) st.2 keeps st.5
        (λ y c. inl (subst (SomeAssigns b) (sym (only_member x.name y c)) mine)))),
  )

  pub sound_write : (x : Occ) (e : Expr) → Goes P E F b xs s0 g proc rest below n → Splits h a F
      → Safe P proc (reads e (visits x (moves (write_step x e) g))) (state s a) → Keeps b xs s0 s
      → Sound P E (suc n) (working proc s h (statement_first (write x e) rest) below)
  sound_write x e go split safe keeps =
      let r = after_read P proc e (visits x (moves (write_step x e) g)) (state s a) safe in
      let w = after_visit P proc x (moves (write_step x e) g) (state s a) r.2 in
      let up : result s h e ≡ Some r.0 = reads_whole s h a F split e r.0 r.1 in (
        λ f. elim f [
          | inl none ↦ not_both (result s h e) r.0 up none
          | inr none ↦ not_both (get h (s x.name)) w.0.0
              (in_whole h a F split (s x.name) w.0.0 w.0.1) none
        ],
        λ ended. absurd (not_empty (write x e) rest ended.0),
        λ d st.
            let same : r.0 ≡ st.0 = one_value (result s h e) r.0 st.0 up st.1 in
            subst (Sound P E n) (sym st.3)
            (go n (omega arith) s (insert a (s x.name) st.0) (insert h (s x.name) st.0)
            (put_beside h a F (s x.name) st.0 split (not_in_frame h a F split (s x.name) w.0))
            (w.1 (state s (insert a (s x.name) st.0)) (st.0, r.1 ∙ ap Some same, w.0, refl)) keeps),
      )

  pub sound_free : (x : Occ) → Goes P E F b xs s0 g proc rest below n → Splits h a F
      → Safe P proc (visits x (moves (free_step x) g)) (state s a) → Keeps b xs s0 s
      → Sound P E (suc n) (working proc s h (statement_first (free x) rest) below)
  sound_free x go split safe keeps =
      let w = after_visit P proc x (moves (free_step x) g) (state s a) safe in (
        λ none. not_both (get h (s x.name)) w.0.0 (in_whole h a F split (s x.name) w.0.0 w.0.1) none,
        λ ended. absurd (not_empty (free x) rest ended.0),
        λ d st.
            subst (Sound P E n) (sym st.1)
            (go n (omega arith) s (remove a (s x.name)) (remove h (s x.name))
            (remove_beside h a F (s x.name) split (not_in_frame h a F split (s x.name) w.0))
            (w.1 (state s (remove a (s x.name))) (w.0, refl)) keeps),
      )

  pub sound_give : (at : Span) (es : List Expr) → Ending P E F b xs s0 proc below (suc n) → Splits h a F
      → Safe P proc (all_reads es (moves (return_step es) (ends (return_check at)))) (state s a) → Keeps b xs s0 s
      → Sound P E (suc n) (working proc s h (statement_first (return at es) rest) below)
  sound_give at es end split safe keeps =
      let r = after_reads P proc es (moves (return_step es) (ends (return_check at))) (state s a) safe in
      let up : Give s h es r.0 = gives_whole s h a F split es r.0 r.1 in (
        λ f. not_given s h es r.0 f up,
        λ ended. absurd (not_empty (return at es) rest ended.0),
        λ d st.
            let same : st.0 ≡ r.0 = same_values st.0 r.0 (sym st.2 ∙ up) in
            let gets : Gets s (results_of proc) r.0 st.1 = subst (λ vs. Gets s (results_of proc) vs st.1) same st.3 in
            let met : MeetsOneOf proc.gives st.1 a = (r.2 (state st.1 a) (r.0, r.1, gets, refl)) in
            let kept : Keeps b xs s0 st.1 =
            keeps_on b xs s0 s (results_of proc) r.0 st.1 keeps gets (λ y c. inr (end.results_in y c)) in
            elim st.4 [
              | inl (alone, to) ↦ subst (Sound P E n) (sym to) (end.finish n (omega arith) st.1 a h split met kept)
              | inr pops ↦ (end.finish (suc n) (omega arith) st.1 a h split met kept).2 d pops
            ],
      )

-- a test goes one of two ways, each sound
either_sound : (P : Program) (E : Config → Type 0) (n : ℕ) (proc : Procedure) (s : Store) (h : Heap)
    (r1 r2 : Statements) (below : List Activation) (g1 g2 : Graph) (x : State) (way : Bool)
    → Safe P proc (cond way g1 g2) x → (Safe P proc g1 x → Sound P E n (working proc s h r1 below))
    → (Safe P proc g2 x → Sound P E n (working proc s h r2 below))
    → Sound P E n (working proc s h (cond way r1 r2) below)
either_sound P E n proc s h r1 r2 below g1 g2 x true safe when_true when_false = when_true safe
either_sound P E n proc s h r1 r2 below g1 g2 x false safe when_true when_false = when_false safe

pub sound_test : (P : Program) (E : Config → Type 0) (n : ℕ) (proc : Procedure) (s : Store) (a h F : Heap)
    (r1 r2 : Statements) (below : List Activation) (t : Cond) (g1 g2 : Graph) → Splits h a F
    → Safe P proc (tested t g1 g2) (state s a) →
    (Safe P proc g1 (state s a) → Sound P E n (working proc s h r1 below))
    → (Safe P proc g2 (state s a) → Sound P E n (working proc s h r2 below)) →
    (outcome s h t ≡ None → ⊥)
    × ((way : Bool) → outcome s h t ≡ Some way → Sound P E n (working proc s h (cond way r1 r2) below))
sound_test P E n proc s a h F r1 r2 below t g1 g2 split safe when_true when_false =
    let w = lead P proc t g1 g2 (state s a) safe in
    let up : outcome s h t ≡ Some w.0 = outcome_whole s h a F split t w.0 w.1 in (
      λ none. not_both (outcome s h t) w.0 up none,
      λ way e. let same : w.0 ≡ way = one_value (outcome s h t) w.0 way up e in
          subst (λ v. Sound P E n (working proc s h (cond v r1 r2) below)) same
          (either_sound P E n proc s h r1 r2 below g1 g2 (state s a) w.0 w.2 when_true when_false),
    )

-- the test of a loop: true, it leads on in the loop's part; false, in that part with what was set aside
pub sound_loop_test : (P : Program) (E : Config → Type 0) (n : ℕ) (proc : Procedure) (s : Store) (c d h F : Heap)
    (r1 r2 : Statements) (below : List Activation) (t : Cond) (g1 g2 : Graph) →
    Splits h c (union d F) → Splits h (union c d) F → Splits (union c d) c d
    → Safe P proc (tested t g1 dead_end) (state s c) → Safe P proc (tested t dead_end g2) (state s (union c d)) →
    (Safe P proc g1 (state s c) → Sound P E n (working proc s h r1 below))
    → (Safe P proc g2 (state s (union c d)) → Sound P E n (working proc s h r2 below)) →
    (outcome s h t ≡ None → ⊥)
    × ((way : Bool) → outcome s h t ≡ Some way → Sound P E n (working proc s h (cond way r1 r2) below))
sound_loop_test P E n proc s c d h F r1 r2 below t g1 g2 small large inner safe out when_true when_false =
    let w = lead P proc t g1 dead_end (state s c) safe in
    let v = lead P proc t dead_end g2 (state s (union c d)) out in
    let up : outcome s h t ≡ Some w.0 = outcome_whole s h c (union d F) small t w.0 w.1 in
    let across : outcome s (union c d) t ≡ Some w.0 = outcome_whole s (union c d) c d inner t w.0 w.1 in
    let one : v.0 ≡ w.0 = one_value (outcome s (union c d) t) v.0 w.0 v.1 across in (
      λ none. not_both (outcome s h t) w.0 up none,
      λ way e. let same : w.0 ≡ way = one_value (outcome s h t) w.0 way up e in
          subst (λ b. Sound P E n (working proc s h (cond b r1 r2) below)) same
          (ways w.0 w.2 (subst (λ b. Safe P proc (cond b dead_end g2) (state s (union c d))) one v.2)),
    )
  where
    ways : (b : Bool) → Safe P proc (cond b g1 dead_end) (state s c)
        → Safe P proc (cond b dead_end g2) (state s (union c d)) → Sound P E n (working proc s h (cond b r1 r2) below)
    ways true x y = when_true x
    ways false x y = when_false y
