-- A condition is encoded step by step.
use Rattle.std.specs.Prelude.{◌≡◌, ℕ, ◌+◌, ◌<◌, List, [], ◌∷◌, ◌++◌, length, get_or, drop, map, filter, Option, Some}
use Rattle.std.specs.Prelude.{None, unwrap_or, slice_get}
use Rattle.std.proofs.Common.{refl, sym, ◌∙◌, ap, subst}
use Rattle.std.proofs.lemmas.List.{append_assoc, append-nil, map-append}
use Rattle.gh_ast.specs.Plain.{Procedure, Program}
use Rattle.gh_ast.specs.Programs.{Name, variable_names}
use Rattle.gh_path.specs.Graphs.{PathStep, access_step, assume_step, set_step, new_step, write_step, free_step}
use Rattle.gh_path.specs.Graphs.{call_step, while_step, return_step, Check, While, loops_of, meets_at}
use Rattle.gh_path.specs.Kept.{step_of}
use Rattle.gh_path.specs.Conditions.{Condition}
use Rattle.gh_path.specs.declared.condition.PathStep as kept_step
use Rattle.gh_path.specs.Terms.{Bindings, Terms, moved_on, renewed, some_assigns, loop_walked, invariant_walked}
use Rattle.gh_path.specs.Terms.{step_walked, steps_walked, check_walked, way_walked, no_terms, terms_of, versions_of}
use Rattle.gh_grass.specs.declared.binding.Bond.{Bond}
use Rattle.gh_symb.specs.Symbolic as plain
use Rattle.gh_symb.specs.Symbolic.{under, loop_parts, term_step, term_steps, term_check, step_used, check_used}
use Rattle.gh_symb.specs.Symbolic.{used_first, first_use, either_term, state_bindings, begins}
use Rattle.gh_symb.specs.Encodings.{Each}
use Rattle.gh_symb.specs.Fitting.{EncodesBinding, EncodesUnder, EncodesStep, EncodesCheck}
use Rattle.gh_symb.specs.Walked.{IsWalked}
use Rattle.gh_symb.specs.Phases.{under_bindings, loop_done, loop_encoding, step_done, step_encoding, learned, both}
use Rattle.gh_symb.specs.Steps.{EndsWith, IsCount}
use Rattle.gh_symb.specs.Following.{met, known, first_uses, IsFollowed, Followed}
use Rattle.gh_symb.specs.Contexts.{program_in, procedure_in}
use Rattle.gh_symb.specs.Tables.{bound_by}
use Rattle.gh_symb.specs.Walkers.{terms_at, UsesStep, DoesStep, ReadsStep}
use Rattle.gh_symb.specs.Passing.{HasPassed, MeetsState, PassesStep}
use Rattle.gh_symb.specs.declared.over_terms.TermStep.{TermStep}
use Rattle.gh_symb.specs.declared.context.Context.{Context}
use Rattle.gh_symb.specs.declared.passed.PathSoFar.{PathSoFar}
use Rattle.gh_symb.specs.declared.walker.Walker.{Walker}
use Rattle.gh_symb.specs.declared.symbolic.Walked.{Walked}
use Rattle.gh_symb.proofs.LackLemmas.{step_lacks, use_lacks}
use Rattle.gh_symb.proofs.TableLemmas.{head_of}

pub each_more : {A B : Type 0} (R : A → B → Type 0) (as' : List A) (bs : List B) (a : A) (b : B) → Each R as' bs → R a b
    → Each R (as' ++ a ∷ []) (bs ++ b ∷ [])
each_more R [] [] a b all one = (one, tt)
each_more R [] (y ∷ bs) a b all one = absurd all
each_more R (x ∷ as') [] a b all one = absurd all
each_more R (x ∷ as') (y ∷ bs) a b all one = (all.0, each_more R as' bs a b all.1 one)

loop_done_walked : (o : Option While) (xs : List Name) (s : Terms)
    → loop_done o xs (invariant_walked o s) ≡ loop_walked o xs s
loop_done_walked None xs s = refl
loop_done_walked (Some l) xs s = refl

-- a step is its uses, and then the rest
pub done_walked : (P : Program) (proc : Procedure) (x : PathStep) (s : Terms)
    → step_done P proc x (step_used proc x s) ≡ step_walked P proc x s
done_walked P proc (access_step o) s = refl
done_walked P proc (assume_step l e r) s = refl
done_walked P proc (set_step x e) s = refl
done_walked P proc (new_step x) s = refl
done_walked P proc (write_step x e) s = refl
done_walked P proc (free_step x) s = refl
done_walked P proc (call_step ys n es) s = refl
done_walked P proc (while_step n) s = loop_done_walked (slice_get (loops_of proc) n) (variable_names proc) s
done_walked P proc (return_step es) s = refl

loop_encoding_is : (o : Option While) (xs : List Name) (s t : Terms) → t ≡ invariant_walked o s → t.version ≡ s.version
    → loop_encoding o xs t ≡ loop_parts o xs s
loop_encoding_is None xs s t e v = refl
loop_encoding_is (Some l) xs s t e v =
    ap (λ i. plain.part_step (under_bindings l.invariant t.bindings i)
    (under l.invariant (renewed (filter (some_assigns l.body) xs) (moved_on t)) ∷ [])) v
    ∙ ap (λ (q : Terms). plain.part_step (under_bindings l.invariant q.bindings s.version)
    (under l.invariant (renewed (filter (some_assigns l.body) xs) (moved_on q)) ∷ [])) e

pub encoding_is : (P : Program) (proc : Procedure) (x : PathStep) (s t : Terms) → t ≡ step_used proc x s
    → t.version ≡ s.version → step_encoding P proc x t ≡ term_step P proc x s
encoding_is P proc (access_step o) s t e v = ap (step_encoding P proc (access_step o)) e
encoding_is P proc (assume_step l i r) s t e v = ap (step_encoding P proc (assume_step l i r)) e
encoding_is P proc (set_step x i) s t e v = refl
encoding_is P proc (new_step x) s t e v = ap (step_encoding P proc (new_step x)) e
encoding_is P proc (write_step x i) s t e v = ap (step_encoding P proc (write_step x i)) e
encoding_is P proc (free_step x) s t e v = ap (step_encoding P proc (free_step x)) e
encoding_is P proc (call_step ys n es) s t e v = ap (step_encoding P proc (call_step ys n es)) e
encoding_is P proc (while_step n) s t e v = loop_encoding_is (slice_get (loops_of proc) n) (variable_names proc) s t e v
encoding_is P proc (return_step es) s t e v = refl

-- what is known after a step is what was known before: `a` before it, `b` once it has used its variables, `c` after it
turn : (a b c f later : Option ℕ) → (c ≡ None → b ≡ None) → (b ≡ None → a ≡ None) → (a ≡ None → f ≡ None)
    → known c (learned a b f) later ≡ known a f (used_first b c later)
turn (Some i) (Some j) (Some k) f later one two three = refl
turn None (Some j) (Some k) f later one two three = refl
turn None None (Some k) f later one two three = three refl
turn None None None f later one two three = refl
turn (Some i) None c f later one two three = let no : Some i ≡ None = two refl in absurd cc
turn a (Some j) None f later one two three = let no : Some j ≡ None = one refl in absurd cc

last_turn : (a b f : Option ℕ) → (a ≡ None → f ≡ None) → learned a b f ≡ known a f b
last_turn (Some i) b f lack = refl
last_turn None (Some j) f lack = refl
last_turn None None f lack = lack refl

none_learned : (a b f : Option ℕ) → a ≡ None → b ≡ None → f ≡ None → learned a b f ≡ None
none_learned a b f one two three = rw (one, two) three

pub begun : (P : Program) (proc : Procedure) (c : Condition) (s : Terms) (firsts : Bindings) → s ≡ begins proc c.start
    → ((y : Name) → firsts y ≡ None) →
    IsFollowed P proc c.way.steps c s firsts [] []
begun P proc c s firsts same none = record {
  lead = ap (steps_walked P proc c.way.steps) same;
  plain_steps = [];
  are_encodings = tt;
  all_steps = ap (term_steps P proc c.way.steps) same;
  meet = ap (met P proc c.way.steps) same;
  lack = λ y lacks. none y;
  first = λ y.
      ap (λ f. known (s.bindings y) f (first_use P proc c.way.steps c.way.check s y)) (none y)
      ∙ ap (λ (q : Terms). known (q.bindings y) None (first_use P proc c.way.steps c.way.check q y)) same;
}

-- a step is walked: from s it uses its variables, which leads to t, and then leads to u
pub gone_on : (P : Program) (proc : Procedure) (x : PathStep) (xs : List PathStep) (c : Condition) (s t u : Terms)
    (firsts learns : Bindings) (states : List Bindings) (encoded : List TermStep) (one : TermStep) →
    IsFollowed P proc (x ∷ xs) c s firsts states encoded → t ≡ step_used proc x s → t.version ≡ s.version
    → u ≡ step_done P proc x t → EncodesStep one (step_encoding P proc x t) →
    ((y : Name) → learns y ≡ learned (s.bindings y) (t.bindings y) (firsts y))
    → IsFollowed P proc xs c u learns (states ++ s.bindings ∷ []) (encoded ++ one ∷ [])
gone_on P proc x xs c s t u firsts learns states encoded one left uses version does encodes learn =
    let walks : u ≡ step_walked P proc x s = does ∙ ap (step_done P proc x) uses ∙ done_walked P proc x s in
    let same_step : step_encoding P proc x t ≡ term_step P proc x s = encoding_is P proc x s t uses version in
    let after : (y : Name) → u.bindings y ≡ None → t.bindings y ≡ None =
    λ y none. ap (λ (q : Terms). q.bindings y) uses
    ∙ step_lacks P proc x s y (ap (λ (q : Terms). q.bindings y) (sym walks) ∙ none) in
    let before : (y : Name) → t.bindings y ≡ None → s.bindings y ≡ None =
    λ y none. use_lacks proc x s y (ap (λ (q : Terms). q.bindings y) (sym uses) ∙ none) in
    record {
      lead = ap (steps_walked P proc xs) walks ∙ left.lead;
      plain_steps = left.plain_steps ++ term_step P proc x s ∷ [];
      are_encodings =
          each_more EncodesStep encoded left.plain_steps one (term_step P proc x s) left.are_encodings
          (subst (EncodesStep one) same_step encodes);
      all_steps = append_assoc left.plain_steps (term_step P proc x s ∷ []) (term_steps P proc xs u)
          ∙ ap (λ q. left.plain_steps ++ term_step P proc x s ∷ term_steps P proc xs q) walks ∙ left.all_steps;
      meet = append_assoc states (s.bindings ∷ []) (met P proc xs u)
          ∙ ap (λ q. states ++ s.bindings ∷ met P proc xs q) walks ∙ left.meet;
      lack = λ y none.
          let mid = after y none in
          learn y ∙ none_learned (s.bindings y) (t.bindings y) (firsts y) (before y mid) mid
          (left.lack y (before y mid));
      first = λ y.
          ap (λ f. known (u.bindings y) f (first_use P proc xs c.way.check u y)) (learn y)
          ∙ turn (s.bindings y) (t.bindings y) (u.bindings y) (firsts y) (first_use P proc xs c.way.check u y) (after y)
          (before y) (left.lack y)
          ∙ ap (λ (q : Terms). known (s.bindings y) (firsts y)
          (used_first (q.bindings y) (u.bindings y) (first_use P proc xs c.way.check u y))) uses
          ∙ ap (λ (q : Terms). known (s.bindings y) (firsts y)
          (used_first ((step_used proc x s).bindings y) (q.bindings y) (first_use P proc xs c.way.check q y))) walks
          ∙ left.first y;
    }

-- where no step is left, the check's uses are learned
pub ended : (P : Program) (proc : Procedure) (c : Condition) (s : Terms) (b firsts learns : Bindings)
    (states : List Bindings) (encoded : List TermStep) →
    IsFollowed P proc [] c s firsts states encoded → b ≡ (check_used proc c.way.check s).bindings
    → ((y : Name) → learns y ≡ learned (s.bindings y) (b y) (firsts y)) →
    Followed P proc c s learns (states ++ s.bindings ∷ []) encoded
ended P proc c s b firsts learns states encoded left used learn = record {
  last = left.lead;
  are_encodings =
      subst (Each EncodesStep encoded) (sym (append-nil left.plain_steps) ∙ left.all_steps) left.are_encodings;
  meet = left.meet;
  first = λ y.
      learn y ∙ last_turn (s.bindings y) (b y) (firsts y) (left.lack y)
      ∙ ap (λ (q : Bindings). known (s.bindings y) (firsts y) (q y)) used ∙ left.first y;
}

-- a variable has its first use's term where it had none before
same_either : (o u v : Option ℕ) → (o ≡ None → u ≡ v) → either_term o v ≡ either_term o u
same_either (Some t) u v same = refl
same_either None u v same = sym (same refl)

small_too : {o u : Option ℕ} → o ≡ u → unwrap_or u 0 < 256 → unwrap_or o 0 < 256
small_too e fits = subst (λ (q : Option ℕ). unwrap_or q 0 < 256) (sym e) fits

passed : (a b later : Option ℕ) → a ≡ None → b ≡ None → later ≡ used_first a b later
passed a b later one two = rw (one, two) refl

all_encoded : (P : Program) (proc : Procedure) (k : Check) (xs : List PathStep) (s : Terms) (firsts : Bindings)
    (bs : List (List Bond)) →
    ((y : Name) → s.bindings y ≡ None → first_use P proc xs k s y ≡ firsts y)
    → Each EncodesBinding bs (map (λ b. both b firsts) (met P proc xs s))
    → Each EncodesBinding bs (state_bindings P proc xs k s)
all_encoded P proc k [] s firsts [] same all = absurd all
all_encoded P proc k [] s firsts (b ∷ bs) same all = (
  λ y fits. let e = same_either (s.bindings y) (first_use P proc [] k s y) (firsts y) (same y) in
      all.0 y (small_too e fits) ∙ e,
  all.1,
)
all_encoded P proc k (x ∷ xs) s firsts [] same all = absurd all
all_encoded P proc k (x ∷ xs) s firsts (b ∷ bs) same all = (
  λ y fits. let e = same_either (s.bindings y) (first_use P proc (x ∷ xs) k s y) (firsts y) (same y) in
      all.0 y (small_too e fits) ∙ e,
  all_encoded P proc k xs (step_walked P proc x s) firsts bs later all.1,
)
  where
    later : (y : Name) → (step_walked P proc x s).bindings y ≡ None
        → first_use P proc xs k (step_walked P proc x s) y ≡ firsts y
    later y none =
        let mid : (step_used proc x s).bindings y ≡ None = step_lacks P proc x s y none in
        passed ((step_used proc x s).bindings y) ((step_walked P proc x s).bindings y)
        (first_use P proc xs k (step_walked P proc x s) y) mid none ∙ same y (use_lacks proc x s y mid)

-- the bindings at the states, once the first uses are known
pub bindings_encoded : (P : Program) (proc : Procedure) (c : Condition) (firsts : Bindings) (bs : List (List Bond)) →
    ((y : Name) → firsts y ≡ first_uses P proc c y)
    → Each EncodesBinding bs (map (λ b. both b firsts) (met P proc c.way.steps (begins proc c.start))) →
    Each EncodesBinding bs (state_bindings P proc c.way.steps c.way.check (begins proc c.start))
bindings_encoded P proc c firsts bs first all =
    all_encoded P proc c.way.check c.way.steps (begins proc c.start) firsts bs at_start all
  where
    at_start : (y : Name) → (begins proc c.start).bindings y ≡ None
        → first_use P proc c.way.steps c.way.check (begins proc c.start) y ≡ firsts y
    at_start y none = sym (first y
        ∙ ap (λ o. known o None (first_use P proc c.way.steps c.way.check (begins proc c.start) y)) none)

-- a step is walked where it is the next one: what was met before it and what it uses are kept
pub step_passed : (set : Context) (r : kept_step.PathStep) (u v w : Walker) (k l m : PathSoFar) (one : TermStep)
    → UsesStep set r u v → v.version ≡ u.version → MeetsState u.scope v.scope k l →
    DoesStep set r v w → ReadsStep set r v one → m.start ≡ l.start → m.firsts ≡ l.firsts
    → m.states.items ≡ l.states.items → m.steps.items ≡ l.steps.items ++ one ∷ [] → PassesStep set r u k w m
step_passed set r u v w k l m one uses version met does reads same_start same_firsts same_states more = λ xs c left.
    let P = program_in set in
    let proc = procedure_in set in
    let s = terms_at u in
    let t = terms_at v in
    let learn : (y : Name) → bound_by m.firsts y ≡ learned (s.bindings y) (t.bindings y) (bound_by k.firsts y) =
    λ y. ap (λ es. bound_by es y) same_firsts ∙ met.learns y in
    let meets : map bound_by m.states.items ≡ map bound_by k.states.items ++ s.bindings ∷ [] =
    ap (map bound_by) (same_states ∙ met.states) ∙ map-append bound_by k.states.items (u.scope ∷ []) in
    let later : m.steps.items ≡ k.steps.items ++ one ∷ [] = more ∙ ap (λ es. es ++ one ∷ []) met.steps in
    let on : IsFollowed P proc xs c (terms_at w) (bound_by m.firsts) (map bound_by k.states.items ++ s.bindings ∷ [])
    (k.steps.items ++ one ∷ []) =
    gone_on P proc (step_of r) xs c s t (terms_at w) (bound_by k.firsts) (bound_by m.firsts)
    (map bound_by k.states.items) k.steps.items one left.rest uses version does reads learn in
    record {
      start =
          subst (λ b. EncodesUnder b (under (meets_at proc c.start) no_terms)) (sym (same_start ∙ met.start))
          left.start;
      rest =
          subst (λ ss. IsFollowed P proc xs c (terms_at w) (bound_by m.firsts) ss m.steps.items) (sym meets)
          (subst (λ ts. IsFollowed P proc xs c (terms_at w) (bound_by m.firsts)
          (map bound_by k.states.items ++ s.bindings ∷ []) ts) (sym later) on);
    }

-- the next of some steps is passed
pub next_passed : (set : Context) (rs : List kept_step.PathStep) (i : ℕ) (r : kept_step.PathStep) (c : Condition)
    (u w : Walker) (k m : PathSoFar) → i < length rs → r ≡ get_or rs i r →
    HasPassed set (map step_of (drop i rs)) c u k → PassesStep set r u k w m
    → HasPassed set (map step_of (drop (i + 1) rs)) c w m
next_passed set rs i r c u w k m within is left passes =
    passes (map step_of (drop (i + 1) rs)) c
    (subst (λ xs. HasPassed set (map step_of xs) c u k) (head_of rs i r within is) left)

-- a walk to the end of a condition
pub is_walked : (P : Program) (proc : Procedure) (c : Condition) (s : Terms) (firsts : Bindings)
    (states : List Bindings) (w : Walked) →
    Followed P proc c s firsts states w.steps.items → EndsWith (check_walked P proc c.way.check s) w.kinds w.version
    → EncodesCheck w.check (term_check P proc c.way.check s) →
    EncodesUnder w.start (under (meets_at proc c.start) no_terms)
    → Each EncodesBinding w.bindings.items (map (λ b. both b firsts) states) →
    (length (terms_of P proc c.start c.way) ≡ length w.kinds → versions_of P proc c.start c.way ≡ w.version + 1
    → IsCount P proc c w.counts) → IsWalked P proc c w
is_walked P proc c s firsts states w f ends asks starts binds counts =
    let whole : EndsWith (way_walked P proc c.start c.way) w.kinds w.version =
    subst (λ q. EndsWith (check_walked P proc c.way.check q) w.kinds w.version) f.last ends in
    record {
      kinds_are = whole.kinds_are;
      versions_are = ap (λ v. v + 1) whole.version_is;
      counts_are = counts (ap length (sym whole.kinds_are)) (ap (λ v. v + 1) (sym whole.version_is));
      start_is = starts;
      steps_are = f.are_encodings;
      check_is = subst (λ q. EncodesCheck w.check (term_check P proc c.way.check q)) f.last asks;
      bindings_are = bindings_encoded P proc c firsts w.bindings.items f.first
          (subst (λ ms. Each EncodesBinding w.bindings.items (map (λ b. both b firsts) ms)) f.meet binds);
    }
