-- The states of a structure over a condition's terms are those of its interpretation.
use Rattle.std.specs.Prelude.{◌≡◌, ℕ, ◌+◌, ◌<◌, List, [], ◌∷◌, length, map, Option, Some, None, unwrap_or, true, cond}
use Rattle.std.specs.Prelude.{slice_get, Contains}
use Rattle.std.specs.Option.{option_map}
use Rattle.std.specs.Str.{bytes_eq}
use Rattle.std.proofs.Common.{refl, sym, ◌∙◌, ap, subst, inl, inr, arith}
use Rattle.std.proofs.lemmas.Bool.{cases_Bool, false≢true}
use Rattle.std.proofs.lemmas.List.{length-map}
use Rattle.std.proofs.lemmas.Slice.Eq.{bytes_eq-Decides}
use Rattle.gh_base.specs.declared.atom.Term.{Term}
use Rattle.gh_base.specs.declared.sizes.Sizes.{Sizes}
use Rattle.gh_base.specs.Meaning.{Interpretation}
use Rattle.gh_base.specs.Structures.{Tables, interpretation_of}
use Rattle.gh_ast.specs.Plain.{Procedure, Program}
use Rattle.gh_ast.specs.Programs.{Name, names, variable_names}
use Rattle.gh_ast.specs.Rules.{IsTyped}
use Rattle.gh_ast.proofs.Lists.{member_cases, no_member}
use Rattle.gh_assert.specs.Meaning.{Store}
use Rattle.gh_assert.specs.Stores.{listed, store_of}
use Rattle.gh_path.specs.Graphs as path
use Rattle.gh_path.specs.Conditions.{Condition, IsCondition, IsOf}
use Rattle.gh_path.specs.Terms.{Kind, Bindings, Terms, exprs_used, exprs_terms, loop_walked, invariant_walked}
use Rattle.gh_path.specs.Terms.{check_walked, step_walked, steps_walked, no_terms, used}
use Rattle.gh_grass.specs.declared.binding.Bond.{Bond}
use Rattle.gh_symb.specs.Formulas.{version_after, problem}
use Rattle.gh_symb.specs.Symbolic as plain
use Rattle.gh_symb.specs.Symbolic.{term_step, term_steps, step_used, check_used, first_use, state_bindings, begins}
use Rattle.gh_symb.specs.Symbolic.{symbolic_of}
use Rattle.gh_symb.specs.Inside.{step_of}
use Rattle.gh_symb.specs.Encodings.{plain_kind, Each, IsBinding, IsTermStep}
use Rattle.gh_symb.specs.Encoded.{IsSymbolic}
use Rattle.gh_symb.specs.declared.over_terms.Symbolic.{Symbolic}
use Rattle.gh_symb.specs.declared.over_terms.TermStep.{TermStep}
use Rattle.gh_symb.specs.declared.over_terms.TermStep.TheVariants.{Access, Assume, Same, Write, New, Free, Part}
use Rattle.gh_trace.specs.Kept.{drawn}
use Rattle.gh_trace.specs.Replay.{Drawn}
use Rattle.gh_model.specs.Classes.{class_of}
use Rattle.gh_model.specs.Versions.{equal_in}
use Rattle.gh_model.specs.TermValues.{path_version}
use Rattle.gh_model.specs.BuiltTraces.{value_under, store_under, heap_in, state_under, versions_along, states_under}
use Rattle.gh_model.specs.BuiltTraces.{built_trace}
use Rattle.gh_model.specs.BoundVariables.{AreOf, AllAreOf}
use Rattle.gh_model.specs.KeptTraces.{entries_under, store_in, state_in, states_in, AreBelow, HasAll, drawn_over}
use Rattle.gh_model.proofs.terms.Extension.{Within, walked_grows}
use Rattle.gh_model.proofs.terms.Callees.{with_assigned, assigned_within}
use Rattle.gh_model.proofs.ownership.Traces.{here, call_within, step_within, steps_within, check_within}
use Rattle.gh_model.proofs.ownership.Traces.{check_used_within}
use Rattle.gh_model.proofs.paths.Typing.{Nowhere, ArePrepared, ready_after, paths_are_prepared}
use Rattle.gh_model.proofs.terms.Bounds.{IsBounded, still_below, follow_within, used_bounded, exprs_bounded}
use Rattle.gh_model.proofs.terms.Bounds.{walked_bounded, invariant_bounded, used_step_bounded, step_bounded, steps_up}
use Rattle.gh_model.proofs.terms.Bounds.{check_version, each_bounded}
use Rattle.gh_model.proofs.locality.Steps.{prepared_version}
use Rattle.gh_model.proofs.locality.Traces.{prepared_past, none_bounded}
use Rattle.gh_model.proofs.terms.BoundVariables.{first_cases, either_cases, no_term_outside, only_variables_have_terms}
use Rattle.gh_model.proofs.building.Stores.{listed_under}

-- a listed name has its value, and a name that isn't listed has 0
pub store_is : (S : Store) (xs : List Name) (y : Name) → ((Contains xs y → ⊥) → S y ≡ 0)
    → store_of (entries_under S xs) y ≡ S y
store_is S [] y out = sym (out (λ there. no_member y there))
store_is S (x ∷ xs) y out = elim (cases_Bool (bytes_eq x y)) [
  | inl on ↦ ap (λ b. unwrap_or (cond b (Some (S x)) (listed (entries_under S xs) y)) 0) on
      ∙ ap S ((bytes_eq-Decides x y).0 on)
  | inr off ↦ ap (λ b. unwrap_or (cond b (Some (S x)) (listed (entries_under S xs) y)) 0) off
      ∙ store_is S xs y (λ none. out (λ there. elim (member_cases x xs y there) [
        | inl same ↦ let on : bytes_eq x y ≡ true = (bytes_eq-Decides x y).1 same in false≢true (sym off ∙ on)
        | inr later ↦ none later
      ]))
]

abbrev over : List Name → Store → Interpretation → ℕ → ℕ → Drawn
over xs st m n i = record { listed = xs; state = record { store = st; heap = heap_in m n i } }

-- a state over variables, where other names have no terms
drawn_state : (s : Tables) (xs : List Name) (i : ℕ) (b : List Bond) (B : Bindings) → IsBinding b B → AreOf xs B
    → drawn (state_in s xs i b) ≡ record { listed = xs; state = state_under (interpretation_of s) s.sizes.terms i B }
drawn_state s xs i b B is of =
    let m = interpretation_of s in
    let n = s.sizes.terms in
    let S = store_in s b in
    let at = class_of (equal_in m) n in
    let same : (y : Name) → S y ≡ store_under at B y = λ y. ap (value_under at) (is y) in
    let each : (y : Name) → store_of (entries_under S xs) y ≡ store_under at B y =
    λ y. store_is S xs y (λ out. same y ∙ ap (value_under at) (no_term_outside xs B of y out)) ∙ same y in
    let stores : store_of (entries_under S xs) ≡ store_under at B = λ j y. each y j in
    ap (λ ys. over ys (store_of (entries_under S xs)) m n i) (listed_under S xs) ∙ ap (λ st. over xs st m n i) stores

-- the version after a step of a condition over terms, as it is kept
kept_past : (q : TermStep) (r : plain.TermStep) (i : ℕ) → IsTermStep q r
    → version_after i (step_of q) ≡ version_after i r
kept_past (Access x) r i e = ap (version_after i) (sym e)
kept_past (Assume l w r') r i e = ap (version_after i) (sym e)
kept_past Same r i e = ap (version_after i) (sym e)
kept_past (Write x v) r i e = ap (version_after i) (sym e)
kept_past (New l k) r i e = ap (version_after i) (sym e)
kept_past (Free x) r i e = ap (version_after i) (sym e)
kept_past (Part b a) r i e = ap (version_after i) (sym e.4)

-- terms that a step or check uses are listed after it
loop_used_within : (o : Option path.While) (xs : List Name) (s : Terms)
    → Within (invariant_walked o s).kinds (loop_walked o xs s).kinds
loop_used_within None xs s = λ i k f. f
loop_used_within (Some l) xs s =
    λ i k f. (walked_grows l.invariant (with_assigned l xs s)).kinds i k (assigned_within l xs s i k f)

used_within : (P : Program) (home : Procedure) (proc : path.PathStep) (s : Terms)
    → Within (step_used home proc s).kinds (step_walked P home proc s).kinds
used_within P home (path.access_step o) s = follow_within o.name (used o.name s)
used_within P home (path.assume_step l e r) s = λ i k f. f
used_within P home (path.set_step x e) s = λ i k f. f
used_within P home (path.new_step x) s = step_within P home (path.new_step x) s
used_within P home (path.write_step x e) s = λ i k f. f
used_within P home (path.free_step x) s = λ i k f. f
used_within P home (path.call_step ys n es) s =
    call_within (slice_get P.procedures n) (names ys) (exprs_terms es (exprs_used es s)) (exprs_used es s)
used_within P home (path.while_step n) s = loop_used_within (slice_get (path.loops_of home) n) (variable_names home) s
used_within P home (path.return_step es) s = λ i k f. f

check_used_bounded : (home : Procedure) (c : path.Check) (s : Terms) → IsBounded s → IsBounded (check_used home c s)
check_used_bounded home (path.access o) s B = used_bounded o.name s B
check_used_bounded home (path.callee_entry spot n es) s B = exprs_bounded es s B
check_used_bounded home (path.loop_entry spot n) s B = invariant_bounded (slice_get (path.loops_of home) n) s B
check_used_bounded home (path.return_check spot) s B = each_bounded home.gives s B
check_used_bounded home (path.loop_end spot n) s B = invariant_bounded (slice_get (path.loops_of home) n) s B

-- all terms that are listed at the end of a path
abbrev at_end : Program → Procedure → List path.PathStep → path.Check → Terms → List Kind
at_end P home ps c s = (check_walked P home c (steps_walked P home ps s)).kinds

on_the_way : (P : Program) (home : Procedure) (ps : List path.PathStep) (c : path.Check) (s : Terms)
    → Within s.kinds (at_end P home ps c s)
on_the_way P home ps c s i k e = check_within P home c (steps_walked P home ps s) i k (steps_within P home ps s i k e)

-- a term of a variable that is used later is listed at the end
first_below : (P : Program) (home : Procedure) (ps : List path.PathStep) (c : path.Check) (s : Terms) → IsBounded s
    → (y : Name) (t : ℕ) → first_use P home ps c s y ≡ Some t → t < length (at_end P home ps c s)
first_below P home [] c s B y t e =
    still_below (check_used home c s).kinds (check_walked P home c s).kinds t (check_used_within P home c s)
    ((check_used_bounded home c s B).below y t e)
first_below P home (proc ∷ ps) c s B y t e =
    let z = step_walked P home proc s in
    elim (first_cases ((step_used home proc s).bindings y) (z.bindings y) (first_use P home ps c z y) t e) [
      | inl now ↦ still_below (step_used home proc s).kinds (at_end P home ps c z) t
          (λ i k f. on_the_way P home ps c z i k (used_within P home proc s i k f))
          ((used_step_bounded home proc s B).below y t now)
      | inr later ↦ first_below P home ps c z (step_bounded P home proc s B) y t later
    ]

-- so is the term of each variable at a state
here_below : (P : Program) (home : Procedure) (ps : List path.PathStep) (c : path.Check) (s : Terms) (K : List Kind)
    (b : List Bond) → IsBounded s → Within (at_end P home ps c s) K → IsBinding b (here P home ps c s)
    → AreBelow (length K) b
here_below P home ps c s K b B w is x u e =
    let bound : here P home ps c s x ≡ Some u.0 = sym (is x) ∙ ap (option_map (λ (v : Term). v.0)) e in
    let end = at_end P home ps c s in
    elim (either_cases (s.bindings x) (first_use P home ps c s x) u.0 bound) [
      | inl own ↦ still_below s.kinds K u.0 (λ i k f. w i k (on_the_way P home ps c s i k f)) (B.below x u.0 own)
      | inr first ↦ still_below end K u.0 w (first_below P home ps c s B x u.0 first)
    ]

-- what is known from a state on, in version i
record IsOnWay (P : Program) (home : Procedure) (s : Tables) (K : List Kind) (c : path.Check) (R : Name → Type 0)
    (ps : List path.PathStep) (t : Terms) (i : ℕ) (qs : List TermStep) (bs : List (List Bond)) : Type 0 where
  terms : s.sizes.terms ≡ length K
  versions : s.sizes.versions ≡ (steps_walked P home ps t).version + 1
  prepared : ArePrepared P home R ps c
  within : Within (at_end P home ps c t) K
  bounded : IsBounded t
  version : t.version ≡ i
  steps : Each IsTermStep qs (term_steps P home ps t)
  bindings : Each IsBinding bs (state_bindings P home ps c t)
  own : AllAreOf (variable_names home) (state_bindings P home ps c t)

-- the structure has all terms and versions from a state on, and the states are those of its interpretation
pub record AreBuiltAlong (s : Tables) (xs : List Name) (ps : List path.PathStep) (i : ℕ) (qs : List TermStep)
    (bs : List (List Bond)) (Bs : List Bindings) : Type 0 where
  pub all : HasAll s i qs bs
  pub are : map drawn (states_in s xs i qs bs)
      ≡ drawn_over xs (states_under (interpretation_of s) s.sizes.terms (versions_along i ps) Bs)
  pub count : length bs ≡ length ps + 1

-- a state that the structure has
here_there : (P : Program) (home : Procedure) (s : Tables) (K : List Kind) (c : path.Check) (ps : List path.PathStep)
    (t : Terms) (i : ℕ) (b : List Bond) → s.sizes.terms ≡ length K
    → s.sizes.versions ≡ (steps_walked P home ps t).version + 1 → Within (at_end P home ps c t) K → IsBounded t
    → t.version ≡ i
    → IsBinding b (here P home ps c t) → (i < s.sizes.versions) × AreBelow s.sizes.terms b
here_there P home s K c ps t i b terms versions within bounded version is = (
  omega (arith, version, versions, steps_up P home ps t),
  subst (λ n. AreBelow n b) (sym terms) (here_below P home ps c t K b bounded within is),
)

along : (P : Program) (home : Procedure) (s : Tables) (K : List Kind) (c : path.Check) (R : Name → Type 0)
    (ps : List path.PathStep) (t : Terms) (i : ℕ) (qs : List TermStep) (bs : List (List Bond))
    → IsOnWay P home s K c R ps t i qs bs
    → AreBuiltAlong s (variable_names home) ps i qs bs (state_bindings P home ps c t)
along P home s K c R [] t i [] [] I = absurd I.bindings
along P home s K c R [] t i [] (b ∷ []) I =
    let there = here_there P home s K c [] t i b I.terms I.versions I.within I.bounded I.version I.bindings.0 in
    record {
      all = (there.0, there.1, tt);
      are = ap (λ d. d ∷ []) (drawn_state s (variable_names home) i b (here P home [] c t) I.bindings.0 I.own.0);
      count = refl;
    }
along P home s K c R [] t i [] (b ∷ d ∷ bs) I = absurd I.bindings.1
along P home s K c R [] t i (q ∷ qs) bs I = absurd I.steps
along P home s K c R (proc ∷ ps) t i [] bs I = absurd I.steps
along P home s K c R (proc ∷ ps) t i (q ∷ qs) [] I = absurd I.bindings
along P home s K c R (proc ∷ ps) t i (q ∷ qs) (b ∷ bs) I =
    let xs = variable_names home in
    let z = step_walked P home proc t in
    let j = path_version proc i in
    let there =
    here_there P home s K c (proc ∷ ps) t i b I.terms I.versions I.within I.bounded I.version I.bindings.0 in
    let next : version_after i (step_of q) ≡ j =
    kept_past q (term_step P home proc t) i I.steps.0 ∙ prepared_past P home R proc t i I.prepared.0 in
    let rest : AreBuiltAlong s xs ps j qs bs (state_bindings P home ps c z) =
    along P home s K c (ready_after proc R) ps z j qs bs (record {
      terms = I.terms;
      versions = I.versions;
      prepared = I.prepared.1;
      within = I.within;
      bounded = step_bounded P home proc t I.bounded;
      version = prepared_version P home R proc t I.prepared.0 ∙ ap (path_version proc) I.version;
      steps = I.steps.1;
      bindings = I.bindings.1;
      own = I.own.1;
    }) in
    let B = here P home (proc ∷ ps) c t in
    let first : Drawn = record { listed = xs; state = state_under (interpretation_of s) s.sizes.terms i B } in
    record {
      all = (there.0, there.1, subst (λ k. HasAll s k qs bs) (sym next) rest.all);
      are = ap (λ d. d ∷ map drawn (states_in s xs (version_after i (step_of q)) qs bs))
          (drawn_state s xs i b B I.bindings.0 I.own.0)
          ∙ ap (λ k. first ∷ map drawn (states_in s xs k qs bs)) next
          ∙ ap (λ ds. first ∷ ds) rest.are;
      count = omega (arith, rest.count);
    }

-- a condition over terms, as it is kept, and a structure with its terms and versions
pub are_built : (P : Program) (proc : Procedure) (c : Condition) (y : Symbolic) (s : Tables) → IsTyped P
    → IsCondition P c → IsOf P c proc → IsSymbolic P proc c y → s.sizes.terms ≡ length y.terms
    → s.sizes.versions ≡ y.versions
    → AreBuiltAlong s (variable_names proc) c.way.steps 0 y.steps.items y.bindings.items (symbolic_of P proc c).bindings
are_built P proc c y s typed is of kept_is terms versions =
    let f = path.meets_at proc c.start in
    let ps = c.way.steps in
    let k = c.way.check in
    let t = begins proc c.start in
    along P proc s (symbolic_of P proc c).terms k Nowhere ps t 0 y.steps.items y.bindings.items (record {
      terms = terms ∙ sym (length-map y.terms plain_kind) ∙ ap length kept_is.terms;
      versions = versions ∙ kept_is.versions ∙ ap (λ i. i + 1) (check_version P proc k (steps_walked P proc ps t));
      prepared = paths_are_prepared P proc c typed is of;
      within = λ i l e. e;
      bounded = walked_bounded f no_terms none_bounded;
      version = (walked_grows f no_terms).version;
      steps = kept_is.steps;
      bindings = kept_is.bindings;
      own = only_variables_have_terms P proc c typed is of;
    })

-- the states of the trace
pub built_is : (P : Program) (proc : Procedure) (c : Condition) (y : Symbolic) (s : Tables) → IsTyped P
    → IsCondition P c → IsOf P c proc → IsSymbolic P proc c y → s.sizes.terms ≡ length y.terms
    → s.sizes.versions ≡ y.versions
    → map drawn (states_in s (variable_names proc) 0 y.steps.items y.bindings.items)
    ≡ drawn_over (variable_names proc) (built_trace P proc c (interpretation_of s))
built_is P proc c y s typed is of kept_is terms versions =
    let xs = variable_names proc in
    let count : s.sizes.terms ≡ length (symbolic_of P proc c).terms =
    terms ∙ sym (length-map y.terms plain_kind) ∙ ap length kept_is.terms in
    (are_built P proc c y s typed is of kept_is terms versions).are
    ∙ ap (λ n. drawn_over xs (states_under (interpretation_of s) n (versions_along 0 c.way.steps)
    (symbolic_of P proc c).bindings)) count

-- the numbers of a condition's problem are those of its terms and versions
pub numbers_are : (P : Program) (proc : Procedure) (c : Condition) (y : Symbolic) (s : Tables) → IsSymbolic P proc c y
    → s.sizes ≡ (problem (symbolic_of P proc c)).sizes
    → (s.sizes.terms ≡ length y.terms) × (s.sizes.versions ≡ y.versions)
numbers_are P proc c y s kept_is sizes = (
  ap (λ (z : Sizes). z.terms) sizes ∙ sym (ap length kept_is.terms) ∙ length-map y.terms plain_kind,
  ap (λ (z : Sizes). z.versions) sizes ∙ sym kept_is.versions,
)
