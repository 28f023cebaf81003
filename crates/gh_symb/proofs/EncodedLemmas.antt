-- A condition over terms that is encoded has its plain value.
use Rattle.std.specs.Prelude.{◌≡◌, ℕ, suc, ◌+◌, List, [], ◌∷◌, length, map}
use Rattle.std.proofs.Common.{refl, sym, ◌∙◌, ap, subst, arith}
use Rattle.gh_ast.specs.Plain.{Procedure, Program}
use Rattle.gh_path.specs.Conditions.{Condition}
use Rattle.gh_path.specs.Graphs.{Check, PathStep}
use Rattle.gh_path.specs.Terms.{Bindings, Kind, Terms, step_walked}
use Rattle.gh_grass.specs.declared.binding.Bond.{Bond}
use Rattle.gh_symb.specs.Symbolic as plain
use Rattle.gh_symb.specs.Symbolic.{part_step, sub, whole, begins, symbolic_of, state_bindings, term_steps}
use Rattle.gh_symb.specs.Encodings.{Each, IsBinding, IsUnder, IsTermStep, IsTermCheck}
use Rattle.gh_symb.specs.Encoded.{IsSymbolic}
use Rattle.gh_symb.specs.declared.over_terms.BoundAssertion.{BoundAssertion}
use Rattle.gh_symb.specs.declared.over_terms.TermStep.{TermStep}
use Rattle.gh_symb.specs.declared.over_terms.TermStep.TheVariants as step
use Rattle.gh_symb.specs.declared.over_terms.TermCheck.{TermCheck}
use Rattle.gh_symb.specs.declared.over_terms.TermCheck.TheVariants as check
use Rattle.gh_symb.specs.declared.over_terms.Symbolic.{Symbolic}
use Rattle.gh_symb.specs.Inside.{binding_of, under_of, step_of, check_of, IsInside}
use Rattle.gh_symb.specs.Encoded.{plain_of}
use Rattle.gh_symb.proofs.StepsInside.{IsItselfInside, conditions_are_inside}

pub same_function : {A B : Type 0} (f g : A → B) → ((x : A) → f x ≡ g x) → f ≡ g
same_function f g p = λ i. λ x. p x i

both_first : {A : Type 0} (x y : A) (xs ys : List A) → x ≡ y → xs ≡ ys → x ∷ xs ≡ y ∷ ys
both_first x y xs ys e f = rw (e, f) refl

all_same : {A B : Type 0} (R : A → B → Type 0) (f : A → B) → ((a : A) (b : B) → R a b → f a ≡ b)
    → (as' : List A) (bs : List B) → Each R as' bs → map f as' ≡ bs
all_same R f h [] [] t = refl
all_same R f h [] (b ∷ bs) t = absurd t
all_same R f h (a ∷ as') [] t = absurd t
all_same R f h (a ∷ as') (b ∷ bs) t = both_first (f a) b (map f as') bs (h a b t.0) (all_same R f h as' bs t.1)

under_is : (b : BoundAssertion) (u : plain.Under) → IsUnder b u → under_of b ≡ u
under_is b u h =
    let e = same_function (binding_of b.binding) u.binding h.binding in
    λ i. record { assertion = h.assertion i; binding = e i; version = h.version i }

step_is : (s : TermStep) (p : plain.TermStep) → IsTermStep s p → step_of s ≡ p
step_is (step.Access x) p h = sym h
step_is (step.Assume l e r) p h = sym h
step_is step.Same p h = sym h
step_is (step.Write x e) p h = sym h
step_is (step.New l k) p h = sym h
step_is (step.Free x) p h = sym h
step_is (step.Part b a) p h =
    ap (λ (u : plain.Under). part_step u (map under_of a.items)) (under_is b h.0 h.2)
    ∙ ap (part_step h.0) (all_same IsUnder under_of under_is a.items h.1 h.3)
    ∙ sym h.4

check_is : (s : TermCheck) (p : plain.TermCheck) → IsTermCheck s p → check_of s ≡ p
check_is (check.Access x) p h = sym h
check_is (check.Sub b) p h = ap sub (under_is b h.0 h.1) ∙ sym h.2
check_is (check.Whole bs) p h = ap whole (all_same IsUnder under_of under_is bs.items h.0 h.1) ∙ sym h.2

binding_is : (bonds : List Bond) (b : Bindings) → IsBinding bonds b → binding_of bonds ≡ b
binding_is bonds b h = same_function (binding_of bonds) b h

pub same_length : {A B : Type 0} (R : A → B → Type 0) (as' : List A) (bs : List B) → Each R as' bs
    → length as' ≡ length bs
same_length R [] [] each = refl
same_length R [] (b ∷ bs) each = absurd each
same_length R (a ∷ as') [] each = absurd each
same_length R (a ∷ as') (b ∷ bs) each = ap suc (same_length R as' bs each.1)

one_more_state : (P : Program) (proc : Procedure) (xs : List PathStep) (k : Check) (s : Terms)
    → length (state_bindings P proc xs k s) ≡ length (term_steps P proc xs s) + 1
one_more_state P proc [] k s = refl
one_more_state P proc (x ∷ xs) k s =
    let rest = one_more_state P proc xs k (step_walked P proc x s) in
    omega (arith, rest)

-- a condition over terms has one state more than steps
pub states_of_steps : (P : Program) (proc : Procedure) (c : Condition) (steps : List TermStep)
    (bindings : List (List Bond)) →
    Each IsTermStep steps (symbolic_of P proc c).steps → Each IsBinding bindings (symbolic_of P proc c).bindings
    → length bindings ≡ length steps + 1
states_of_steps P proc c steps bindings each_step each_binding =
    same_length IsBinding bindings (symbolic_of P proc c).bindings each_binding
    ∙ one_more_state P proc c.way.steps c.way.check (begins proc c.start)
    ∙ ap (λ n. n + 1) (sym (same_length IsTermStep steps (symbolic_of P proc c).steps each_step))

pub encoded_is : (P : Program) (proc : Procedure) (c : Condition) (s : Symbolic) → IsSymbolic P proc c s
    → plain_of s ≡ symbolic_of P proc c
encoded_is P proc c s h =
    let start = under_is s.start (symbolic_of P proc c).start h.start in
    let steps = all_same IsTermStep step_of step_is s.steps.items (symbolic_of P proc c).steps h.steps in
    let check = check_is s.check (symbolic_of P proc c).check h.check in
    let bindings =
    all_same IsBinding binding_of binding_is s.bindings.items (symbolic_of P proc c).bindings h.bindings in
    λ i. record {
      terms = h.terms i;
      versions = h.versions i;
      start = start i;
      steps = steps i;
      check = check i;
      bindings = bindings i;
    }

-- its terms and versions are those of the condition
pub encoded_inside : (P : Program) (proc : Procedure) (c : Condition) (ks : List Kind) (v : ℕ) (start : BoundAssertion)
    (steps : List TermStep) (check : TermCheck) →
    ks ≡ (symbolic_of P proc c).terms → v ≡ (symbolic_of P proc c).versions → IsUnder start (symbolic_of P proc c).start
    → Each IsTermStep steps (symbolic_of P proc c).steps → IsTermCheck check (symbolic_of P proc c).check →
    IsInside ks v (under_of start) (map step_of steps) (check_of check)
encoded_inside P proc c ks v start steps check terms versions starts each asks =
    let s = symbolic_of P proc c in
    let told : plain.Symbolic =
    record {
      terms = ks;
      versions = v;
      start = under_of start;
      steps = map step_of steps;
      check = check_of check;
      bindings = s.bindings;
    } in
    let same : told ≡ s =
    let at_start = under_is start s.start starts in
    let at_steps = all_same IsTermStep step_of step_is steps s.steps each in
    let at_check = check_is check s.check asks in
    λ i. record {
      terms = terms i;
      versions = versions i;
      start = at_start i;
      steps = at_steps i;
      check = at_check i;
      bindings = s.bindings;
    } in
    subst IsItselfInside (sym same) (conditions_are_inside P proc c)
