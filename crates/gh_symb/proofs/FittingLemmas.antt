-- The terms and versions of a condition that passes no limit have 8 bits, so what encodes its parts is exact.
use Rattle.std.specs.Prelude.{◌≡◌, ℕ, ◌+◌, ◌<◌, ◌≤◌, List, [], ◌∷◌, length, All}
use Rattle.std.proofs.Common.{sym, ap, subst, arith, inl, inr}
use Rattle.std.proofs.lemmas.List.Elements.{All-nil, All-cons, All-head, All-tail}
use Rattle.gh_base.proofs.ListLemmas.{over_or}
use Rattle.gh_ast.specs.Plain.{Procedure, Program}
use Rattle.gh_path.specs.Admitted.{most_terms, most_versions}
use Rattle.gh_path.specs.Conditions.{Condition}
use Rattle.gh_path.specs.Terms.{Bindings, terms_of, versions_of}
use Rattle.gh_grass.specs.declared.binding.Bond.{Bond}
use Rattle.gh_symb.specs.Symbolic as plain
use Rattle.gh_symb.specs.Symbolic.{access_step, assume_step, same_step, write_step, new_step, free_step, part_step}
use Rattle.gh_symb.specs.Symbolic.{access, sub, whole, symbolic_of}
use Rattle.gh_symb.specs.Formulas.{version_after}
use Rattle.gh_symb.specs.Encodings.{Each, IsBinding, IsUnder, IsTermStep, IsTermCheck}
use Rattle.gh_symb.specs.Fitting.{EncodesBinding, EncodesStep}
use Rattle.gh_symb.specs.Inside.{AreSuccessors, IsUnderInside, AllAreInside, IsStepInside, AreStepsInside}
use Rattle.gh_symb.specs.Inside.{IsCheckInside}
use Rattle.gh_symb.specs.Limits.{PassesNone}
use Rattle.gh_symb.specs.Walked.{IsWalked}
use Rattle.gh_symb.specs.declared.over_terms.TermStep.{TermStep}
use Rattle.gh_symb.specs.declared.symbolic.Walked.{Walked}
use Rattle.gh_symb.proofs.SoundLemmas.{successors_more}
use Rattle.gh_symb.proofs.StepsInside.{condition_sound, conditions_are_inside}
use Rattle.gh_symb.proofs.StatesInside.{IsThere, condition_states}

under_fits : (n v : ℕ) → n ≤ 256 → v ≤ 256 → (u : plain.Under) → IsUnderInside n v u → IsUnderInside 256 256 u
under_fits n v a b u h =
    let version = h.version in
    record { version = omega (arith, b, version); terms = λ x. let there = h.terms x in omega (arith, a, there) }

all_fit : (n v : ℕ) → n ≤ 256 → v ≤ 256 → (us : List plain.Under) → AllAreInside n v us → AllAreInside 256 256 us
all_fit n v a b [] h = All-nil (IsUnderInside 256 256)
all_fit n v a b (u ∷ us) h =
    All-cons (IsUnderInside 256 256) u us (under_fits n v a b u (All-head (IsUnderInside n v) u us h))
    (all_fit n v a b us (All-tail (IsUnderInside n v) u us h))

below : {x n : ℕ} → n ≤ 256 → x < n → x < 256
below a h = omega (arith, a, h)

step_fits : (n v i : ℕ) → n ≤ 256 → v ≤ 256 → (s : plain.TermStep) → IsStepInside n v i s → IsStepInside 256 256 0 s
step_fits n v i a b (access_step x) h = (below a h.0, omega arith)
step_fits n v i a b (assume_step l e r) h = (below a h.0, below a h.1)
step_fits n v i a b same_step h = tt
step_fits n v i a b (write_step x e) h = (below a h.0, below a h.1, omega arith)
step_fits n v i a b (new_step l c) h = (below a h.0, below a h.1, omega arith)
step_fits n v i a b (free_step x) h = (below a h.0, omega arith)
step_fits n v i a b (part_step u us) h = (under_fits n v a b u h.0, all_fit n v a b us h.1, omega arith)

check_fits : (n v : ℕ) → n ≤ 256 → v ≤ 256 → (k : plain.TermCheck) → IsCheckInside n v k → IsCheckInside 256 256 k
check_fits n v a b (access x) h = below a h
check_fits n v a b (sub u) h = under_fits n v a b u h
check_fits n v a b (whole us) h = all_fit n v a b us h

steps_exact : (n v i : ℕ) → n ≤ 256 → v ≤ 256 → (es : List TermStep) (ss : List plain.TermStep)
    → AreStepsInside n v i ss → Each EncodesStep es ss → Each IsTermStep es ss
steps_exact n v i a b [] [] h each = tt
steps_exact n v i a b [] (s ∷ ss) h each = absurd each
steps_exact n v i a b (e ∷ es) [] h each = absurd each
steps_exact n v i a b (e ∷ es) (s ∷ ss) h each =
    (each.0 (step_fits n v i a b s h.0), steps_exact n v (version_after i s) a b es ss h.1 each.1)

bindings_exact : (n : ℕ) → n ≤ 256 → (es : List (List Bond)) (bs : List Bindings) → All (IsThere n) bs
    → Each EncodesBinding es bs → Each IsBinding es bs
bindings_exact n a [] [] h each = tt
bindings_exact n a [] (b ∷ bs) h each = absurd each
bindings_exact n a (e ∷ es) [] h each = absurd each
bindings_exact n a (e ∷ es) (b ∷ bs) h each =
    let there = All-head (IsThere n) b bs h in
    (λ x. each.0 x (below a (there x)), bindings_exact n a es bs (All-tail (IsThere n) b bs h) each.1)

-- a condition that passes no limit has few terms and versions
few_terms : (P : Program) (proc : Procedure) (c : Condition) → PassesNone P proc c
    → length (terms_of P proc c.start c.way) ≤ most_terms
few_terms P proc c passes =
    elim (over_or most_terms (length (terms_of P proc c.start c.way)))
    [ inl many ↦ absurd (passes.terms many) | inr few ↦ few ]

few_versions : (P : Program) (proc : Procedure) (c : Condition) → PassesNone P proc c
    → versions_of P proc c.start c.way ≤ most_versions
few_versions P proc c passes =
    elim (over_or most_versions (versions_of P proc c.start c.way))
    [ inl many ↦ absurd (passes.versions many) | inr few ↦ few ]

pub few_numbers : (P : Program) (proc : Procedure) (c : Condition) (w : Walked) → IsWalked P proc c w
    → PassesNone P proc c → (length w.kinds ≤ most_terms) × (w.version + 1 ≤ most_versions)
few_numbers P proc c w h passes =
    let terms : length w.kinds ≡ length (terms_of P proc c.start c.way) = ap length h.kinds_are in
    let few = few_terms P proc c passes in
    let few_too = few_versions P proc c passes in
    let versions = h.versions_are in
    (omega (arith, terms, few), omega (arith, versions, few_too))

pub short_kinds : (P : Program) (proc : Procedure) (c : Condition) (w : Walked) → IsWalked P proc c w
    → PassesNone P proc c → AreSuccessors 256 256 w.kinds
short_kinds P proc c w h passes =
    let few = few_terms P proc c passes in
    let few_too = few_versions P proc c passes in
    subst (AreSuccessors 256 256) (sym h.kinds_are)
    (successors_more (length (terms_of P proc c.start c.way)) 256 (versions_of P proc c.start c.way) 256
    (omega (arith, few)) (omega (arith, few_too)) (terms_of P proc c.start c.way)
    (condition_sound P proc c).successors)

-- all that is encoded is that of the condition
pub record IsExact (P : Program) (proc : Procedure) (c : Condition) (w : Walked) : Type 0 where
  pub start_is : IsUnder w.start (symbolic_of P proc c).start
  pub steps_are : Each IsTermStep w.steps.items (symbolic_of P proc c).steps
  pub check_is : IsTermCheck w.check (symbolic_of P proc c).check
  pub bindings_are : Each IsBinding w.bindings.items (symbolic_of P proc c).bindings

pub exact : (P : Program) (proc : Procedure) (c : Condition) (w : Walked) → IsWalked P proc c w → PassesNone P proc c
    → IsExact P proc c w
exact P proc c w h passes =
    let n = length (terms_of P proc c.start c.way) in
    let v = versions_of P proc c.start c.way in
    let few = few_terms P proc c passes in
    let few_too = few_versions P proc c passes in
    let a : n ≤ 256 = omega (arith, few) in
    let b : v ≤ 256 = omega (arith, few_too) in
    let inside = conditions_are_inside P proc c in
    record {
      start_is = h.start_is (under_fits n v a b (symbolic_of P proc c).start inside.start_is);
      steps_are = steps_exact n v 0 a b w.steps.items (symbolic_of P proc c).steps inside.steps_are h.steps_are;
      check_is = h.check_is (check_fits n v a b (symbolic_of P proc c).check inside.check_is);
      bindings_are =
          bindings_exact n a w.bindings.items (symbolic_of P proc c).bindings (condition_states P proc c)
          h.bindings_are;
    }
