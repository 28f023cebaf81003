-- What a session knows after some conditions.
use Rattle.std.specs.Prelude.{◌≡◌, ℕ, suc, ◌+◌, ◌-◌, ◌≤◌, List, [], ◌∷◌, ◌++◌, length, take, slice_get, Option, Some}
use Rattle.std.specs.Prelude.{Bool, true, false, cond, Contains}
use Rattle.std.proofs.Common.{refl, sym, ◌∙◌, ap, subst, inl, inr, arith}
use Rattle.std.proofs.lemmas.List.{map-append, take_all, append_assoc, append-nil, length-append}
use Rattle.std.proofs.lemmas.List.Elements.{Contains-append_left, Contains-append_cases}
use Rattle.gh_ast.specs.Plain.{Program}
use Rattle.gh_ast.proofs.Lists.{no_member, only_member}
use Rattle.gh_path.specs.Answers.{IsNumbered}
use Rattle.gh_path.specs.Conditions.{Condition, conditions}
use Rattle.gh_path.specs.Kept.{condition_of}
use Rattle.gh_path.specs.declared.condition.Condition as kept
use Rattle.gh_trace.specs.Kept.{HasNoCounterexample}
use Rattle.gh_trace.specs.Validity.{IsConditionValid, ListedAreValid}
use Rattle.gh_trace.specs.declared.state.Trace.{Trace}
use Rattle.gh_trace.proofs.FirstRefuted.{taken_more}
use Rattle.gh_session.specs.Essences.{Essence}
use Rattle.gh_session.specs.Laws.{HasEssence}
use Rattle.gh_session.specs.Known.{Known, known, essences, AddsKnown, LearnsEssence}
use Rattle.gh_session.specs.Decided.{AreEssences, AreNew, none, is_known, is_new, Grows, AreDecided}

taken : (P : Program) (k : ℕ) (c : Condition) → slice_get (conditions P) k ≡ Some c
    → take (k + 1) (conditions P) ≡ take k (conditions P) ++ c ∷ []
taken P k c at =
    let more : k + 1 ≡ suc k = omega arith in
    ap (λ n. take n (conditions P)) more ∙ taken_more (conditions P) k c at

-- the condition of the number k + 1 stands at the place k
at_place : (P : Program) (k : ℕ) (r : kept.Condition) → IsNumbered P (k + 1) (Some r)
    → slice_get (conditions P) k ≡ Some (condition_of r)
at_place P k r found =
    let same : k + 1 - 1 ≡ k = omega arith in
    subst (λ n. slice_get (conditions P) n ≡ Some (condition_of r)) same found.1

pub at_most_one : (b : Bool) → cond b 1 0 ≤ 1
at_most_one true = omega arith
at_most_one false = omega arith

-- one essence more, which is new or isn't
new_last : (old Es new : List Essence) (E : Essence) → AreNew old Es new → (Contains (old ++ new) E → ⊥)
    → AreNew old (Es ++ E ∷ []) (new ++ E ∷ [])
new_last _ _ _ E (none {old = old}) out = is_new (λ has. out (Contains-append_left old [] E has)) none
new_last _ _ _ E (is_known {old = old} {Es = Es} {new = new} {E = F} has rest) out =
    is_known has (new_last old Es new E rest out)
new_last _ _ _ E (is_new {old = old} {Es = Es} {new = new} {E = F} not_old rest) out =
    is_new not_old (new_last (old ++ F ∷ []) Es new E rest
    (λ has. out (subst (λ xs. Contains xs E) (append_assoc old (F ∷ []) new) has)))

known_last : (old Es new : List Essence) (E : Essence) → AreNew old Es new → Contains (old ++ new) E
    → AreNew old (Es ++ E ∷ []) new
known_last _ _ _ E (none {old = old}) has = is_known (subst (λ xs. Contains xs E) (append-nil old) has) none
known_last _ _ _ E (is_known {old = old} {Es = Es} {new = new} {E = F} there rest) has =
    is_known there (known_last old Es new E rest has)
known_last _ _ _ E (is_new {old = old} {Es = Es} {new = new} {E = F} not_old rest) has =
    is_new not_old (known_last (old ++ F ∷ []) Es new E rest
    (subst (λ xs. Contains xs E) (sym (append_assoc old (F ∷ []) new)) has))

essences_more : (P : Program) (cs : List Condition) (Es : List Essence) (c : Condition) (E : Essence)
    → AreEssences P cs Es → HasEssence P c E → AreEssences P (cs ++ c ∷ []) (Es ++ E ∷ [])
essences_more P [] [] c E are is = (is, record {})
essences_more P [] (F ∷ Es) c E are is = absurd are
essences_more P (d ∷ cs) [] c E are is = absurd are
essences_more P (d ∷ cs) (F ∷ Es) c E are is = (are.0, essences_more P cs Es c E are.1 is)

pub none_decided : (P : Program) (old : List Known) → AreDecided P 0 old 0 old
none_decided P old = record {
  valid = λ d i. absurd (no_member d i);
  grows = record { all = []; are = record {}; added = []; whole = sym (append-nil old); are_new = none; count = refl };
}

grown : (P : Program) (cs : List Condition) (c : Condition) (answer : Option Trace) (new_one : Bool) (E : Essence)
    (old mid new : List Known) (n : ℕ) → HasEssence P c E →
    AddsKnown mid E answer new_one new → Grows P cs old n mid → Grows P (cs ++ c ∷ []) old (n + cond new_one 1 0) new
grown P cs c answer false E old mid new n is adds before = record {
  all = before.all ++ E ∷ [];
  are = essences_more P cs before.all c E before.are is;
  added = before.added;
  whole = adds.1 ∙ before.whole;
  are_new = known_last (essences old) before.all (essences before.added) E before.are_new
      (subst (λ xs. Contains xs E) (ap essences before.whole ∙ map-append (λ (k : Known). k.essence) old before.added)
      adds.0);
  count = omega (arith, before.count);
}
grown P cs c answer true E old mid new n is adds before = record {
  all = before.all ++ E ∷ [];
  are = essences_more P cs before.all c E before.are is;
  added = before.added ++ known E answer ∷ [];
  whole =
      adds.1 ∙ ap (λ ks. ks ++ known E answer ∷ []) before.whole ∙ append_assoc old before.added (known E answer ∷ []);
  are_new =
      subst (AreNew (essences old) (before.all ++ E ∷ []))
      (sym (map-append (λ (k : Known). k.essence) before.added (known E answer ∷ [])))
      (new_last (essences old) before.all (essences before.added) E before.are_new
      (λ has. adds.0 (subst (λ xs. Contains xs E)
      (sym (ap essences before.whole ∙ map-append (λ (k : Known). k.essence) old before.added)) has)));
  count =
      let longer : length (before.added ++ known E answer ∷ []) ≡ length before.added + 1 =
      length-append before.added (known E answer ∷ []) in
      omega (arith, before.count, longer);
}

pub grown_one : (P : Program) (k : ℕ) (r : kept.Condition) (answer : Option Trace) (new_one : Bool)
    (old mid new : List Known) (n : ℕ) → IsNumbered P (k + 1) (Some r) → LearnsEssence P r mid answer new_one new →
    AreDecided P k old n mid → Grows P (take (k + 1) (conditions P)) old (n + cond new_one 1 0) new
grown_one P k r answer new_one old mid new n found learns before =
    subst (λ cs. Grows P cs old (n + cond new_one 1 0) new) (sym (taken P k (condition_of r) (at_place P k r found)))
    (grown P (take k (conditions P)) (condition_of r) answer new_one learns.essence old mid new n learns.has learns.adds
    before.grows)

-- one condition more is valid
pub decided_more : (P : Program) (k : ℕ) (r : kept.Condition) (answer : Option Trace) (new_one : Bool)
    (old mid new : List Known) (n : ℕ) → IsNumbered P (k + 1) (Some r) → LearnsEssence P r mid answer new_one new →
    HasNoCounterexample P r → AreDecided P k old n mid → AreDecided P (k + 1) old (n + cond new_one 1 0) new
decided_more P k r answer new_one old mid new n found learns passes before =
    record {
      valid = λ d i. elim (Contains-append_cases (take k (conditions P)) (condition_of r ∷ []) d
          (subst (λ (xs : List Condition). Contains xs d) (taken P k (condition_of r) (at_place P k r found)) i)) [
            | inl earlier ↦ before.valid d earlier
            | inr last ↦ subst (IsConditionValid P) (sym (only_member (condition_of r) d last)) passes
          ];
      grows = grown_one P k r answer new_one old mid new n found learns before;
    }

-- all conditions are valid
pub record AllDecided (P : Program) (old : List Known) (n : ℕ) (new : List Known) : Type 0 where
  pub valid : ListedAreValid P
  pub grows : Grows P (conditions P) old n new

pub all_decided : (P : Program) (k m : ℕ) (old new : List Known) (n : ℕ) → m ≡ length (conditions P) → m ≤ k
    → AreDecided P k old n new → AllDecided P old n new
all_decided P k m old new n count past before =
    let all : take k (conditions P) ≡ conditions P = take_all k (conditions P) (omega (arith, count, past)) in
    record {
      valid = λ c i. before.valid c (subst (λ (xs : List Condition). Contains xs c) (sym all) i);
      grows = subst (λ cs. Grows P cs old n new) all before.grows;
    }
