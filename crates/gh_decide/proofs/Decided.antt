-- The conditions that were decided so far, one by one.
use Rattle.std.specs.Prelude.{◌≡◌, ℕ, suc, ◌+◌, ◌<◌, ◌≤◌, List, [], ◌∷◌, ◌++◌, length, take, slice_get, Some, None, All}
use Rattle.std.specs.Prelude.{Contains}
use Rattle.std.proofs.Common.{refl, sym, ◌∙◌, ap, subst, inl, inr, arith}
use Rattle.std.proofs.lemmas.List.{length-map, map-append, take_all}
use Rattle.std.proofs.lemmas.List.Elements.{All-map, All-push, All-weaker, Contains-append_cases}
use Rattle.gh_ast.specs.Plain.{Program}
use Rattle.gh_ast.proofs.Lists.{no_member, only_member}
use Rattle.gh_path.specs.Answers.{IsNumbered}
use Rattle.gh_path.specs.Conditions.{Condition, conditions}
use Rattle.gh_path.specs.Kept.{condition_of}
use Rattle.gh_path.specs.declared.condition.Condition as kept
use Rattle.gh_trace.specs.Kept.{HasNoCounterexample}
use Rattle.gh_trace.specs.Validity.{IsConditionValid, ListedAreValid}
use Rattle.gh_trace.proofs.FirstRefuted.{taken_more, next_one}
use Rattle.gh_log.specs.Lines.{LogLine}
use Rattle.gh_log.specs.declared.lines.Log.{Log}
use Rattle.gh_log.specs.declared.lines.Section.{Section}
use Rattle.gh_log.specs.Spelled.{IsSpelledLine, IsSpelled, lines_of}
use Rattle.gh_decide.specs.Decided.{AreValidUpTo, AreDecided}
use Rattle.gh_decide.specs.Logs.{AreValidSections, IsSectionOf}
use Rattle.gh_decide.specs.Outcomes.{IsVerified}
use Rattle.gh_decide.specs.Verdicts.{IsWritable, IsShown}

sections_more : (P : Program) (cs : List Condition) (ss : List (List LogLine)) (c : Condition) (s : List LogLine)
    → AreValidSections P cs ss → IsSectionOf P c s → AreValidSections P (cs ++ c ∷ []) (ss ++ s ∷ [])
sections_more P [] [] c s valid more = (more, record {})
sections_more P [] (t ∷ ss) c s valid more = absurd valid
sections_more P (d ∷ ds) [] c s valid more = absurd valid
sections_more P (d ∷ ds) (t ∷ ss) c s valid more = (valid.0, sections_more P ds ss c s valid.1 more)

-- the sections are as many as the conditions
pub as_many : (P : Program) (cs : List Condition) (log : List (List LogLine)) → AreValidSections P cs log
    → length log ≡ length cs
as_many P [] [] valid = refl
as_many P [] (s ∷ ss) valid = absurd valid
as_many P (c ∷ cs) [] valid = absurd valid
as_many P (c ∷ cs) (s ∷ ss) valid = let more = as_many P cs ss valid.1 in omega (arith, more)

pub is_there : (P : Program) (k m : ℕ) → m ≡ length (conditions P) → k < m → IsNumbered P (k + 1) None → ⊥
is_there P k m count within (inl none) = omega (arith, none)
is_there P k m count within (inr past) = omega (arith, past, count, within)

pub none_valid : (P : Program) → AreValidUpTo P 0
none_valid P d i = absurd (no_member d i)

pub none_decided : (P : Program) → AreDecided P 0 []
none_decided P = record { valid = none_valid P; log = record {}; writable = λ k d l. absurd (omega arith) }

taken_one : (P : Program) (k : ℕ) (c : Condition) → slice_get (conditions P) k ≡ Some c
    → take (k + 1) (conditions P) ≡ take k (conditions P) ++ c ∷ []
taken_one P k c at = let more : k + 1 ≡ suc k = omega arith in
    ap (λ n. take n (conditions P)) more ∙ taken_more (conditions P) k c at

-- one condition more is valid
pub valid_more : (P : Program) (k : ℕ) (r : kept.Condition) → IsNumbered P (k + 1) (Some r) → HasNoCounterexample P r
    → AreValidUpTo P k → AreValidUpTo P (k + 1)
valid_more P k r found valid before d i =
    let c : Condition = condition_of r in
    let cs : List Condition = take k (conditions P) in
    elim (Contains-append_cases cs (c ∷ []) d
    (subst (λ (xs : List Condition). Contains xs d) (taken_one P k c (next_one P k r found)) i)) [
      | inl earlier ↦ before d earlier
      | inr last ↦ subst (IsConditionValid P) (sym (only_member c d last)) valid
    ]

-- with its section
pub decided_more : (P : Program) (k : ℕ) (r : kept.Condition) (s : Section) (old new : List Section)
    → IsNumbered P (k + 1) (Some r) → IsShown P r s → new ≡ old ++ s ∷ [] → AreDecided P k old
    → AreDecided P (k + 1) new
decided_more P k r s old new found shown pushed before =
    let c : Condition = condition_of r in
    let cs : List Condition = take k (conditions P) in
    let taken : take (k + 1) (conditions P) ≡ cs ++ c ∷ [] = taken_one P k c (next_one P k r found) in
    let lines : lines_of new ≡ lines_of old ++ s.lines ∷ [] =
    ap lines_of pushed ∙ map-append (λ (t : Section). t.lines) old (s ∷ []) in
    let sections = sections_more P cs (lines_of old) c s.lines before.log shown.section in
    record {
      valid = valid_more P k r found shown.valid before.valid;
      log = subst (λ (xs : List Condition). AreValidSections P xs (lines_of new)) (sym taken)
          (subst (AreValidSections P (cs ++ c ∷ [])) (sym lines) sections);
      writable = subst (All IsWritable) (sym pushed) (All-push IsWritable old s before.writable shown.writable);
    }

-- all conditions were decided
all_taken : (P : Program) (k m : ℕ) → m ≡ length (conditions P) → m ≤ k → take k (conditions P) ≡ conditions P
all_taken P k m count past = take_all k (conditions P) (omega (arith, count, past))

pub all_valid : (P : Program) (k m : ℕ) → m ≡ length (conditions P) → m ≤ k → AreValidUpTo P k → ListedAreValid P
all_valid P k m count past valid c i =
    valid c (subst (λ (xs : List Condition). Contains xs c) (sym (all_taken P k m count past)) i)

-- sections whose lines are spelled, and that are as many as 32 bits count
spelled_log : (ss : List Section) (m : ℕ) → All IsWritable ss → length ss ≡ m → m ≤ 4294967295
    → IsSpelled 2 (lines_of ss)
spelled_log ss m writable many few = record {
  known = inr refl;
  lines =
      All-map (λ (ls : List LogLine). All (IsSpelledLine 2) ls) (λ (s : Section). s.lines) ss
      (All-weaker IsWritable (λ (s : Section). All (IsSpelledLine 2) s.lines) (λ s p. p.spelled) ss writable);
  few = omega (arith, length-map ss (λ (s : Section). s.lines), many);
}

pub all_decided : (P : Program) (k m : ℕ) (log : Log) → log.version ≡ 2 → m ≡ length (conditions P) → m ≤ k
    → m ≤ 4294967295 → AreDecided P k log.sections.items → IsVerified P log
all_decided P k m log two count past few before =
    let ss : List Section = log.sections.items in
    let shown : AreValidSections P (conditions P) (lines_of ss) =
    subst (λ (xs : List Condition). AreValidSections P xs (lines_of ss)) (all_taken P k m count past) before.log in
    let many : length ss ≡ m =
    sym (length-map ss (λ (s : Section). s.lines)) ∙ as_many P (conditions P) (lines_of ss) shown ∙ sym count in
    record {
      valid = all_valid P k m count past before.valid;
      version = two;
      log = shown;
      spelled = spelled_log ss m before.writable many few;
      writable = before.writable;
    }
