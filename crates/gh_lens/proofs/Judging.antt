-- The conditions that are judged, one by one.
use Rattle.std.specs.Prelude.{◌≡◌, ℕ, suc, ◌+◌, ◌≤◌, List, [], ◌∷◌, ◌++◌, length, take, Some, slice_get}
use Rattle.std.proofs.Common.{sym, ◌∙◌, ap, subst, arith}
use Rattle.std.proofs.lemmas.List.{take_all}
use Rattle.gh_ast.specs.Plain.{Program}
use Rattle.gh_path.specs.Answers.{IsNumbered}
use Rattle.gh_path.specs.Conditions.{Condition, conditions}
use Rattle.gh_path.specs.Kept.{condition_of}
use Rattle.gh_path.specs.declared.condition.Condition as kept
use Rattle.gh_trace.proofs.FirstRefuted.{taken_more, taken_length, next_one}
use Rattle.gh_lens.specs.Judgements.{IsJudged, IsJudgedFor, AreJudged}
use Rattle.gh_lens.specs.declared.judged.Judged.{Judged}

-- one condition more at the end
judged_more : (P : Program) (n : ℕ) (cs : List Condition) (js : List Judged) (c : Condition) (j : Judged)
    → AreJudged P n cs js → IsJudged P (n + length cs) c j → AreJudged P n (cs ++ c ∷ []) (js ++ j ∷ [])
judged_more P n [] [] c j are is = let e : n + 0 ≡ n = omega arith in (subst (λ m. IsJudged P m c j) e is, tt)
judged_more P n [] (k ∷ ks) c j are is = absurd are
judged_more P n (d ∷ ds) [] c j are is = absurd are
judged_more P n (d ∷ ds) (k ∷ ks) c j are is =
    let e : n + suc (length ds) ≡ suc n + length ds = omega arith in
    (are.0, judged_more P (suc n) ds ks c j are.1 (subst (λ m. IsJudged P m c j) e is))

-- the condition of the next number
pub judged_next : (P : Program) (k : ℕ) (r : kept.Condition) (j : Judged) (old new : List Judged)
    → IsNumbered P (k + 1) (Some r) → IsJudgedFor P (k + 1) r j → new ≡ old ++ j ∷ []
    → AreJudged P 1 (take k (conditions P)) old → AreJudged P 1 (take (k + 1) (conditions P)) new
judged_next P k r j old new found judged pushed before =
    let c : Condition = condition_of r in
    let at : slice_get (conditions P) k ≡ Some c = next_one P k r found in
    let cs : List Condition = take k (conditions P) in
    let more : k + 1 ≡ suc k = omega arith in
    let taken : take (k + 1) (conditions P) ≡ cs ++ c ∷ [] =
    ap (λ n. take n (conditions P)) more ∙ taken_more (conditions P) k c at in
    let count : length cs ≡ k = taken_length (conditions P) k c at in
    let number : k + 1 ≡ 1 + length cs = omega (arith, count) in
    let all = judged_more P 1 cs old c j before (subst (λ m. IsJudged P m c j) number judged) in
    subst (λ ds. AreJudged P 1 ds new) (sym taken) (subst (AreJudged P 1 (cs ++ c ∷ [])) (sym pushed) all)

-- all conditions are judged
pub judged_all : (P : Program) (k m : ℕ) (js : List Judged) → m ≡ length (conditions P) → m ≤ k
    → AreJudged P 1 (take k (conditions P)) js → AreJudged P 1 (conditions P) js
judged_all P k m js count past before =
    let all : take k (conditions P) ≡ conditions P = take_all k (conditions P) (omega (arith, count, past)) in
    subst (λ ds. AreJudged P 1 ds js) all before
