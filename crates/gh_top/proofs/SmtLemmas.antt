-- From a condition of a number to what is answered for it.
use Rattle.std.proofs.Common.{◌≡◌, ℕ, ◌-◌, ◌<◌, ◌≤◌, List, ◌++◌, length, codes, ◌∙◌, ap, subst, arith, inl, inr}
use Rattle.std.specs.Prelude.{Some, None}
use Rattle.std.specs.Fmt.{decimal}
use Rattle.gh_base.specs.declared.place.Span.{Span}
use Rattle.gh_ast.specs.Plain.{Procedure, Program}
use Rattle.gh_path.specs.Answers.{IsNumbered}
use Rattle.gh_path.specs.Conditions.{Condition, conditions, IsConditionAt, IsOf}
use Rattle.gh_path.specs.Kept.{condition_of}
use Rattle.gh_path.specs.declared.condition.Condition as kept
use Rattle.gh_base.specs.Grounds.{Problem}
use Rattle.gh_symb.specs.Symbolic.{symbolic_of}
use Rattle.gh_symb.specs.Formulas.{problem}
use Rattle.gh_trace.proofs.FirstRefuted.{placed}
use Rattle.gh_smt.specs.Scripts.{assertion_count, script_of}
use Rattle.gh_smt.specs.Texts.{script_text}
use Rattle.gh_smt.specs.Laws.{DecidesCondition}
use Rattle.gh_draw.specs.Descriptions.{place_text}
use Rattle.gh_draw.specs.Drawings.{line}
use Rattle.gh_top.specs.Headline.{smt_listed, smt_no_condition, smt_too_long}
use Rattle.gh_top.specs.Smts.{most_asserted, asserted_count, script_for, smt_text, unnumbered_text, too_long_text}
use Rattle.gh_top.specs.Smts.{IsScriptReport, listed, too_long, ReportsScript}
use Rattle.gh_top.specs.Replies.{Replies}
use Rattle.gh_top.specs.declared.words.Request.TheVariants.{Smt}
use Rattle.gh_top.specs.declared.status.Status.{Status}
use Rattle.gh_top.specs.declared.status.Status.TheVariants.{Listed, LogRefused, TextRefused}

pub is_listed : (P : Program) (proc : Procedure) (c : Condition) (g q : Problem) (s : Status) (u : List ℕ)
    → g ≡ problem (symbolic_of P proc c) → assertion_count g ≤ most_asserted
    → q ≡ script_of g → DecidesCondition P c q → s ≡ Listed → u ≡ script_text q → IsScriptReport P proc c s u
is_listed P proc c g q s u e few is decides a b =
    let same : q ≡ script_for P proc c = is ∙ ap script_of e in
    let text : u ≡ smt_text P proc c = b ∙ ap script_text same in
    rw (a, text) (listed (subst (λ k. k ≤ most_asserted) (ap assertion_count e) few)
    (subst (λ o. DecidesCondition P c o) same decides))

pub is_too_long : (P : Program) (proc : Procedure) (c : Condition) (g : Problem) (span : Span) (count : ℕ) (s : Status)
    (u : List ℕ) → g ≡ problem (symbolic_of P proc c)
    → count ≡ assertion_count g → most_asserted < count → span ≡ proc.name.span → s ≡ TextRefused
    → u ≡ line (codes "refused: Limit script at " ++ place_text span ++ codes ", count " ++ decimal count)
    → IsScriptReport P proc c s u
is_too_long P proc c g span count s u e counted many at a b =
    let count_is : count ≡ asserted_count P proc c = counted ∙ ap assertion_count e in
    let text : u ≡ too_long_text P proc c =
    b ∙ ap (λ t. line (codes "refused: Limit script at " ++ place_text t ++ codes ", count " ++ decimal count)) at
    ∙ ap (λ k. line (codes "refused: Limit script at " ++ place_text proc.name.span ++ codes ", count " ++ decimal k))
    count_is in
    rw (a, text) (too_long (subst (λ k. most_asserted < k) count_is many))

reported : (P : Program) (n : ℕ) (proc : Procedure) (c : Condition) (s : Status) (u : List ℕ) → IsConditionAt P n c
    → IsOf P c proc → IsScriptReport P proc c s u
    → (file : List ℕ) → Replies (Smt file n) P s u
reported P n proc c s u at of (listed few decides) file words files asks = smt_listed proc c asks at of few decides
reported P n proc c s u at of (too_long many) file words files asks = smt_too_long proc c asks at of many

pub script_replies : (P : Program) (n : ℕ) (r : kept.Condition) (s : Status) (u : List ℕ) → IsNumbered P n (Some r)
    → ReportsScript P r s u → (file : List ℕ) → Replies (Smt file n) P s u
script_replies P n r s u at told =
    let is = placed P (n - 1) (condition_of r) at.1 in
    reported P n is.procedure (condition_of r) s u at is.of (told is.procedure is.of)

pub none_replies : (P : Program) (n m : ℕ) (s : Status) (u : List ℕ) → 1 ≤ n → IsNumbered P n None
    → m ≡ length (conditions P) → s ≡ LogRefused
    → u ≡ line (codes "refused: no condition " ++ decimal n ++ codes " of " ++ decimal m) → (file : List ℕ)
    → Replies (Smt file n) P s u
none_replies P n m s u some (inl none) e a b file words files asks = absurd (omega (arith, some, none))
none_replies P n m s u some (inr past) e a b file words files asks =
    let text : u ≡ unnumbered_text P n =
    b ∙ ap (λ k. line (codes "refused: no condition " ++ decimal n ++ codes " of " ++ decimal k)) e in
    rw (a, text) (smt_no_condition asks past)
