-- Questions as they are kept.
use Rattle.std.specs.Prelude.{◌≡◌, ◌<◌, ◌≤◌, ⊤, List, Option, Some, None, map}
use Rattle.gh_base.specs.declared.term.TermKind.{TermKind}
use Rattle.gh_ast.specs.Plain.{Assertion}
use Rattle.gh_ast.specs.Questions.{Claim, Claims, Question}
use Rattle.gh_path.specs.Admitted.{most_terms}
use Rattle.gh_grass.specs.declared.binding.Bond.{Bond}
use Rattle.gh_grass.specs.Claims.{GroundFormula}
use Rattle.gh_symb.specs.Symbolic.{Under}
use Rattle.gh_symb.specs.Formulas.{meets, meets_whole}
use Rattle.gh_symb.specs.Encodings.{plain_kind, IsBinding}
use Rattle.gh_symb.specs.Inside.{binding_of}
use Rattle.gh_entail.specs.Rules.{IsTyped, IsFirstBroken}
use Rattle.gh_entail.specs.Limits.{KeepsLimits, IsLimit, count_terms}
use Rattle.gh_entail.specs.Terms.{question_walked}
use Rattle.gh_entail.specs.Formulas.{claim_formula, claim_formulas}
use Rattle.gh_entail.specs.declared.terms.QuestionTerms.{QuestionTerms}
use Rattle.gh_entail.specs.declared.admit.AskError.{AskError}
use Rattle.gh_entail.specs.declared.admit.AskError.TheVariants as ask

-- an assertion under the terms of the variables, in version 0
abbrev pub under_at : List Bond → Assertion → Under
under_at bonds f = record { assertion = f; binding = binding_of bonds; version = 0 }

-- over terms and bonds as they are kept: that some part of the heap meets an assertion, and that the whole heap does
abbrev pub meets_over : List TermKind → List Bond → Assertion → GroundFormula
meets_over terms bonds f = meets (map plain_kind terms) (under_at bonds f)

abbrev pub meets_whole_over : List TermKind → List Bond → Assertion → GroundFormula
meets_whole_over terms bonds f = meets_whole (map plain_kind terms) (under_at bonds f)

-- and the formulas of claims
abbrev pub claim_over : List TermKind → List Bond → Claim → GroundFormula
claim_over terms bonds c = claim_formula (map plain_kind terms) (binding_of bonds) c

abbrev pub claims_over : List TermKind → List Bond → Claims → List GroundFormula
claims_over terms bonds cs = claim_formulas (map plain_kind terms) (binding_of bonds) cs

-- the terms and the bindings of a question
pub record AreTerms (q : Question) (t : QuestionTerms) : Type 0 where
  pub terms : map plain_kind t.terms ≡ (question_walked q).kinds
  pub binding : IsBinding t.binding (question_walked q).bindings

-- no terms: there are more than the limit; else they are the question's
abbrev pub AreTermsInLimit : Question → Option QuestionTerms → Type 0
AreTermsInLimit q None = most_terms < count_terms q
AreTermsInLimit q (Some t) = AreTerms q t × (count_terms q ≤ most_terms)

-- the question breaks no rule and passes no limit
pub record IsAdmitted (q : Question) : Type 0 where
  pub typed : IsTyped q
  pub limits : KeepsLimits q

-- the cause of a refusal: the first of all broken rules; where none is broken, the limit that is passed; memory may run
-- out at any time
abbrev pub IsAskRefusal : Question → AskError → Type 0
IsAskRefusal q (ask.TypeError number span) = IsFirstBroken q number span
IsAskRefusal q (ask.Limit limit) = IsTyped q × IsLimit q limit
IsAskRefusal q ask.OutOfMemory = ⊤
