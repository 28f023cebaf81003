-- What a valid log shows.
use Rattle.std.specs.Prelude.{List, [], ◌∷◌, Contains}
use Rattle.std.proofs.Common.{subst, inl, inr}
use Rattle.gh_ast.specs.Plain.{Program}
use Rattle.gh_ast.specs.Rules.{IsTyped}
use Rattle.gh_ast.proofs.Lists.{member_cases, no_member}
use Rattle.gh_path.specs.Conditions.{Condition, conditions, IsCondition}
use Rattle.gh_path.proofs.Listed.{all_are_listed}
use Rattle.gh_trace.specs.Validity.{IsConditionValid}
use Rattle.gh_log.specs.Lines.{LogLine}
use Rattle.gh_decide.specs.Logs.{AreValidSections, IsSectionOf, ValidLogsShowValidity}
use Rattle.gh_decide.proofs.Parts.{section_shows}

all_shown : (P : Program) (cs : List Condition) (ss : List (List LogLine)) (c : Condition) → IsTyped P → IsCondition P c
    → AreValidSections P cs ss → Contains cs c → IsConditionValid P c
all_shown P [] ss c typed is valid i = absurd (no_member c i)
all_shown P (d ∷ ds) [] c typed is valid i = absurd valid
all_shown P (d ∷ ds) (s ∷ ss) c typed is valid i = elim (member_cases d ds c i) [
  | inl same ↦ section_shows P c s typed is (subst (λ e. IsSectionOf P e s) same valid.0)
  | inr more ↦ all_shown P ds ss c typed is valid.1 more
]

pub valid_logs_show_validity : ValidLogsShowValidity
valid_logs_show_validity P ss typed valid =
    λ c i. all_shown P (conditions P) ss c typed ((all_are_listed P c).0 i) valid i
