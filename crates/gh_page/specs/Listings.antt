-- The lines of some conditions.
use Rattle.std.specs.Prelude.{◌≡◌, ℕ, zero, suc, ◌+◌, ◌-◌, min, List, [], ◌++◌, length, codes}
use Rattle.std.specs.Fmt.{decimal}
use Rattle.gh_ast.specs.Plain.{Program}
use Rattle.gh_draw.specs.Descriptions.{description}
use Rattle.gh_draw.specs.Drawings.{line}
use Rattle.gh_lens.specs.Judgements.{IsFinding}
use Rattle.gh_lens.specs.Overviews.{finding_text}
use Rattle.gh_lens.specs.declared.judged.Finding.{Finding}
use Rattle.gh_path.specs.Conditions.{Condition, conditions, IsConditionAt}
use Rattle.gh_top.specs.declared.status.Status.TheVariants.{Listed}
use Rattle.gh_page.specs.Fronts.{IsReplyOn}
use Rattle.gh_page.specs.declared.reply.Reply.{Reply}

-- `valid: condition N, DESCRIPTION` where the condition is valid, `refuted: ..` where it has a counterexample: the line of
-- `lens all`
abbrev pub condition_line : Finding → ℕ → List ℕ → List ℕ
condition_line f n description = line (finding_text f ++ codes "condition " ++ decimal n ++ codes ", " ++ description)

-- the line of the condition of a number
pub record IsLine (P : Program) (n : ℕ) (text : List ℕ) : Type 0 where
  pub condition : Condition
  pub at : IsConditionAt P n condition
  pub finding : Finding
  pub found : IsFinding P condition finding
  pub text_is : text ≡ condition_line finding n (description P condition)

-- the line of the condition of a number is added
pub record AddsLine (P : Program) (n : ℕ) (old new : List ℕ) : Type 0 where
  pub one : List ℕ
  pub is : IsLine P n one
  pub added : new ≡ old ++ one

-- the lines of k conditions after the first `skip`
abbrev pub AreLines : Program → ℕ → ℕ → List ℕ → Type 0
AreLines P skip zero text = text ≡ []
AreLines P skip (suc k) text = (before : List ℕ) × AreLines P skip k before × AddsLine P (skip + k + 1) before text

-- those after the first `skip`, of `most` at most
abbrev pub IsListing : Program → ℕ → ℕ → List ℕ → Type 0
IsListing P skip most text = AreLines P skip (min (length (conditions P) - skip) most) text

-- the reply lists them, and counts all conditions
pub record IsListed (skip most : ℕ) (P : Program) (r : Reply) : Type 0 where
  pub status : r.status ≡ Listed
  pub count : r.count ≡ length (conditions P)
  pub lines : IsListing P skip most r.text

-- the same for the program of a text; or why the text is refused
abbrev pub IsListingOf : List ℕ → ℕ → ℕ → Reply → Type 0
IsListingOf text skip most r = IsReplyOn text (IsListed skip most) r
