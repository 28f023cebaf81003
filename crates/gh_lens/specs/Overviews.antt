-- The lines that tell of all conditions of a program.
use Rattle.std.specs.Prelude.{◌≡◌, ℕ, List, [], ◌++◌, Bool, true, false, ◌==◌, length, filter, codes}
use Rattle.std.specs.List.{flat_map}
use Rattle.std.specs.Fmt.{decimal}
use Rattle.gh_ast.specs.Plain.{Program}
use Rattle.gh_path.specs.Conditions.{conditions}
use Rattle.gh_draw.specs.Descriptions.{place_text}
use Rattle.gh_draw.specs.Drawings.{line}
use Rattle.gh_lens.specs.declared.judged.Finding.{Finding}
use Rattle.gh_lens.specs.declared.judged.Finding.TheVariants.{Valid, Refuted}
use Rattle.gh_lens.specs.declared.judged.Judged.{Judged}
use Rattle.gh_lens.specs.declared.remarks.Kind.{Kind}
use Rattle.gh_lens.specs.declared.remarks.Kind.TheVariants.{Requires, Ensures, Invariant}
use Rattle.gh_lens.specs.declared.remarks.Meeting.{Meeting}
use Rattle.gh_lens.specs.declared.remarks.Meeting.TheVariants.{Met, Unmet, Unknown}
use Rattle.gh_lens.specs.declared.remarks.Remark.{Remark}
use Rattle.gh_lens.specs.Judgements.{AreJudged}
use Rattle.gh_lens.specs.Assertions.{subjects, AreRemarks}

-- the order in which one should look: 0, refuted entries and loop ends; 1, what else is refuted; 2, what is valid
abbrev pub rank_of : Finding → Bool → ℕ
rank_of Refuted true = 0
rank_of Refuted false = 1
rank_of Valid b = 2

abbrev pub rank : Judged → ℕ
rank j = rank_of j.finding j.is_ground_work

-- the conditions of a rank, in the order of their numbers
abbrev pub of_rank : ℕ → List Judged → List Judged
of_rank n js = filter (λ j. rank j == n) js

abbrev pub in_order : List Judged → List Judged
in_order js = of_rank 0 js ++ of_rank 1 js ++ of_rank 2 js

abbrev pub finding_text : Finding → List ℕ
finding_text Valid = codes "valid: "
finding_text Refuted = codes "refuted: "

abbrev pub judged_line : Judged → List ℕ
judged_line j = line (finding_text j.finding ++ codes "condition " ++ decimal j.number ++ codes ", " ++ j.description)

abbrev pub judged_lines : List Judged → List ℕ
judged_lines js = flat_map judged_line js

abbrev pub kind_text : Kind → List ℕ
kind_text Requires = codes "requires"
kind_text Ensures = codes "ensures"
kind_text Invariant = codes "invariant"

abbrev pub subject_text : Remark → List ℕ
subject_text r = kind_text r.kind ++ codes " of " ++ r.procedure ++ codes " at " ++ place_text r.place

-- a line for what no heap meets, and for what isn't known
abbrev pub meeting_text : Meeting → Remark → List ℕ
meeting_text Met r = []
meeting_text Unmet r = line (codes "no heap meets: " ++ subject_text r)
meeting_text Unknown r = line (codes "not known to be met: " ++ subject_text r)

-- a line for an invariant that is just `emp`
abbrev pub bare_text : Kind → Bool → Remark → List ℕ
bare_text Invariant true r = line (codes "no cells: " ++ subject_text r)
bare_text Invariant false r = []
bare_text Requires b r = []
bare_text Ensures b r = []

abbrev pub remark_text : Remark → List ℕ
remark_text r = meeting_text r.meeting r ++ bare_text r.kind r.is_bare r

abbrev pub remark_lines : List Remark → List ℕ
remark_lines rs = flat_map remark_text rs

abbrev pub is_refuted_finding : Finding → Bool
is_refuted_finding Refuted = true
is_refuted_finding Valid = false

abbrev pub is_refuted : Judged → Bool
is_refuted j = is_refuted_finding j.finding

abbrev pub refuted_count : List Judged → ℕ
refuted_count js = length (filter is_refuted js)

abbrev pub count_line : List Judged → List ℕ
count_line js =
    line (decimal (length js) ++ codes " conditions: " ++ decimal (refuted_count js) ++ codes " refuted, "
    ++ decimal (length (of_rank 2 js)) ++ codes " valid")

abbrev pub overview_text : List Remark → List Judged → List ℕ
overview_text rs js = remark_lines rs ++ judged_lines (in_order js) ++ count_line js

-- the text tells what is found of all contracts, invariants and conditions of the program
pub record IsOverview (P : Program) (refuted : ℕ) (text : List ℕ) : Type 0 where
  pub remarks : List Remark
  pub judged : List Judged
  pub are_remarks : AreRemarks (subjects P) remarks
  pub are_judged : AreJudged P 1 (conditions P) judged
  pub refuted_is : refuted ≡ refuted_count judged
  pub text_is : text ≡ overview_text remarks judged
