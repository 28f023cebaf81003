use Rattle.std.proofs.Common.{◌≡◌, ◌∙◌, ap, length}
use Rattle.gh_ast.specs.Plain.{program_of}
use Rattle.gh_path.specs.Conditions.{conditions}
use Rattle.gh_trace.specs.Validity.{ListedAreValid}
use Rattle.gh_top.specs.Checks.{IsProgramVerdict}
use Rattle.gh_top.proofs.HeadlineLemmas.{both_ok}
use Rattle.gh_top.proofs.SessionLemmas.{is_verified, is_refuted}
use Rattle.gh_top.proofs.verdict.verdict.Goals as goal

pub refuted-requires : goal.refuted-requires
refuted-requires c = record { first = (rw c.in-Some.is at c.requires).outcome }

pub returns-in-Some : goal.returns-in-Some
returns-in-Some c =
    let P = program_of c.args.admitted.now in
    both_ok c.refuted.result _ _ (λ r. IsProgramVerdict P r.status r.text) c.refuted.ensures.status
    c.refuted.ensures.text (λ r s t. is_refuted P r.status r.text s t)

pub returns-in_ok-verified_line-in-None : goal.returns-in_ok-verified_line-in-None
returns-in_ok-verified_line-in-None c =
    let P = program_of c.args.admitted.now in
    let valid : ListedAreValid P = (rw c.in-None.is at c.requires).outcome in
    let count : c.count-count.result ≡ length (conditions P) =
    c.count-count.ensures ∙ ap (λ proc. length (conditions (program_of proc))) c.conditions.ensures in
    is_verified P c.count-count.result _ _ valid count c.verified.ensures.status
    (c.verified.ensures.text ∙ c.in_ok-verified_line-in-None.ensures)
