use Rattle.std.proofs.Common.{◌≡◌, ◌∙◌, ap, subst, length, List, ℕ}
use Rattle.std.specs.Prelude.{IfNone}
use Rattle.gh_ast.specs.Plain.{program_of}
use Rattle.gh_path.specs.Conditions.{conditions}
use Rattle.gh_trace.specs.Refuted.{ShowsFirst}
use Rattle.gh_trace.specs.Validity.{ListedAreValid}
use Rattle.gh_top.specs.Replies.{Replies}
use Rattle.gh_top.specs.declared.words.Request.TheVariants.{Smallest}
use Rattle.gh_top.proofs.HeadlineLemmas.{both_ok}
use Rattle.gh_top.proofs.SmallestLemmas.{smallest_valid, smallest_fails}
use Rattle.gh_top.proofs.smallest.smallest.Goals.{in-None+in_ok-verified_line-in-None, in-Some}
use Rattle.gh_top.proofs.smallest.smallest.Goals as goal

pub returns : goal.returns
returns c =
    let P = program_of c.args.admitted.now in
    elim c.match-branch-2.branch [
      | in-None+in_ok-verified_line-in-None w ↦
          let valid : ListedAreValid P = subst (λ proc. ListedAreValid (program_of proc)) c.typed.ensures.same
          (subst (λ o. IfNone o (ListedAreValid (program_of c.typed.result.now))) w.in-None.is
          c.in_ok-first_refuted.ensures.none) in
          let count : w.count.result ≡ length (conditions P) =
          w.count.ensures ∙ ap (λ proc. length (conditions (program_of proc))) c.conditions-conditions.ensures in
          rw w.result-is (smallest_valid P w.count.result _ _ valid count w.verified.ensures.status
          (w.verified.ensures.text ∙ w.in_ok-verified_line-in-None.ensures))
      | in-Some w ↦ rw w.result-is
          (both_ok w.refuted.result _ _ (λ r. (file : List ℕ) → Replies (Smallest file) P r.status r.text)
          w.refuted.ensures.status w.refuted.ensures.text (λ r s t. smallest_fails P r.status r.text s t))
    ]

pub refuted-requires : goal.refuted-requires
refuted-requires c =
    let P = program_of c.args.admitted.now in
    let first : ShowsFirst P c.in-Some.field-0.number c.in-Some.field-0.trace =
    rw (c.in-Some.is, c.typed.ensures.same) at c.in_ok-first_refuted.ensures.first in
    (c.in-Some.field-0.trace, first)
