use Rattle.std.proofs.Common.{◌≡◌, ◌∙◌, ◌<◌, ℕ, List, length, refl, sym, ap}
use Rattle.std.specs.Prelude.{Option, Some, None}
use Rattle.std.proofs.lemmas.Result.{IfOk-weaker}
use Rattle.gh_ast.specs.Plain.{program_of}
use Rattle.gh_top.specs.Runs.{most_stated}
use Rattle.gh_top.specs.Files.{Shows}
use Rattle.gh_top.specs.Replies.{RepliesOn}
use Rattle.gh_top.specs.declared.words.Request.TheVariants.{Run}
use Rattle.gh_top.proofs.HeadlineLemmas.{both_ok}
use Rattle.gh_top.proofs.RunLemmas.{state_absent, state_long}
use Rattle.gh_top.proofs.simulate.simulate.Goals as goal

pub returns-in-Absent : goal.returns-in-Absent
returns-in-Absent c =
    let P = program_of c.args.admitted.now in
    both_ok c.refused.result _ _
    (λ r. (bytes : Option (List ℕ)) → Shows most_stated bytes c.args.state.now → (file name : List ℕ)
    → RepliesOn (Run file name c.args.number) P bytes r.status r.text) c.refused.ensures.status
    c.refused.ensures.text
    (λ r s t bytes shows. let none : bytes ≡ None = rw c.in-Absent.is at shows in
    state_absent P bytes r.status r.text c.args.number none s t)

pub returns-in-TooLong : goal.returns-in-TooLong
returns-in-TooLong c =
    let P = program_of c.args.admitted.now in
    both_ok c.refused-in-TooLong.result _ _
    (λ r. (bytes : Option (List ℕ)) → Shows most_stated bytes c.args.state.now → (file name : List ℕ)
    → RepliesOn (Run file name c.args.number) P bytes r.status r.text) c.refused-in-TooLong.ensures.status
    c.refused-in-TooLong.ensures.text
    (λ r s t bytes shows. let long : (text : List ℕ) × (bytes ≡ Some text)
    × (most_stated < length text) = rw c.in-TooLong.is at shows in
    state_long most_stated P bytes r.status r.text c.args.number refl long s t)

pub returns-in-Whole : goal.returns-in-Whole
returns-in-Whole c =
    IfOk-weaker c.state_file_report.result _ _
    (λ r k bytes shows file name words files asks held. let is : bytes
    ≡ Some c.in-Whole.text = rw c.in-Whole.is at shows in
    k file name words files asks (held ∙ is ∙ ap Some (sym c.bytes.ensures))) c.state_file_report.ensures
