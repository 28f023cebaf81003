use Rattle.gh_ast.specs.Plain.{program_of}
use Rattle.gh_decide.specs.Verdicts.{IsVerdict}
use Rattle.gh_decide.specs.declared.decide.Verdict.TheVariants.{Refuted}
use Rattle.gh_page.proofs.listing.find_out.Goals as goal

pub returns : goal.returns
returns c =
    let told : IsVerdict (program_of c.args.typed.now) c.args.condition.now (Refuted c.in-Refuted.field-0) =
    rw c.in-Refuted.is at c.in_ok-decide_with.ensures in
    (c.in-Refuted.field-0, told)
