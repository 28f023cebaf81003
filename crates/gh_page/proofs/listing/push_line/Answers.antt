use Rattle.std.proofs.Common.{Some, subst}
use Rattle.gh_ast.specs.Plain.{program_of}
use Rattle.gh_path.specs.Answers.{IsNumbered}
use Rattle.gh_path.proofs.Numbers.{one_is_scoped}
use Rattle.gh_trace.proofs.FirstRefuted.{numbered_one}
use Rattle.gh_page.proofs.Lines.{line_added}
use Rattle.gh_page.proofs.listing.push_line.Goals as goal

pub describe-requires : goal.describe-requires
describe-requires c =
    let P = program_of c.args.typed.now in
    let r = c.in-Some.condition in
    let found : IsNumbered P c.args.number (Some r) =
    subst (λ Q. IsNumbered Q c.args.number (Some r)) c.requires.same
    (subst (λ o. IsNumbered (program_of c.args.conditions.now) c.args.number o) c.in-Some.is c.in_ok-condition.ensures) in
    one_is_scoped P r c.requires.admitted.typed (numbered_one P c.args.number r found)

pub returns : goal.returns
returns c =
    let P = program_of c.args.typed.now in
    let r = c.in-Some.condition in
    let found : IsNumbered P c.args.number (Some r) =
    subst (λ Q. IsNumbered Q c.args.number (Some r)) c.requires.same
    (subst (λ o. IsNumbered (program_of c.args.conditions.now) c.args.number o) c.in-Some.is c.in_ok-condition.ensures) in
    line_added P c.args.number r c.in_ok-finding.finding c.args.lines.now c.push_found.new.text
    c.in_ok-description.description found c.in_ok-finding.ensures c.in_ok-description.ensures c.in_ok-push_found.ensures
