use Rattle.std.proofs.Common.{◌∙◌, ap, filter}
use Rattle.gh_ast.specs.Plain.{statements_view}
use Rattle.gh_path.specs.Terms.{some_assigns}
use Rattle.gh_path.specs.Walking.{loop_of}
use Rattle.gh_session.specs.Essences as plain
use Rattle.gh_session.proofs.Finding.{at_some, at_none, bare_round}
use Rattle.gh_session.proofs.Assembling.{made_round}
use Rattle.gh_session.proofs.essence.round_at.Goals as goal

pub returns-in_ok-assigned-in-Some : goal.returns-in_ok-assigned-in-Some
returns-in_ok-assigned-in-Some c =
    let found = c.in-Some.ensures.lookup in
    made_round c.in_ok-assertion-in-Some.field-0 c.in_ok-assigned-in-Some.field-0 c.args.variables.now
    c.in-Some.round.now c.in_ok-assertion-in-Some.ensures
    (c.in_ok-assigned-in-Some.ensures
    ∙ ap (λ b. filter (some_assigns (statements_view b)) c.args.variables.now) c.as_slice.ensures.value)
    ∙ at_some (plain.loop_contract_of c.args.variables.now) loop_of c.args.loops.now c.from.result c.args.number
    c.in-Some.round.now plain.no_loop_contract c.from.ensures found.3.0 found.1

pub returns-in-None : goal.returns-in-None
returns-in-None c =
    bare_round c.new.result.items c.new.ensures.items
    ∙ at_none (plain.loop_contract_of c.args.variables.now) loop_of c.args.loops.now c.from.result c.args.number
    plain.no_loop_contract c.from.ensures c.in-None.ensures.lookup.3
