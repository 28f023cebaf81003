use Rattle.std.proofs.Common.{◌∙◌}
use Rattle.gh_ast.specs.Plain.{procedure_of}
use Rattle.gh_session.specs.Essences as plain
use Rattle.gh_session.proofs.Finding.{at_some, at_none, bare_contract}
use Rattle.gh_session.proofs.essence.contract_at.Goals as goal

pub returns-in_ok-contract_of-in-Some : goal.returns-in_ok-contract_of-in-Some
returns-in_ok-contract_of-in-Some c =
    let found = c.in-Some.ensures.lookup in
    c.in_ok-contract_of-in-Some.ensures
    ∙ at_some plain.contract_of procedure_of c.args.procedures.now c.from.result c.args.number c.in-Some.procedure.now
    plain.no_contract c.from.ensures found.3.0 found.1

pub returns-in-None : goal.returns-in-None
returns-in-None c =
    bare_contract c.new.result.items c.new-in-None.result.items c.new-in-None-2.result.items c.new.ensures.items
    c.new-in-None.ensures.items c.new-in-None-2.ensures.items
    ∙ at_none plain.contract_of procedure_of c.args.procedures.now c.from.result c.args.number plain.no_contract
    c.from.ensures c.in-None.ensures.lookup.3
