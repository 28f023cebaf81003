use Rattle.std.proofs.Common.{◌∙◌, ap, sym, Some, option_map, take}
use Rattle.gh_inst.specs.Instances.{name_of}
use Rattle.gh_inst.proofs.ViolationLemmas.{name_found}
use Rattle.gh_inst.proofs.violation.first_in_version.Goals as goal

pub returns-in_err-terms : goal.returns-in_err-terms
returns-in_err-terms c =
    let a = c.args in
    let v = c.variables-variables.result in
    name_found a.structure.now a.number a.version v a.row.now _ c.first_tuple.result _ c.requires.row
    c.lits.ensures.list c.variables-variables.ensures c.first_tuple.ensures
    (ap (λ r. option_map (name_of a.number a.version) (option_map (take v) r)) (c.in_err-terms.was {u = tt})
    ∙ sym c.from_residual.ensures)

pub returns : goal.returns
returns c =
    let a = c.args in
    let v = c.variables-variables.result in
    name_found a.structure.now a.number a.version v a.row.now _ c.first_tuple.result _ c.requires.row
    c.lits.ensures.list c.variables-variables.ensures c.first_tuple.ensures
    (ap (λ r. option_map (name_of a.number a.version) (option_map (take v) r)) (c.in_ok-terms.was {u = tt})
    ∙ ap Some (sym c.name_of_terms.ensures))
