use Rattle.std.proofs.Common.{◌≡◌, ◌-◌, ◌+◌, ◌∙◌, sym, Some, option_map, arith}
use Rattle.gh_inst.specs.Table.{table, row_with}
use Rattle.gh_inst.proofs.InstanceLemmas.{turn, within_row, past_row}
use Rattle.gh_inst.proofs.instances.name_at_place.Goals as goal

pub returns-then-rest-all : goal.returns-then-rest-all
returns-then-rest-all c =
    let a = c.args in
    let l = c.loop-row in
    let is : Some c.in_ok-variables.variables ≡ option_map (λ r. r.variables) (row_with l.row table) =
    sym (c.in_ok-variables.was {u = tt}) ∙ c.variables_numbered.ensures in
    let t = turn l.row c.in_ok-variables.variables (omega arith) (omega arith) is in
    let here =
    within_row a.terms a.versions l.row c.in_ok-variables.variables c.tuple_count-count.result l.rest t.0 t.1
    c.tuple_count-count.ensures c.if-rest-all.true in
    let found = c.name_in_row.ensures t.0 t.1.number_is t.1.variables_are in
    sym (sym l.invariant ∙ here ∙ found)

pub loop-row-preserved : goal.loop-row-preserved
loop-row-preserved c =
    let a = c.args in
    let l = c.loop-row in
    let is : Some c.in_ok-variables.variables ≡ option_map (λ r. r.variables) (row_with l.row table) =
    sym (c.in_ok-variables.was {u = tt}) ∙ c.variables_numbered.ensures in
    let t = turn l.row c.in_ok-variables.variables (omega arith) (omega arith) is in
    let past =
    past_row a.terms a.versions l.row c.in_ok-variables.variables c.tuple_count-count.result l.rest t.0 t.1
    c.tuple_count-count.ensures (omega (arith, c.if-rest-all.false)) in
    let same : l.row + 1 - 1 ≡ l.row = omega arith in
    rw same (sym past ∙ l.invariant)
