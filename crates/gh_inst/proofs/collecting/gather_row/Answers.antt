use Rattle.std.proofs.Common.{◌≡◌, ◌∙◌, refl, sym, ap, subst, Some, option_map}
use Rattle.gh_base.specs.Structures.{interpretation_of}
use Rattle.gh_inst.specs.Table.{AxiomRow, row_with, table, row_of}
use Rattle.gh_inst.specs.Collecting.{Gathers, RowHolds, IsNamed}
use Rattle.gh_inst.proofs.InstanceLemmas.{some_same}
use Rattle.gh_inst.proofs.CollectingLemmas.{row_added}
use Rattle.gh_inst.proofs.FirstLemmas.{named_row}
use Rattle.gh_inst.proofs.collecting.gather_row.Goals as goal

pub returns-in_ok-gather-clause-gathers : goal.returns-in_ok-gather-clause-gathers
returns-in_ok-gather-clause-gathers c = λ r e.
    let a = c.args in
    let s = a.structure.now.sizes in
    let m = interpretation_of a.structure.now in
    let found : row_with a.number table ≡ Some (row_of a.number c.in-Some.row) =
    c.row_numbered.ensures ∙ ap (option_map (row_of a.number)) c.in-Some.is in
    let is : row_of a.number c.in-Some.row ≡ r = some_same _ _ (sym found ∙ e) in
    subst (λ (q : AxiomRow). Gathers s m a.found.now.items c.gather.new.found.items (RowHolds s m a.version q)) is
    (row_added s m a.found.now.items c.gather.new.found.items a.version c.variables.result c.lits.result.now
    (row_of a.number c.in-Some.row) found (sym c.variables.ensures) (sym c.lits.ensures.list)
    c.in_ok-gather.ensures.gathers.gathers)

pub returns-in_ok-gather-clause-named : goal.returns-in_ok-gather-clause-named
returns-in_ok-gather-clause-named c = λ r e.
    let a = c.args in
    let s = a.structure.now.sizes in
    let m = interpretation_of a.structure.now in
    let q : AxiomRow = row_of a.number c.in-Some.row in
    let found : row_with a.number table ≡ Some q =
    c.row_numbered.ensures ∙ ap (option_map (row_of a.number)) c.in-Some.is in
    let is : q ≡ r = some_same _ _ (sym found ∙ e) in
    subst (IsNamed s m a.version c.gather.new.found.items) is
    (named_row _ a.found.now.items c.gather.new.found.items c.in_ok-gather.ensures.gathers q found refl
    (sym c.variables.ensures) (sym c.lits.ensures.list))
