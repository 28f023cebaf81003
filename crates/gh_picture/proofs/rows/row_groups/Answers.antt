use Rattle.std.specs.Prelude.{◌++◌, ◌∷◌, []}
use Rattle.std.proofs.Common.{◌∙◌, ap}
use Rattle.gh_picture.specs.Rows.{cell_groups, variable_groups}
use Rattle.gh_picture.specs.Shapes.{caption_group}
use Rattle.gh_picture.specs.declared.tree.Group.{Group}
use Rattle.gh_picture.proofs.RowLemmas.{same_cells, added, of_row, captions}
use Rattle.gh_picture.proofs.rows.row_groups.Goals as goal

pub returns : goal.returns
returns c =
    let row = c.args.row.now in
    let spots = c.args.spots.now in
    let cs = c.cells-cells.result.now in
    let es = c.entries-entries.result.now in
    let roles = c.as_slice.result.now in
    let changes = c.as_slice-2.result.now in
    let caption =
    captions c.bytes.result.now c.bytes-2.result.now row.statement row.note c.in_ok-caption_group.field-0
    c.in_ok-caption_group.ensures c.bytes.ensures c.bytes-2.ensures in
    added c.new-groups.result c.push.new.self c.push_cells.new.groups c.push_variables.new.groups
    (cell_groups roles cs spots 0 cs) (variable_groups changes cs spots es 0 es)
    (caption_group row.statement row.note)
    c.new-groups.ensures (c.in_ok-push.ensures ∙ ap (λ (g : Group). c.new-groups.result ++ g ∷ []) caption)
    c.in_ok-push_cells.ensures c.in_ok-push_variables.ensures ∙
    of_row row spots cs es roles changes (same_cells cs row.state.heap c.cells-cells.ensures.entries)
    c.entries-entries.ensures.same c.as_slice.ensures.value c.as_slice-2.ensures.value
