use Rattle.std.specs.Prelude.{List}
use Rattle.std.proofs.Common.{◌∙◌, ap, subst}
use Rattle.gh_assert.specs.declared.heap.Cell.{Cell}
use Rattle.gh_assert.specs.declared.store.Entry.{Entry}
use Rattle.gh_picture.specs.Spots.{order_of, AreInOrder, AreSpots}
use Rattle.gh_picture.specs.Rows.{cells_of, row_columns, row_groups, IsPast}
use Rattle.gh_picture.specs.declared.layout.Spot.{Spot}
use Rattle.gh_picture.proofs.RowLemmas.{same_cells}
use Rattle.gh_picture.proofs.rows.draw_row.Goals as goal

pub returns : goal.returns
returns c =
    let row = c.args.row.now in
    let cells = same_cells c.cells.result.now row.state.heap c.cells.ensures.entries in record {
      spots = c.in_ok-spots.spots.items;
      stand = subst (λ (cs : List Cell). AreSpots cs c.in_ok-spots.spots.items) cells c.in_ok-spots.ensures.lists;
      order =
          subst (λ (es : List Entry). AreInOrder (order_of (cells_of row.state.heap) es) c.in_ok-spots.spots.items)
          c.entries.ensures.same
          (subst (λ (cs : List Cell). AreInOrder (order_of cs c.entries.result.now) c.in_ok-spots.spots.items) cells
          c.in_ok-spots.ensures.order);
      past = subst (λ (ss : List Spot). IsPast c.args.top ss c.line_below.result) c.as_slice-2.ensures.value
          c.line_below.ensures;
      columns_are = c.row_columns.ensures ∙ ap (λ (ss : List Spot). row_columns row ss) c.as_slice-3.ensures.value;
      attributes = c.in_ok-attributes.ensures;
      groups = c.in_ok-groups.ensures ∙ ap (λ (ss : List Spot). row_groups row ss) c.as_slice.ensures.value;
    }
