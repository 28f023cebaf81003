use Rattle.std.proofs.Common.{◌*◌, arith}
use Rattle.gh_base.proofs.NumberLemmas.{row_below}
use Rattle.gh_base.proofs.sizes.Sizes.btwn_at.Goals as goal

pub overflow_cast-result : goal.overflow_cast-result
overflow_cast-result c =
    let s = c.args.self in
    let in_third = row_below _ _ _ (s.versions * s.terms * s.terms) _ c.row_at-row.ensures c.requires in
    let in_second = row_below _ _ _ (s.versions * s.terms) _ c.row_at-row-2.ensures in_third in
    let in_first = row_below _ _ _ s.versions _ c.row_at-row-3.ensures in_second in
    omega arith

pub returns-clause-in_range : goal.returns-clause-in_range
returns-clause-in_range c =
    let s = c.args.self in
    let in_third = row_below _ _ _ (s.versions * s.terms * s.terms) _ c.row_at-row.ensures c.requires in
    let in_second = row_below _ _ _ (s.versions * s.terms) _ c.row_at-row-2.ensures in_third in (
      row_below _ _ _ s.versions _ c.row_at-row-3.ensures in_second,
      c.row_at-row-3.ensures.within,
      c.row_at-row-2.ensures.within,
      c.row_at-row.ensures.within,
    )
