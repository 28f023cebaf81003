use Rattle.std.proofs.Common.{arith}
use Rattle.gh_base.proofs.NumberLemmas.{eq_below, btwn_below, hop_below}
use Rattle.gh_base.proofs.sizes.Sizes.number.Goals as goal

pub returns-in-Eq-clause-below : goal.returns-in-Eq-clause-below
returns-in-Eq-clause-below c =
    let here = rw c.in-Eq.is at c.requires in
    rw c.pairs.ensures.value (omega (arith, eq_below c.args.self c.in-Eq.a c.in-Eq.b here))

pub returns-in-Btwn-clause-below : goal.returns-in-Btwn-clause-below
returns-in-Btwn-clause-below c =
    let here = rw c.in-Btwn.is at c.requires in
    rw (
      c.btwn_start.ensures.value,
      c.place_in-in-Btwn.ensures.value,
      c.place_in.ensures.value,
      c.place_in-row.ensures.value,
    )
    (omega (arith, btwn_below c.args.self c.in-Btwn.version c.in-Btwn.x c.in-Btwn.y c.in-Btwn.z here))

pub returns-in-Hop-clause-below : goal.returns-in-Hop-clause-below
returns-in-Hop-clause-below c =
    let here = rw c.in-Hop.is at c.requires in
    rw (c.hop_start.ensures.value, c.place_in-in-Hop-2.ensures.value, c.place_in-in-Hop.ensures.value)
    (omega (arith, hop_below c.args.self c.in-Hop.version c.in-Hop.x c.in-Hop.v here))
