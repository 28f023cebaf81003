use Rattle.std.proofs.Common.{refl, sym, inl, inr}
use Rattle.gh_picture.specs.Placing.{spot_on}
use Rattle.gh_picture.proofs.PlacingLemmas.{begun, closes, goes_on, ends, placed_kept, free_of, stands_of, start_stands}
use Rattle.gh_picture.proofs.PlacingLemmas.{line_stays, line_closes, inside}
use Rattle.gh_picture.proofs.layout.place_line.Goals as goal

pub loop-spots-init : goal.loop-spots-init
loop-spots-init c = record {
  begun = begun c.args.cells.now c.args.spots.now c.args.line c.args.from c.requires.lines c.requires.within;
  kept = λ i s h. h;
  from = inl refl;
  begins = λ free. inl (refl, refl, free);
}

pub loop-spots-preserved : goal.loop-spots-preserved
loop-spots-preserved c =
    let b = c.loop-spots.spots in
    let at = c.loop-spots.at in
    let inv = c.loop-spots.invariant in
    let free = free_of (spot_on b at) c.loop-spots-test.ensures in record {
      begun =
          goes_on c.args.cells.now b c.args.line c.loop-spots.column at c.in-Some.next inv.begun free
          (sym c.in-Some.ensures.number) c.in-Some.ensures.within;
      kept = λ i s h. placed_kept b c.args.line c.loop-spots.column at free i s (inv.kept i s h);
      from =
          inr
          (start_stands b c.args.line c.loop-spots.column at c.args.from
          (inside c.args.cells.now b c.args.line c.loop-spots.column at inv.begun) free inv.from);
      begins = λ first. inr (line_stays b c.args.line c.loop-spots.column at c.args.from
          (inside c.args.cells.now b c.args.line c.loop-spots.column at inv.begun) free (inv.begins first));
    }

pub returns-in-None-clause-lines : goal.returns-in-None-clause-lines
returns-in-None-clause-lines c =
    let b = c.loop-spots.spots in
    let at = c.loop-spots.at in
    ends c.args.cells.now b c.args.line c.loop-spots.column at c.loop-spots.invariant.begun
    (free_of (spot_on b at) c.loop-spots-test.ensures) (sym c.in-None.ensures.number)

pub returns-clause-lines : goal.returns-clause-lines
returns-clause-lines c =
    let b = c.loop-spots.spots in
    let at = c.loop-spots.at in
    let (t, stands) = stands_of (spot_on b at) c.loop-spots-test.ensures in
    closes c.args.cells.now b c.args.line c.loop-spots.column at t c.loop-spots.invariant.begun stands

pub returns-in-None-clause-begins : goal.returns-in-None-clause-begins
returns-in-None-clause-begins c first =
    let b = c.loop-spots.spots in
    let at = c.loop-spots.at in
    let inv = c.loop-spots.invariant in
    line_stays b c.args.line c.loop-spots.column at c.args.from
    (inside c.args.cells.now b c.args.line c.loop-spots.column at inv.begun)
    (free_of (spot_on b at) c.loop-spots-test.ensures) (inv.begins first)

pub returns-clause-begins : goal.returns-clause-begins
returns-clause-begins c first =
    let b = c.loop-spots.spots in
    let at = c.loop-spots.at in
    let (t, stands) = stands_of (spot_on b at) c.loop-spots-test.ensures in
    line_closes b c.args.line c.loop-spots.column at c.args.from t stands (c.loop-spots.invariant.begins first)
