use Rattle.std.proofs.Common.{◌≡◌, ◌+◌, ◌-◌, arith}
use Rattle.gh_path.proofs.LowerLemmas.{reads_more, reads_whole}
use Rattle.gh_path.proofs.lowering.Lowering.lower_reads.Goals as goal

pub loop-left-preserved : goal.loop-left-preserved
loop-left-preserved c =
    let one : c.loop-left.left - 1 + 1 ≡ c.loop-left.left = omega arith in
    record {
      within = omega arith;
      grows = (
        omega (arith, c.loop-left.invariant.grows.0, c.in_ok-place.ensures.grows.0),
        c.in_ok-place.ensures.grows.1,
      );
      adds = λ g shows.
          reads_more c.args.nodes.now c.loop-left.nodes c.lower_read.new.nodes c.args.exprs.now c.loop-left.left
          (c.loop-left.left - 1) c.index-exprs-left.result c.loop-left.place c.in_ok-place.place g
          one (omega arith) c.index-exprs-left.is (c.loop-left.invariant.adds g shows) c.in_ok-place.ensures.adds;
    }

pub returns-clause-adds : goal.returns-clause-adds
returns-clause-adds c = λ g shows.
    let none : c.loop-left.left ≡ 0 = omega arith in
    reads_whole c.args.nodes.now c.loop-left.nodes c.args.exprs.now c.loop-left.left c.loop-left.place g none
    (c.loop-left.invariant.adds g shows)
