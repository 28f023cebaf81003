use Rattle.std.proofs.Common.{◌++◌, refl, get_or, arith}
use Rattle.gh_ast.specs.Programs.{names}
use Rattle.gh_trace.specs.Targets.{entries_of}
use Rattle.gh_trace.proofs.Listings.{adds_more, adds_new, adds_all}
use Rattle.gh_trace.proofs.stores.add_all.Goals as goal

pub add-requires : goal.add-requires
add-requires c = record {
  new = adds_new (c.args.store.now ++ entries_of (names c.args.occurrences.now) c.args.values.now) c.loop-i.store
      c.args.occurrences.now c.args.values.now c.loop-i.i c.index-occurrences-i.result c.requires.distinct
      c.loop-i-test.true c.index-occurrences-i.is
      (omega (arith, c.loop-i-test.true, c.requires.count)) c.loop-i.invariant;
}

pub loop-i-preserved : goal.loop-i-preserved
loop-i-preserved c =
    adds_more (c.args.store.now ++ entries_of (names c.args.occurrences.now) c.args.values.now) c.loop-i.store
    c.add.new.self c.args.occurrences.now c.args.values.now c.loop-i.i c.index-occurrences-i.result
    (get_or c.args.values.now c.loop-i.i 0)
    c.loop-i-test.true c.index-occurrences-i.is (omega (arith, c.loop-i-test.true, c.requires.count)) refl
    c.in_ok-add.ensures.ok c.loop-i.invariant

pub returns : goal.returns
returns c =
    adds_all (c.args.store.now ++ entries_of (names c.args.occurrences.now) c.args.values.now) c.loop-i.store
    c.args.occurrences.now c.args.values.now c.loop-i.i c.loop-i-test.false c.loop-i.invariant
