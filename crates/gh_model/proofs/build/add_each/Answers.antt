use Rattle.std.proofs.Common.{◌++◌}
use Rattle.gh_ast.specs.Programs.{names}
use Rattle.gh_model.specs.KeptTraces.{entries_under, store_in}
use Rattle.gh_model.proofs.building.Stores.{once_under, goes_new, goes_more, goes_all}
use Rattle.gh_model.proofs.build.add_each.Goals as goal

pub add-requires : goal.add-requires
add-requires c =
    let S = store_in c.args.structure.now c.args.binding.now in
    record {
      new = goes_new S (c.args.store.now ++ entries_under S (names c.args.occurrences.now)) c.loop-occurrence.store
          c.args.occurrences.now c.loop-occurrence.occurrence-index c.occurrence-item.result
          (once_under S c.args.store.now (names c.args.occurrences.now) c.requires.distinct) c.loop-occurrence-test.true
          c.occurrence-item.is c.loop-occurrence.invariant;
    }

pub loop-occurrence-preserved : goal.loop-occurrence-preserved
loop-occurrence-preserved c =
    let S = store_in c.args.structure.now c.args.binding.now in
    goes_more S (c.args.store.now ++ entries_under S (names c.args.occurrences.now)) c.loop-occurrence.store
    c.add.new.self c.args.occurrences.now c.loop-occurrence.occurrence-index c.occurrence-item.result
    c.value-value.result c.loop-occurrence-test.true c.occurrence-item.is c.value-value.ensures
    c.in_ok-add.ensures.ok c.loop-occurrence.invariant

pub returns : goal.returns
returns c =
    let S = store_in c.args.structure.now c.args.binding.now in
    goes_all S (c.args.store.now ++ entries_under S (names c.args.occurrences.now)) c.loop-occurrence.store
    c.args.occurrences.now c.loop-occurrence.occurrence-index c.loop-occurrence-test.false
    c.loop-occurrence.invariant
