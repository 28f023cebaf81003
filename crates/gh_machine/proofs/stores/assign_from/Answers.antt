use Rattle.std.proofs.Common.{sym, ◌∙◌, subst}
use Rattle.std.specs.Prelude.{Contains}
use Rattle.gh_assert.specs.Stores.{store_of, listed_names}
use Rattle.gh_machine.proofs.Begun.{name_there, given_from_more}
use Rattle.gh_machine.proofs.stores.assign_from.Goals as goal

pub set-requires : goal.set-requires
set-requires c =
    let o = c.index-targets-i.result in
    let there : Contains (listed_names c.args.store.now) o.name =
    c.requires.listed o.name (name_there c.args.targets.now c.loop-i.i o (sym c.index-targets-i.is)
    c.loop-i-test.true) in
    record { there = subst (λ ns. Contains ns o.name) (sym c.loop-i.invariant.1) there }

pub loop-i-preserved : goal.loop-i-preserved
loop-i-preserved c = (
  given_from_more (store_of c.args.store.now) c.loop-i.store c.set.new.self (store_of c.args.from.now)
      c.args.targets.now c.args.results.now c.loop-i.i c.index-targets-i.result c.index-results-i.result
      c.value_of.result
      c.requires.distinct c.loop-i-test.true c.requires.count (sym c.index-targets-i.is) (sym c.index-results-i.is)
      c.value_of.ensures c.loop-i.invariant.0 c.set.ensures,
  c.set.ensures.names ∙ c.loop-i.invariant.1,
)
