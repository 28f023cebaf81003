use Rattle.std.proofs.Common.{sym, ◌∙◌, subst}
use Rattle.std.specs.Prelude.{Contains}
use Rattle.gh_assert.specs.Stores.{store_of, listed_names}
use Rattle.gh_machine.proofs.Begun.{name_there, given_more}
use Rattle.gh_machine.proofs.stores.assign.Goals as goal

pub set-requires : goal.set-requires
set-requires c =
    let o = c.index-targets-i.result in
    let there : Contains (listed_names c.args.store.now) o.name =
    c.requires.listed o.name (name_there c.args.targets.now c.loop-i.i o (sym c.index-targets-i.is)
    c.loop-i-test.true) in
    record { there = subst (λ ns. Contains ns o.name) (sym c.loop-i.invariant.1) there }

pub loop-i-preserved : goal.loop-i-preserved
loop-i-preserved c = (
  given_more (store_of c.args.store.now) c.loop-i.store c.set.new.self c.args.targets.now c.args.values.now c.loop-i.i
      c.index-targets-i.result _ c.requires.distinct c.loop-i-test.true c.requires.count (sym c.index-targets-i.is)
      c.loop-i.invariant.0 c.set.ensures,
  c.set.ensures.names ∙ c.loop-i.invariant.1,
)
