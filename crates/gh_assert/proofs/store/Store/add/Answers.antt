use Rattle.std.proofs.Common.{sym, subst}
use Rattle.gh_assert.specs.Stores.{AreDistinct, listed_names}
use Rattle.std.specs.Prelude.{Contains}
use Rattle.gh_assert.specs.declared.store.Entry.{Entry}
use Rattle.gh_assert.proofs.Entries.{distinct_more}
use Rattle.gh_assert.proofs.store.Store.add.Goals as goal

pub invariant_of-self-2 : goal.invariant_of-self-2
invariant_of-self-2 c =
    let added : Entry = record { name = c.in_ok-name.name; value = c.args.value } in
    let new : Contains (listed_names c.self.inside.entries.items) c.in_ok-name.name → ⊥ =
    subst (λ es. Contains (listed_names es) c.in_ok-name.name → ⊥) (sym c.self.view_is)
    (subst (λ n. Contains (listed_names c.args.self.now) n → ⊥) (sym c.in_ok-name.ensures) c.requires.new) in
    subst AreDistinct (sym c.in_ok-push.ensures.items)
    (distinct_more c.self.inside.entries.items added c.self.invariant new)
