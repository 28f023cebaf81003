use Rattle.std.proofs.Common.{◌≡◌, ◌∙◌, sym, ap, subst, Some, None, set}
use Rattle.std.specs.Prelude.{Contains}
use Rattle.gh_assert.specs.declared.store.Entry.{Entry}
use Rattle.gh_assert.specs.Stores.{listed_names, IsListedAt, IsSet}
use Rattle.gh_assert.proofs.Entries.{placed, is_set, stays_distinct}
use Rattle.gh_assert.proofs.store.Store.set.Goals as goal

pub invariant_of-self : goal.invariant_of-self
invariant_of-self c =
    let items = c.self.inside.entries.items in
    let at : IsListedAt items c.args.name.now c.in-Some.i =
    placed items c.args.name.now (Some c.in-Some.i)
    (rw (c.as_slice.ensures.value, c.bytes.ensures.text) at c.in-Some.ensures) in
    let named : c.index_mut.result.now.name ≡ c.args.name.now =
    ap (λ (e : Entry). e.name) c.index_mut.ensures.value ∙ at.named c.index_mut.result.now in
    let is : IsSet items (set items c.in-Some.i (record { name = c.index_mut.result.now.name; value = c.args.value }))
    c.args.name.now c.args.value =
    is_set items c.args.name.now c.in-Some.i c.index_mut.result.now c.args.value at named in
    stays_distinct items (set items c.in-Some.i (record { name = c.index_mut.result.now.name; value = c.args.value }))
    is.names c.self.invariant

pub returns-in-Some : goal.returns-in-Some
returns-in-Some c =
    let items = c.self.inside.entries.items in
    let at : IsListedAt items c.args.name.now c.in-Some.i =
    placed items c.args.name.now (Some c.in-Some.i)
    (rw (c.as_slice.ensures.value, c.bytes.ensures.text) at c.in-Some.ensures) in
    let named : c.index_mut.result.now.name ≡ c.args.name.now =
    ap (λ (e : Entry). e.name) c.index_mut.ensures.value ∙ at.named c.index_mut.result.now in
    subst (λ es. IsSet es (set items c.in-Some.i (record { name = c.index_mut.result.now.name; value = c.args.value }))
    c.args.name.now c.args.value) c.self.view_is
    (is_set items c.args.name.now c.in-Some.i c.index_mut.result.now c.args.value at named)

pub returns-in_default : goal.returns-in_default
returns-in_default c =
    let items = c.self.inside.entries.items in
    let there : Contains (listed_names items) c.args.name.now =
    subst (λ es. Contains (listed_names es) c.args.name.now) (sym c.self.view_is) c.requires.there in
    absurd (placed items c.args.name.now None
    (rw (c.as_slice.ensures.value, c.bytes.ensures.text) at c.in_default.ensures) there)
