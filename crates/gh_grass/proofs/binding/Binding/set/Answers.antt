use Rattle.std.proofs.Common.{◌≡◌, ◌∙◌, sym, ap, subst, Some, None, set, ◌++◌, ◌∷◌, []}
use Rattle.std.specs.Prelude.{Contains, slice_index_or}
use Rattle.gh_grass.specs.declared.binding.Bond.{Bond}
use Rattle.gh_grass.specs.Bindings.{bound_names, AreDistinct, IsListedAt, IsBound}
use Rattle.gh_grass.proofs.Bonds.{placed, is_bound, is_added, changed, names_stay, stays_distinct, distinct_more}
use Rattle.gh_grass.proofs.binding.Binding.set.Goals as goal

pub invariant_of-self : goal.invariant_of-self
invariant_of-self c =
    let items = c.self.inside.bonds.items in
    let at : IsListedAt items c.args.name.now c.in-Some.i =
    placed items c.args.name.now (Some c.in-Some.i)
    (rw (c.as_slice.ensures.value, c.bytes.ensures.text) at c.in-Some.ensures) in
    let same : c.index_mut.result.now.name ≡ (slice_index_or items c.in-Some.i c.index_mut.result.now).name =
    ap (λ (e : Bond). e.name) c.index_mut.ensures.value in
    stays_distinct items (set items c.in-Some.i (changed c.index_mut.result.now c.args.term))
    (names_stay items c.in-Some.i c.index_mut.result.now c.args.term same) c.self.invariant

pub returns-in-Some-clause-ok : goal.returns-in-Some-clause-ok
returns-in-Some-clause-ok c =
    let items = c.self.inside.bonds.items in
    let at : IsListedAt items c.args.name.now c.in-Some.i =
    placed items c.args.name.now (Some c.in-Some.i)
    (rw (c.as_slice.ensures.value, c.bytes.ensures.text) at c.in-Some.ensures) in
    let named : c.index_mut.result.now.name ≡ c.args.name.now =
    ap (λ (e : Bond). e.name) c.index_mut.ensures.value ∙ at.named c.index_mut.result.now in
    subst (λ es. IsBound es (set items c.in-Some.i (changed c.index_mut.result.now c.args.term)) c.args.name.now
    c.args.term) c.self.view_is
    (is_bound items c.args.name.now c.in-Some.i c.index_mut.result.now c.args.term at named)

pub invariant_of-self-in-None : goal.invariant_of-self-in-None
invariant_of-self-in-None c =
    let items = c.self.inside.bonds.items in
    let out : Contains (bound_names items) c.args.name.now → ⊥ =
    placed items c.args.name.now None (rw (c.as_slice.ensures.value, c.bytes.ensures.text) at c.in-None.ensures) in
    let added : Bond = record { name = c.in_ok-name-in-None.name; term = c.args.term } in
    subst AreDistinct (sym c.in_ok-push-in-None.ensures.items)
    (distinct_more items added c.self.invariant
    (subst (λ n. Contains (bound_names items) n → ⊥) (sym c.in_ok-name-in-None.ensures) out))

pub returns-in_ok-push-in-None-clause-ok : goal.returns-in_ok-push-in-None-clause-ok
returns-in_ok-push-in-None-clause-ok c =
    let items = c.self.inside.bonds.items in
    let out : Contains (bound_names items) c.args.name.now → ⊥ =
    placed items c.args.name.now None (rw (c.as_slice.ensures.value, c.bytes.ensures.text) at c.in-None.ensures) in
    let is : IsBound items (items ++ record { name = c.args.name.now; term = c.args.term } ∷ []) c.args.name.now
    c.args.term = is_added items c.args.name.now c.args.term out in
    rw (c.in_ok-push-in-None.ensures.items, c.in_ok-name-in-None.ensures)
    (subst (λ es. IsBound es (items ++ record { name = c.args.name.now; term = c.args.term } ∷ []) c.args.name.now
    c.args.term) c.self.view_is is)
