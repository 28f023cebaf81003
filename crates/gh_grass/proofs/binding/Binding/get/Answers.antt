use Rattle.std.proofs.Common.{ap, ◌∙◌, sym, subst, refl, Some, None}
use Rattle.std.specs.Prelude.{Contains}
use Rattle.gh_grass.specs.Bindings.{term_in, bound_names, IsListedAt}
use Rattle.gh_grass.proofs.Bonds.{placed, bound_here, unbound, there}
use Rattle.gh_grass.proofs.binding.Binding.get.Goals as goal

pub returns-in-Some-clause-value : goal.returns-in-Some-clause-value
returns-in-Some-clause-value c =
    let at : IsListedAt c.self.inside.bonds.items c.args.name.now c.in-Some.i =
    placed c.self.inside.bonds.items c.args.name.now (Some c.in-Some.i)
    (rw (c.as_slice.ensures.value, c.bytes.ensures.text) at c.in-Some.ensures) in
    ap (λ e. Some e.term) c.index.ensures
    ∙ sym (bound_here c.self.inside.bonds.items c.args.name.now c.in-Some.i c.index.result.now at)
    ∙ ap (λ es. term_in es c.args.name.now) c.self.view_is

pub returns-in-None-clause-value : goal.returns-in-None-clause-value
returns-in-None-clause-value c =
    let out : Contains (bound_names c.self.inside.bonds.items) c.args.name.now → ⊥ =
    placed c.self.inside.bonds.items c.args.name.now None
    (rw (c.as_slice.ensures.value, c.bytes.ensures.text) at c.in-None.ensures) in
    sym (unbound c.self.inside.bonds.items c.args.name.now out) ∙ ap (λ es. term_in es c.args.name.now) c.self.view_is

pub returns-in-Some-clause-there : goal.returns-in-Some-clause-there
returns-in-Some-clause-there c =
    let at : IsListedAt c.self.inside.bonds.items c.args.name.now c.in-Some.i =
    placed c.self.inside.bonds.items c.args.name.now (Some c.in-Some.i)
    (rw (c.as_slice.ensures.value, c.bytes.ensures.text) at c.in-Some.ensures) in (
      λ some. subst (λ es. Contains (bound_names es) c.args.name.now) c.self.view_is
          (there c.self.inside.bonds.items c.args.name.now c.in-Some.i at),
      λ in'. refl,
    )

pub returns-in-None-clause-there : goal.returns-in-None-clause-there
returns-in-None-clause-there c =
    let out : Contains (bound_names c.self.inside.bonds.items) c.args.name.now → ⊥ =
    placed c.self.inside.bonds.items c.args.name.now None
    (rw (c.as_slice.ensures.value, c.bytes.ensures.text) at c.in-None.ensures) in (
      λ some. absurd cc,
      λ in'. absurd
          (out (subst (λ es. Contains (bound_names es) c.args.name.now) (sym c.self.view_is) in')),
    )
