use Rattle.std.proofs.Common.{sym, ◌∙◌}
use Rattle.gh_model.proofs.building.Stores.{value_some}
use Rattle.gh_model.proofs.build.value.Goals as goal

pub returns-in-Some : goal.returns-in-Some
returns-in-Some c =
    let s = c.args.structure.now in
    let e = sym c.in-Some.ensures.value in
    c.from.ensures ∙ c.class.ensures
    ∙ sym (value_some s c.sizes-sizes.ensures.valid c.args.binding.now c.args.name.now c.in-Some.term e
    (c.requires.below c.args.name.now c.in-Some.term e))
