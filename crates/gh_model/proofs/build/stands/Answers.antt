use Rattle.std.proofs.Common.{sym, ◌∙◌}
use Rattle.gh_model.proofs.building.Heaps.{other_not, alloc_stands}
use Rattle.gh_model.proofs.build.stands.Goals as goal

pub returns-then-class-x : goal.returns-then-class-x
returns-then-class-x c =
    other_not c.args.structure.now c.sizes-sizes.ensures.valid c.args.version c.args.x.0 c.requires.term
    (λ e. c.if-class-x.true (c.class.ensures ∙ e))

pub returns : goal.returns
returns c =
    c.holds.ensures ∙ alloc_stands c.args.structure.now c.sizes-sizes.ensures.valid c.args.version c.args.x.0
    c.requires.term c.if-x-eq0.false (sym c.class.ensures ∙ c.if-class-x.false)
