use Rattle.std.proofs.Common.{◌∙◌, ap, sym}
use Rattle.gh_base.specs.declared.sizes.Sizes.{Sizes}
use Rattle.gh_ground.proofs.KeptLemmas.{keeps_instance}
use Rattle.gh_ground.proofs.solver.Solver.add_instance.Goals as goal

pub add-requires : goal.add-requires
add-requires c =
    let s = c.args.self.now.search.sizes in
    let is = sym (c.sizes-sizes.ensures.sizes ∙ c.assignment.ensures.sizes) in
    c.in-Some.ensures.in_range s (ap (λ (z : Sizes). z.terms) is) (ap (λ (z : Sizes). z.versions) is)

pub returns-clause-keeps : goal.returns-clause-keeps
returns-clause-keeps c =
    keeps_instance c.args.self.now.search c.add.new.self c.args.self.now.lines c.push.new.self c.args.name
    c.in-Some.clause c.requires c.in-Some.ensures.clause c.in_ok-add.ensures.ok c.in_ok-push.ensures.ok
