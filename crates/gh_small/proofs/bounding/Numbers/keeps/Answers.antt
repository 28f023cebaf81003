use Rattle.std.proofs.Common.{◌≡◌, sym, subst, rules}
use Rattle.gh_base.specs.Atoms.{AreInRange}
use Rattle.gh_small.specs.Fewer.{keeps}
use Rattle.gh_small.proofs.RangeLemmas.{keeps_range}
use Rattle.gh_small.proofs.bounding.Numbers.keeps.Goals as goal

pub returns-clause-in_range : goal.returns-clause-in_range
returns-clause-in_range c =
    let e : c.from_array.result ≡ keeps c.args.self.terms c.args.self.first c.args.self.cells c.args.t c.args.j =
    search rules in
    λ s w. subst (AreInRange s) (sym e)
    (keeps_range c.args.self s w c.args.t c.args.j c.requires.within c.requires.below)
