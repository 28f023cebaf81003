use Rattle.std.proofs.Common.{◌↔◌, IsTrue, subst}
use Rattle.gh_base.specs.Meaning.{IsEqualityClause}
use Rattle.gh_check.proofs.lines.follows_alone.Goals as goal

pub returns : goal.returns
returns c =
    subst (λ cs. IsTrue c.in_ok-follows.follows ↔ IsEqualityClause c.args.sizes cs) c.in_ok-clause.ensures
    c.in_ok-follows.ensures
