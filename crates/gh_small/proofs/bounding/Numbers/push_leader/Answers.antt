use Rattle.std.proofs.Common.{◌≡◌, sym, subst, arith, rules}
use Rattle.gh_base.specs.Atoms.{AreInRange}
use Rattle.gh_small.specs.Fewer.{leader_clause}
use Rattle.gh_small.proofs.RangeLemmas.{leader_clause_range}
use Rattle.gh_small.proofs.bounding.Numbers.push_leader.Goals as goal

pub push-requires-3-clause-in_range : goal.push-requires-3-clause-in_range
push-requires-3-clause-in_range c =
    let e : c.loop-u.u ≡ c.args.t = omega arith in
    let whole : c.loop-u.clause ≡ leader_clause c.args.self.first c.args.t = search rules in
    subst (AreInRange c.args.ground.now.sizes) (sym whole)
    (leader_clause_range c.args.self c.args.ground.now.sizes c.requires.sizes c.args.t c.requires.within)
