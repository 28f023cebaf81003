use Rattle.gh_smt.proofs.CountLemmas.{counted}
use Rattle.gh_smt.proofs.making.count_instances.Goals as goal

pub returns-clause-value : goal.returns-clause-value
returns-clause-value c =
    counted c.args.terms c.args.versions _ _ _ _ _ c.times_more-third.ensures.value c.times_more-second.ensures.value
    c.times_more-first.ensures.value c.times_more-each.ensures.value c.times_more.ensures.value
