use Rattle.gh_check.proofs.TruthLemmas.{not_one_open}
use Rattle.gh_check.proofs.hints.Layers.look.Goals as goal

pub returns : goal.returns
returns c =
    not_one_open c.args.self.now.sizes c.args.self.now.lits c.args.clause.now c.in-Some.one c.requires
    c.in-Some.ensures.0 c.in-Some.ensures.1
    (λ all. let f = c.if-are_false_but.ensures.1 all in absurd (cc))
