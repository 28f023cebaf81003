use Rattle.gh_smt.proofs.MakingLemmas.{one_clause}
use Rattle.gh_smt.proofs.making.add_clauses.Goals as goal

pub loop-number-preserved : goal.loop-number-preserved
loop-number-preserved c =
    one_clause c.args.ground.now.clauses c.args.asserted.now.items c.loop-number.asserted.items c.push.new.self.items
    c.in-Some.clause.now c.in_ok-copy.field-0 c.loop-number.number c.in-Some.ensures.found
    c.in_ok-copy.ensures c.loop-number.invariant c.in_ok-push.ensures.items
