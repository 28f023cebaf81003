use Rattle.std.proofs.Common.{arith, subst, sym, ap}
use Rattle.gh_base.specs.Grounds.{Problem}
use Rattle.gh_small.specs.Bounded.{AreSizes}
use Rattle.gh_small.proofs.PushLemmas.{pushed_begin, pushed_later}
use Rattle.gh_small.proofs.bounding.Numbers.push_counter.Goals as goal

pub push-requires-else-j-eq0-2-clause-in_range : goal.push-requires-else-j-eq0-2-clause-in_range
push-requires-else-j-eq0-2-clause-in_range c = c.raises.ensures.in_range _ c.requires.sizes

pub push-requires-else-j-eq0-2-2-clause-in_range :
    goal.push-requires-else-j-eq0-2-2-clause-in_range
push-requires-else-j-eq0-2-2-clause-in_range c =
    c.keeps-else-j-eq0-2.ensures.in_range _
    (subst (AreSizes c.args.self) (sym (ap (λ (p : Problem). p.sizes) c.in_ok-push-4.ensures.ok)) c.requires.sizes)

pub returns-in_ok-push-3 : goal.returns-in_ok-push-3
returns-in_ok-push-3 c =
    pushed_begin _ _ _ _ _ _ _ _ _ _ c.in_ok-push-2.ensures.ok c.in_ok-push-3.ensures.ok
    c.begins-then-j-eq0-2.ensures.clause c.keeps.ensures.clause (omega arith) c.if-j-eq0-2.true

pub returns-in_ok-push-5 : goal.returns-in_ok-push-5
returns-in_ok-push-5 c =
    pushed_later _ _ _ _ _ _ _ _ _ _ c.in_ok-push-4.ensures.ok c.in_ok-push-5.ensures.ok c.raises.ensures.clause
    c.keeps-else-j-eq0-2.ensures.clause (omega arith) (omega arith)
