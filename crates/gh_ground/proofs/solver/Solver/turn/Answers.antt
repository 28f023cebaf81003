use Rattle.std.proofs.Common.{Option, ℕ, sym, subst, arith}
use Rattle.gh_ground.specs.Kept.{IsAnswered, IsEnded, IfEnded}
use Rattle.gh_ground.proofs.KeptLemmas.{answered_some, none_left}
use Rattle.gh_ground.proofs.solver.Solver.turn.Goals as goal

pub decide-requires : goal.decide-requires
decide-requires c = subst (IsAnswered c.args.self.now.search) c.in-None.is c.requires

pub returns-in_ok-next-in-None-clause-ended : goal.returns-in_ok-next-in-None-clause-ended
returns-in_ok-next-in-None-clause-ended c =
    subst (λ (a : Option ℕ). IfEnded c.in_ok-next-in-None.next (IsEnded c.decide.new.self.search a)) (sym c.in-None.is)
    c.in_ok-next-in-None.ensures.open

pub learn-requires-clause-conflict : goal.learn-requires-clause-conflict
learn-requires-clause-conflict c =
    answered_some c.args.self.now.search c.args.answer c.in-Some.conflict c.requires c.in-Some.is

pub returns-then-level-eq0-clause-ended : goal.returns-then-level-eq0-clause-ended
returns-then-level-eq0-clause-ended c =
    let s = c.args.self.now.search in
    subst (IsEnded s) (sym c.in-Some.is)
    (record {
      conflict = answered_some s c.args.answer c.in-Some.conflict c.requires c.in-Some.is;
      first = none_left s.starts (omega arith);
    })
