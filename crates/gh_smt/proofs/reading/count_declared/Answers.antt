use Rattle.std.proofs.Common.{subst, arith}
use Rattle.gh_log.specs.Reading.{IsNotFront}
use Rattle.gh_smt.proofs.DeclaredLemmas.{past_limit, not_declared, declared_more, declared_end, goes_declared_none}
use Rattle.gh_log.proofs.Exits.{exit}
use Rattle.gh_smt.proofs.reading.count_declared.Goals as goal

pub declared-init : goal.declared-init
declared-init c = record {
  goes = goes_declared_none c.args.kind c.args.limit c.args.reader.now.rest.now;
  within = omega arith;
}

pub returns-then-count-limit : goal.returns-then-count-limit
returns-then-count-limit c =
    let text = c.declared.reader.rest.now in
    c.declared.invariant.goes.back
    (past_limit c.args.kind c.args.limit c.declared.count text c.if-count-limit.true
    (subst (λ w. IsNotFront w text → ⊥) c.start.ensures c.declared-test.ensures))

pub returns-in_err-take_declared : goal.returns-in_err-take_declared
returns-in_err-take_declared c =
    let text = c.declared.reader.rest.now in
    exit _ _ _ _ _ _ (λ h. c.declared.invariant.goes.back
    (not_declared c.args.kind c.args.limit c.declared.count text
    (subst (λ w. IsNotFront w text → ⊥) c.start.ensures c.declared-test.ensures) h))
    c.in_err-take_declared.ensures c.from_residual.ensures.1

pub declared-preserved : goal.declared-preserved
declared-preserved c =
    let text = c.declared.reader.rest.now in
    record {
      goes = declared_more c.args.kind c.args.limit c.declared.count text c.take_declared.new.reader.rest.now
          c.args.reader.now.rest.now c.declared.invariant.goes
          (subst (λ w. IsNotFront w text → ⊥) c.start.ensures c.declared-test.ensures) c.in_ok-take_declared.ensures;
      within = omega arith;
    }

pub returns : goal.returns
returns c =
    let text = c.declared.reader.rest.now in
    declared_end c.args.kind c.args.limit c.declared.count text c.args.reader.now.rest.now c.declared.invariant.goes
    c.declared.invariant.within (subst (λ w. IsNotFront w text) c.start.ensures c.declared-test.ensures)
