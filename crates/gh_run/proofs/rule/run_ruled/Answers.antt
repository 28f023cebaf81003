use Rattle.std.proofs.Common.{◌≡◌, arith, subst, refl}
use Rattle.gh_ast.specs.Plain.{program_of}
use Rattle.gh_machine.specs.Configs.{config_of}
use Rattle.gh_run.specs.Halts.{IsRuledNext, Leads}
use Rattle.gh_run.proofs.Leading.{leads_more, ended_now}
use Rattle.gh_run.proofs.rule.run_ruled.Goals as goal

pub returns-in-Ended-clause-halted : goal.returns-in-Ended-clause-halted
returns-in-Ended-clause-halted c =
    let P = program_of c.args.typed.now in
    let old = config_of c.loop-steps.config in
    let next = config_of c.ruled_step.new.config in (
      c.loop-steps-test.true,
      ended_now P (config_of c.args.config.now) c.loop-steps.steps c.in_ok-ruled_step.field-0 old
          next c.loop-steps.invariant.leads c.in_ok-ruled_step.ensures.next c.in-Ended.is,
    )

pub loop-steps-preserved : goal.loop-steps-preserved
loop-steps-preserved c =
    let P = program_of c.args.typed.now in
    let old = config_of c.loop-steps.config in
    let next = config_of c.ruled_step.new.config in
    let moved = subst (λ n. IsRuledNext P n old next) c.in-Moved.is c.in_ok-ruled_step.ensures.next in
    record {
      leads =
          leads_more P (config_of c.args.config.now) c.loop-steps.steps old next c.loop-steps.invariant.leads moved.0
          moved.1;
      made = c.ruled_step.ensures.made;
      room = omega (arith, c.loop-steps.invariant.room, c.in_ok-ruled_step.ensures.room);
    }

pub returns : goal.returns
returns c =
    let P = program_of c.args.typed.now in
    let all : c.loop-steps.steps ≡ c.args.limit = omega (arith, c.loop-steps-test.false, c.loop-steps.auto.steps-end) in
    record {
      halted = (
        refl,
        subst (λ k. Leads P (config_of c.args.config.now) k (config_of c.loop-steps.config)) all
            c.loop-steps.invariant.leads,
      );
      made = c.loop-steps.invariant.made;
    }
