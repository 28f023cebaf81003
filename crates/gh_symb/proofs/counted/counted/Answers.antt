use Rattle.std.proofs.Common.{◌≡◌, ◌∙◌, ◌+◌, [], sym, ap, subst, arith, drop, length, map}
use Rattle.std.proofs.Math.ListN.{drop_of_length-le}
use Rattle.gh_ast.specs.Plain.{program_of}
use Rattle.gh_path.specs.Graphs.{meets_at}
use Rattle.gh_path.specs.Kept.{step_of, start_of, condition_of}
use Rattle.gh_path.specs.Terms.{walked, step_walked, steps_walked, check_walked, way_walked}
use Rattle.gh_symb.specs.Remaining.{Remains}
use Rattle.gh_symb.specs.Contexts.{procedure_in}
use Rattle.gh_symb.specs.Steps.{EndsWith, IsCount}
use Rattle.gh_symb.specs.Symbolic.{begins}
use Rattle.gh_symb.specs.Walkers.{terms_at}
use Rattle.gh_symb.specs.declared.count.Counted.TheVariants.{ManyTerms}
use Rattle.gh_symb.proofs.CountLemmas.{has_check, has_next, holds_here, gone_next, many, ended}
use Rattle.gh_symb.proofs.counted.counted.Goals as goal

pub loop-step-init : goal.loop-step-init
loop-step-init c = record {
  few = omega (arith, c.in_ok-walker.ensures.version, c.in_ok-ask_start.ensures.version);
  left =
      let P = program_of c.args.typed.now in
      let proc = procedure_in c.context_of-context.result in
      let r = c.args.condition.now in
      let a = start_of r.start in
      let started : terms_at c.ask_start.new.self ≡ begins proc a =
      c.in_ok-ask_start.ensures.begins.0 ∙ ap (walked (meets_at proc a)) c.in_ok-walker.ensures.terms in
      rw c.as_slice-step-items.ensures.value (ap (steps_walked P proc (map step_of r.steps.items)) started);
}

pub ask_start-requires : goal.ask_start-requires
ask_start-requires c = c.context_of-context.ensures.there.start

pub walk_step-requires-clause-step : goal.walk_step-requires-clause-step
walk_step-requires-clause-step c =
    has_next c.context_of-context.ensures c.as_slice-step-items.result.now c.loop-step.step-index
    c.as_slice-step-items.ensures.value c.loop-step-test.true c.step-item.is

pub ask_check-requires : goal.ask_check-requires
ask_check-requires c = has_check c.context_of-context.ensures

pub walk_step-requires-clause-room : goal.walk_step-requires-clause-room
walk_step-requires-clause-room c =
    omega (
      arith,
      c.loop-step.invariant.few,
      c.loop-step-test.true,
      ap length c.as_slice-step-items.ensures.value,
      c.args.condition.now.steps.ok,
      c.args.condition.now.steps.small,
    )

pub overflow_add-walker : goal.overflow_add-walker
overflow_add-walker c =
    omega (
      arith,
      c.loop-step.invariant.few,
      c.in_ok-ask_check.ensures.version,
      c.loop-step.auto.step-index-end,
      ap length c.as_slice-step-items.ensures.value,
      c.args.condition.now.steps.ok,
      c.args.condition.now.steps.small,
    )

pub returns-then-count-gt-MOST_TERMS : goal.returns-then-count-gt-MOST_TERMS
returns-then-count-gt-MOST_TERMS c =
    let P = program_of c.args.typed.now in
    let proc = procedure_in c.context_of-context.result in
    let is = c.context_of-context.ensures in
    let d = condition_of c.args.condition.now in
    let r = c.step-item.result in
    let s = terms_at c.loop-step.walker in
    let t = terms_at c.walk_step.new.self in
    let items = c.as_slice-step-items.result.now in
    let i = c.loop-step.step-index in
    let walks : t ≡ step_walked P proc (step_of r) s =
    subst (λ Q. t ≡ step_walked Q proc (step_of r) s) is.program c.in_ok-walk_step.ensures.walked in
    let later =
    gone_next P proc items i r d s t c.loop-step-test.true c.step-item.is c.loop-step.invariant.left walks in
    holds_here P c.args.condition.now proc (λ P proc d. IsCount P proc d ManyTerms) is.of
    (many P proc (map step_of (drop (i + 1) items)) d t later
    (omega (arith, c.if-count-gt-MOST_TERMS.true, c.count.ensures)))

pub loop-step-preserved : goal.loop-step-preserved
loop-step-preserved c = record {
  few = omega (arith, c.loop-step.invariant.few, c.in_ok-walk_step.ensures.next);
  left =
      let P = program_of c.args.typed.now in
      let proc = procedure_in c.context_of-context.result in
      let is = c.context_of-context.ensures in
      let r = c.step-item.result in
      let s = terms_at c.loop-step.walker in
      let t = terms_at c.walk_step.new.self in
      let walks : t ≡ step_walked P proc (step_of r) s =
      subst (λ Q. t ≡ step_walked Q proc (step_of r) s) is.program c.in_ok-walk_step.ensures.walked in
      gone_next P proc c.as_slice-step-items.result.now c.loop-step.step-index r (condition_of c.args.condition.now) s t
      c.loop-step-test.true c.step-item.is c.loop-step.invariant.left walks;
}

pub returns : goal.returns
returns c =
    let P = program_of c.args.typed.now in
    let proc = procedure_in c.context_of-context.result in
    let is = c.context_of-context.ensures in
    let d = condition_of c.args.condition.now in
    let s = terms_at c.loop-step.walker in
    let w = c.ask_check.new.self in
    let none : drop c.loop-step.step-index c.as_slice-step-items.result.now ≡ [] =
    drop_of_length-le c.as_slice-step-items.result.now c.loop-step-test.false in
    let last : Remains P proc [] d s =
    subst (λ xs. Remains P proc (map step_of xs) d s) none c.loop-step.invariant.left in
    let check : EndsWith (check_walked P proc d.way.check s) w.kinds w.version =
    subst (λ Q. EndsWith (check_walked Q proc d.way.check s) w.kinds w.version) is.program
    (c.in_ok-ask_check.ensures.ended c.args.condition.now.check.span) in
    let all : EndsWith (way_walked P proc d.start d.way) w.kinds w.version =
    ended P proc d s last w.kinds w.version check in
    holds_here P c.args.condition.now proc (λ P proc d. IsCount P proc d c.new-2.result) is.of
    (c.new-2.ensures P proc d (ap length (sym all.kinds_are) ∙ sym c.count-2.ensures)
    (ap (λ v. v + 1) (sym all.version_is)))
