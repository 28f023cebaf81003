use Rattle.std.proofs.Common.{refl, subst, Contains}
use Rattle.gh_ast.specs.Plain.{program_of}
use Rattle.gh_session.specs.Known.{essences}
use Rattle.gh_session.specs.Places.{knowledge}
use Rattle.gh_session.specs.Views.{essence_view}
use Rattle.gh_session.proofs.Learning.{answered, right_of, has_essence}
use Rattle.gh_session.proofs.session.Session.learn.Goals as goal

pub returns-in-Some-clause-none : goal.returns-in-Some-clause-none
returns-in-Some-clause-none g c =
    (answered (program_of c.args.typed.now) c.args.condition.now (essence_view c.in_ok-essence.essence)
    (essence_view c.in-Some.kept.now.essence) c.in_ok-copy_answer.field-0 c.in-Some.kept.now.answer
    c.in_ok-essence.ensures
    c.in-Some.ensures.same c.in-Some.ensures.right c.in_ok-copy_answer.ensures).none

pub returns-in-Some-clause-some : goal.returns-in-Some-clause-some
returns-in-Some-clause-some g c =
    (answered (program_of c.args.typed.now) c.args.condition.now (essence_view c.in_ok-essence.essence)
    (essence_view c.in-Some.kept.now.essence) c.in_ok-copy_answer.field-0 c.in-Some.kept.now.answer
    c.in_ok-essence.ensures
    c.in-Some.ensures.same c.in-Some.ensures.right c.in_ok-copy_answer.ensures).some

pub returns-in-Some-clause-learns : goal.returns-in-Some-clause-learns
returns-in-Some-clause-learns g c = record {
  essence = essence_view c.in_ok-essence.essence;
  has = c.in_ok-essence.ensures;
  adds = (
    subst (λ E. Contains (essences (knowledge c.args.self.now)) E) c.in-Some.ensures.same
        (has_essence c.args.self.now c.in-Some.kept.now c.in-Some.ensures.there),
    refl,
  );
}

pub keep-requires : goal.keep-requires
keep-requires g c = record {
  right =
      right_of (program_of c.args.typed.now) c.args.condition.now (essence_view c.in_ok-essence.essence)
      c.in_ok-settled.settled c.in_ok-essence.ensures c.in_ok-settled.ensures.none c.in_ok-settled.ensures.some;
}

pub returns-clause-some : goal.returns-clause-some
returns-clause-some g c =
    let P = program_of c.args.typed.now in
    let E = essence_view c.in_ok-essence.essence in
    let right =
    right_of P c.args.condition.now E c.in_ok-settled.settled c.in_ok-essence.ensures c.in_ok-settled.ensures.none
    c.in_ok-settled.ensures.some in
    (answered P c.args.condition.now E E c.in_ok-answer.answer c.in_ok-settled.settled c.in_ok-essence.ensures refl
    right c.in_ok-answer.ensures).some
