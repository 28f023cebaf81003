use Rattle.std.specs.Prelude.{slice_get}
use Rattle.std.proofs.lemmas.Result.{IfOk-weaker}
use Rattle.gh_ast.specs.Plain.{procedure_of}
use Rattle.gh_ast.proofs.Lists.{not_both}
use Rattle.gh_path.specs.Graphs.{loops_of}
use Rattle.gh_path.specs.Walking.{loop_of}
use Rattle.gh_trace.specs.Kept.{state_of}
use Rattle.gh_trace.proofs.LoopLemmas.{around_where}
use Rattle.gh_trace.proofs.steps.goes_around.Goals as goal

pub returns-in_default : goal.returns-in_default
returns-in_default c = (
  λ t. absurd cc,
  λ takes. absurd (not_both (slice_get (loops_of (procedure_of c.args.setting.procedure.now)) c.args.number) takes.0
      takes.1 c.in_default.ensures.none),
)

pub returns : goal.returns
returns c =
    let p = procedure_of c.args.setting.procedure.now in
    let x = state_of c.args.before.now in
    let y = state_of c.args.after.now in
    IfOk-weaker c.is_replaced.result _ _
    (λ b w.
    let r = around_where p c.args.number (loop_of c.in-Some.round) x y c.in-Some.ensures.some in (
      λ t. r.1 (record { replaced = w.0 t; kept = c.keeps.ensures.0 c.if-not-keeps.false }),
      λ takes. w.1 (r.0 takes).replaced,
    )) c.is_replaced.ensures
