use Rattle.std.proofs.Common.{refl}
use Rattle.std.specs.Prelude.{slice_get}
use Rattle.std.proofs.lemmas.Result.{IfOk-weaker}
use Rattle.gh_ast.specs.Plain.{procedure_of}
use Rattle.gh_ast.proofs.Lists.{not_both}
use Rattle.gh_path.specs.Graphs.{loops_of}
use Rattle.gh_path.specs.Walking.{loop_of}
use Rattle.gh_trace.specs.Kept.{state_of}
use Rattle.gh_trace.proofs.LoopLemmas.{ended_where}
use Rattle.gh_trace.proofs.checks.is_loop_ended.Goals as goal

pub returns-in_default : goal.returns-in_default
returns-in_default c at = (
  λ t l is. absurd (not_both (slice_get (loops_of (procedure_of c.args.setting.procedure.now)) c.args.number) l is
      c.in_default.ensures.none),
  λ passes. refl,
)

pub returns : goal.returns
returns c =
    let r =
    ended_where (procedure_of c.args.setting.procedure.now) c.args.number (loop_of c.in-Some.round)
    (state_of c.args.state.now) c.in-Some.ensures.some in
    IfOk-weaker c.holds.result _ _ (λ b w at. (λ t. r.1 (w.0 t), λ passes. w.1 (r.0 passes))) c.holds.ensures
