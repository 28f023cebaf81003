use Rattle.std.proofs.Common.{subst}
use Rattle.gh_ast.specs.Plain.{procedure_of, program_of}
use Rattle.gh_ast.specs.Rules.{IsTyped}
use Rattle.gh_trace.proofs.Insides.{if_some, own_names, distinct_names}
use Rattle.gh_trace.proofs.setting.procedure_at.Goals as goal

pub returns-clause-typed : goal.returns-clause-typed
returns-clause-typed c = subst (λ P. IsTyped (program_of P)) c.program.ensures.same c.program.ensures.typed

pub returns-clause-own : goal.returns-clause-own
returns-clause-own c =
    if_some _ _ c.procedure_in.result
    (λ q at. own_names (program_of c.program.result.now) c.args.number (procedure_of q.now) c.program.ensures.typed at)
    c.procedure_in.ensures.some

pub returns-clause-distinct : goal.returns-clause-distinct
returns-clause-distinct c =
    if_some _ _ c.procedure_in.result
    (λ q at. distinct_names (program_of c.program.result.now) c.args.number (procedure_of q.now) c.program.ensures.typed
    at) c.procedure_in.ensures.some
