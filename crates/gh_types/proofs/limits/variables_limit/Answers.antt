use Rattle.std.proofs.Common.{arith, refl, ◌≤◌, ◌<◌, length}
use Rattle.gh_ast.specs.Plain.{procedure_of}
use Rattle.gh_ast.specs.Limits.{HasManyVariables}
use Rattle.gh_ast.specs.Occurrences.{variables_of}
use Rattle.gh_types.proofs.LimitLemmas.{first_there, all_more}
use Rattle.gh_types.proofs.limits.variables_limit.Goals as goal

pub returns-then-count-gt-MOST_VARIABLES : goal.returns-then-count-gt-MOST_VARIABLES
returns-then-count-gt-MOST_VARIABLES c =
    let q = procedure_of c.procedure-item.result in
    let many : 32 < length (variables_of q) = omega arith in
    record {
      kind = refl;
      procedure = q;
      first =
          first_there HasManyVariables c.args.procedures.now c.loop-procedure.procedure-index c.procedure-item.result
          (omega arith) c.procedure-item.is many (λ j d l m. omega (arith, c.loop-procedure.invariant j d l));
      span = refl;
      count = c.count_variables-count.ensures;
    }

pub loop-procedure-preserved : goal.loop-procedure-preserved
loop-procedure-preserved c =
    all_more (λ q. length (variables_of q) ≤ 32) c.args.procedures.now c.loop-procedure.procedure-index
    c.procedure-item.result (omega arith) c.procedure-item.is c.loop-procedure.invariant (omega arith)
