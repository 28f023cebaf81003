use Rattle.std.proofs.Common.{refl}
use Rattle.gh_ast.proofs.ShorterStatement.{shorter_procedure}
use Rattle.gh_parse.proofs.Rules.{by, first}
use Rattle.gh_parse.proofs.Exits.{exit}
use Rattle.gh_parse.proofs.ProgramForms.{make_all, part_all, ends_all, all_more, all_spelled, procedure_pushed}
use Rattle.gh_parse.proofs.cursor.Parser.procedures.Goals as goal

pub returns-in_err-procedure : goal.returns-in_err-procedure
returns-in_err-procedure c =
    exit _ _ _
    (λ s. c.procedures.invariant.back _
    (by make_all (λ xs r d h. part_all xs r (λ e. let f = c.procedures-test.ensures.1 e in cc) d h)
    (first ends_all s)))
    c.in_err-procedure.ensures c.from_residual.ensures.1

pub procedures-smaller : goal.procedures-smaller
procedures-smaller c = shorter_procedure c.in_ok-procedure.ensures

pub procedures-preserved : goal.procedures-preserved
procedures-preserved c =
    all_more _ _ c.procedures.invariant c.in_ok-procedure.ensures (λ e. let f = c.procedures-test.ensures.1 e in cc)
    (procedure_pushed _ _ _ c.in_ok-push.ensures.items)

pub returns : goal.returns
returns c = all_spelled _ c.procedures.invariant (c.procedures-test.ensures.0 refl)
