use Rattle.std.proofs.Common.{◌≡◌, ap}
use Rattle.gh_ast.specs.Plain.{procedure_of}
use Rattle.gh_symb.proofs.CountLemmas.{its_procedure}
use Rattle.gh_top.proofs.smt.place.Goals as goal

pub returns : goal.returns
returns c =
    λ p of.
    let own : procedure_of c.index-procedure.result.now ≡ p =
    its_procedure c.args.typed.now c.program.result.now.procedures.items c.args.condition.now.procedure
    c.index-procedure.result.now p
    (ap (λ x. x.procedures.items) c.program.ensures.same) c.index-procedure.ensures of in
    ap (λ q. q.name.span) own
