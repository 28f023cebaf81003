use Rattle.std.proofs.Common.{◌+◌, arith}
use Rattle.gh_ast.specs.Plain.{procedure_of, program_of}
use Rattle.gh_path.specs.Admitted.{most_terms}
use Rattle.gh_symb.specs.Limits.{IsLimitOf}
use Rattle.gh_symb.proofs.CountLemmas.{scoped_within, scoped_of, holds_here}
use Rattle.gh_symb.proofs.limits.terms_limit.Goals as goal

pub index-procedure-requires : goal.index-procedure-requires
index-procedure-requires c =
    let within =
    scoped_within c.args.typed.now c.program.result.now c.args.condition.now c.program.ensures.same c.requires in
    omega (arith, within, c.program.result.now.procedures.ok)

pub returns : goal.returns
returns c =
    let T = c.args.typed.now in
    let q = c.index-procedure.result.now in
    let of =
    scoped_of T c.program.result.now c.args.condition.now q c.program.ensures.same c.requires
    c.index-procedure.ensures in
    holds_here (program_of T) c.args.condition.now (procedure_of q)
    (λ P proc d. IsLimitOf proc 6 (most_terms + 1) c.limit_at.result) of c.limit_at.ensures
