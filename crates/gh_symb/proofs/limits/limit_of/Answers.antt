use Rattle.std.proofs.Common.{inl, arith}
use Rattle.gh_ast.specs.Plain.{procedure_of, program_of}
use Rattle.gh_symb.specs.Limits.{PassesLimit}
use Rattle.gh_symb.specs.Steps.{IsCount}
use Rattle.gh_symb.proofs.AdmitLemmas.{passes_versions}
use Rattle.gh_symb.proofs.CountLemmas.{scoped_within, scoped_of, holds_here}
use Rattle.gh_symb.proofs.limits.limit_of.Goals as goal

pub index-procedure-requires : goal.index-procedure-requires
index-procedure-requires c =
    let Q = c.program.result.now in
    let within = scoped_within c.args.typed.now Q c.args.condition.now c.program.ensures.same c.requires in
    omega (arith, within, Q.procedures.ok)

pub returns-in-ManyTerms : goal.returns-in-ManyTerms
returns-in-ManyTerms c = λ p of count.
    let many = rw c.in-ManyTerms.is at count in
    inl (many, c.terms_limit.ensures p of)

pub returns-then-versions-gt-MOST_VERSIONS : goal.returns-then-versions-gt-MOST_VERSIONS
returns-then-versions-gt-MOST_VERSIONS c =
    let T = c.args.typed.now in
    let P = program_of T in
    let r = c.args.condition.now in
    let q = c.index-procedure.result.now in
    let of = scoped_of T c.program.result.now r q c.program.ensures.same c.requires c.index-procedure.ensures in
    holds_here P r (procedure_of q)
    (λ P proc d. IsCount P proc d c.args.counts → PassesLimit P proc d c.limit_at.result) of
    (λ count. passes_versions P (procedure_of q) _ _ _ c.limit_at.result (rw c.in-Within.is at count)
    c.if-versions-gt-MOST_VERSIONS.true c.limit_at.ensures)
