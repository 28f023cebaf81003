use Rattle.std.proofs.Common.{◌≤◌, length, map, subst}
use Rattle.std.specs.Prelude.{All, MatchOption}
use Rattle.gh_ast.specs.Plain.{procedure_of, program_of}
use Rattle.gh_ast.specs.Limits.{AtomsPassed, atom_counts}
use Rattle.gh_ast.specs.Occurrences.{variables_of}
use Rattle.gh_types.proofs.LimitLemmas.{limit_of}
use Rattle.gh_types.proofs.limits.passed_limit.Goals as goal

pub returns : goal.returns
returns c =
    let all = c.as_slice-procedures.ensures.value in
    limit_of (program_of c.args.program.now) c.atoms_limit.result
    (subst (λ ps. length (map procedure_of ps) ≤ 256) all c.in_default.ensures)
    (subst (λ ps. All (λ q. length (variables_of q) ≤ 32) (map procedure_of ps)) all
    c.in_default-variables_limit.ensures)
    (subst (λ ps. MatchOption c.atoms_limit.result (All (λ q. All (λ n. n ≤ 32) (atom_counts q)) (map procedure_of ps))
    (AtomsPassed (map procedure_of ps))) all c.atoms_limit.ensures)
