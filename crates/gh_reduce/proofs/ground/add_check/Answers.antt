use Rattle.std.proofs.Common.{map, ap, subst, ◌∙◌, arith}
use Rattle.gh_grass.specs.Claims.{ground_formula_of, negation_of}
use Rattle.gh_symb.specs.Formulas.{meets}
use Rattle.gh_symb.specs.Encodings.{plain_kind}
use Rattle.gh_symb.specs.declared.over_terms.TermCheck.{TermCheck}
use Rattle.gh_symb.specs.Inside.{under_of, check_of, IsCheckInside}
use Rattle.gh_reduce.proofs.InsideLemmas.{meets_within}
use Rattle.gh_reduce.proofs.RowLemmas.{claim_within}
use Rattle.gh_reduce.proofs.ground.add_check.Goals as goal

pub add_formula-requires-in-Sub : goal.add_formula-requires-in-Sub
add_formula-requires-in-Sub c =
    let s = c.args.ground.now.sizes in
    let ks = map plain_kind c.args.terms.now in
    let u = under_of c.in-Sub.bound in
    let some = c.requires.ready.some in
    let h = subst (λ (k : TermCheck). IsCheckInside s.terms s.versions (check_of k)) c.in-Sub.is c.requires.inside in
    claim_within s (negation_of (meets ks u)) (ground_formula_of c.in_ok-fails-in-Sub.fails)
    (c.in_ok-fails-in-Sub.ensures ∙ ap negation_of c.in_ok-meets-in-Sub.ensures)
    (meets_within s ks u c.requires.ready.terms (omega (arith, some)) h)
