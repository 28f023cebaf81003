use Rattle.std.proofs.Common.{refl}
use Rattle.gh_check.proofs.LineLemmas.{axiom_taken}
use Rattle.gh_check.proofs.lines.check_axiom.Goals as goal

pub returns-in-Some : goal.returns-in-Some
returns-in-Some c =
    axiom_taken c.args.ground.now c.terms.result c.versions.result c.args.name c.in-Some._clause c.terms.ensures
    c.versions.ensures (c.in-Some.ensures.exact.0 refl) c.in-Some.ensures.clause
    c.in-Some.ensures.in_range
