use Rattle.std.proofs.Common.{rules, ◌≡◌, sym, subst}
use Rattle.gh_base.specs.Atoms.{AreInRange}
use Rattle.gh_inst.proofs.violation.is_instance_true.Goals as goal

pub is_clause_true-requires : goal.is_clause_true-requires
is_clause_true-requires c =
    let s = c.args.structure.now in
    let same : c.lits.result.now ≡ c.in-Some.clause = search rules in
    subst (AreInRange s.sizes) (sym same)
    ((c.in-Some.ensures {u = tt}).in_range s.sizes (sym c.terms.ensures) (sym c.versions.ensures))
