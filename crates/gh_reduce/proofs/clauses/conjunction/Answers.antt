use Rattle.std.proofs.Common.{List, sym, ◌∙◌, subst}
use Rattle.gh_base.specs.declared.atom.Lit.{Lit}
use Rattle.gh_base.specs.Atoms.{AreInRange}
use Rattle.gh_reduce.proofs.ClauseLemmas.{pairs, opposites_in_range, still_in_range, clauses_keep}
use Rattle.gh_reduce.proofs.clauses.conjunction.Goals as goal

pub add_long-requires-clause-others : goal.add_long-requires-clause-others
add_long-requires-clause-others c =
    let p = c.args.ground.now in
    let q = c.define.new.ground in
    let r = c.add_pairs.new.ground in
    let lits = c.args.lits.now in
    subst (λ (ls : List Lit). AreInRange r.sizes ls) (sym (c.as_slice.ensures.value ∙ c.in_ok-opposites.ensures))
    (opposites_in_range r.sizes lits
    (clauses_keep q r (pairs c.negated.result lits) lits c.in_ok-add_pairs.ensures.added
    (still_in_range p q lits c.in_ok-defined.ensures.counted c.requires)))
