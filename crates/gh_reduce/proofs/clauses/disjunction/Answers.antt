use Rattle.std.proofs.Common.{List, sym, ◌∙◌, subst}
use Rattle.gh_base.specs.declared.atom.Lit.{Lit}
use Rattle.gh_base.specs.Atoms.{AreInRange}
use Rattle.gh_reduce.proofs.ClauseLemmas.{opposites_in_range, still_in_range, disjunction_state}
use Rattle.gh_reduce.proofs.clauses.disjunction.Goals as goal

pub add_pairs-requires-clause-others : goal.add_pairs-requires-clause-others
add_pairs-requires-clause-others c =
    let p = c.args.ground.now in
    let q = c.define.new.ground in
    let lits = c.args.lits.now in
    subst (λ (ls : List Lit). AreInRange q.sizes ls) (sym (c.as_slice.ensures.value ∙ c.in_ok-opposites.ensures))
    (opposites_in_range q.sizes lits (still_in_range p q lits c.in_ok-defined.ensures.counted c.requires))

pub returns-clause-state : goal.returns-clause-state
returns-clause-state c =
    disjunction_state c.args.ground.now c.define.new.ground c.add_pairs.new.ground c.add_long.new.ground c.args.lits.now
    c.as_slice.result.now c.in_ok-defined.defined c.negated.result
    c.in_ok-defined.ensures.counted c.in_ok-defined.ensures.number c.negated.ensures
    (c.as_slice.ensures.value ∙ c.in_ok-opposites.ensures) c.in_ok-add_pairs.ensures.added
    c.in_ok-add_long.ensures.added
