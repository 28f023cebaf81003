use Rattle.std.proofs.Common.{◌≡◌, ◌≤◌, ◌∙◌, sym, subst}
use Rattle.gh_base.specs.declared.sizes.Sizes.{Sizes}
use Rattle.gh_ground.proofs.CheckedLemmas.{out_of_range, clause_false, instance_false, model_of}
use Rattle.gh_ground.proofs.checked.checked_model.Goals as goal

pub returns-then-not-are_in_range-clause-none : goal.returns-then-not-are_in_range-clause-none
returns-then-not-are_in_range-clause-none c =
    out_of_range c.args.ground.now c.sizes-sizes.result c.sizes-sizes.ensures.sizes c.args.lits.now
    (λ range. let t = c.are_in_range.ensures.1 range in let f = c.if-not-are_in_range.true in cc)

pub structure_of-requires : goal.structure_of-requires
structure_of-requires c =
    let e = sym c.sizes-sizes.ensures.sizes in
    record {
      range = c.are_in_range.ensures.0 c.if-not-are_in_range.false;
      terms = subst (λ (z : Sizes). 1 ≤ z.terms) e c.sizes-sizes.ensures.valid.terms;
      versions = subst (λ (z : Sizes). 1 ≤ z.versions) e c.sizes-sizes.ensures.valid.versions;
    }

pub are_clauses_true-requires : goal.are_clauses_true-requires
are_clauses_true-requires c = c.in_ok-structure.ensures.sizes ∙ c.sizes-sizes.ensures.sizes

pub returns-then-not-are_clauses_true-clause-none : goal.returns-then-not-are_clauses_true-clause-none
returns-then-not-are_clauses_true-clause-none c =
    clause_false c.args.ground.now c.sizes-sizes.result c.sizes-sizes.ensures.sizes c.args.lits.now
    c.in_ok-structure.structure c.in_ok-structure.ensures.sizes c.in_ok-structure.ensures.structure
    (c.are_clauses_true.ensures.no (λ t. let f = c.if-not-are_clauses_true.true in cc))

pub returns-in-Some-clause-none : goal.returns-in-Some-clause-none
returns-in-Some-clause-none c =
    instance_false c.args.ground.now c.sizes-sizes.result c.sizes-sizes.ensures.sizes c.args.lits.now
    c.in_ok-structure.structure c.in_ok-structure.ensures.sizes c.in_ok-structure.ensures.structure
    (λ all. let e = c.violated.ensures.none.1 all in let f = c.in-Some.is in cc)

pub returns-in-None-clause-model : goal.returns-in-None-clause-model
returns-in-None-clause-model c =
    model_of c.args.ground.now c.sizes-sizes.result c.sizes-sizes.ensures.sizes c.args.lits.now
    c.in_ok-structure.structure c.in_ok-structure.ensures.sizes c.in_ok-structure.ensures.structure
    (c.are_clauses_true.ensures.yes c.if-not-are_clauses_true.false) (c.violated.ensures.none.0 c.in-None.is)
