use Rattle.std.proofs.Common.{◌∙◌, None, refl, sym, subst}
use Rattle.std.specs.Prelude.{slice_index_or}
use Rattle.gh_base.specs.Atoms.{AreInRange}
use Rattle.gh_check.proofs.TruthLemmas.{at_within}
use Rattle.gh_check.proofs.RestLemmas.{no_clause_rests, clause_rests, clause_there}
use Rattle.gh_check.proofs.root_units.rests_at.Goals as goal

pub returns-then-not-has_clause : goal.returns-then-not-has_clause
returns-then-not-has_clause c = (
  (λ t. no_clause_rests c.args.told.now.lits (slice_index_or c.args.kept.now.clauses c.args.position None)
      (sym c.if-not-has_clause.ensures)),
  λ h. refl,
)

pub rests-requires : goal.rests-requires
rests-requires c =
    subst (AreInRange c.args.told.now.sizes) (sym (c.lits.ensures ∙ c.clause-clause.ensures))
    (at_within c.args.told.now.sizes c.args.kept.now c.args.position c.requires)

pub returns : goal.returns
returns c =
    let set = c.args.told.now.lits in
    let o = slice_index_or c.args.kept.now.clauses c.args.position None in
    let there = sym c.if-not-has_clause.ensures in
    let is = c.lits.ensures ∙ c.clause-clause.ensures in (
      (λ t. clause_rests set o c.lits.result.now there is (c.rests.ensures.0 t)),
      λ h. c.rests.ensures.1 (clause_there set o c.lits.result.now there is h),
    )
