use Rattle.std.proofs.Common.{◌∙◌, ap, sym, subst}
use Rattle.gh_base.specs.Atoms.{AreInRange}
use Rattle.gh_sat.specs.Trail.{SearchState}
use Rattle.gh_check.proofs.TruthLemmas.{at_within}
use Rattle.gh_check.proofs.UnitsLemmas.{none_present, one_present}
use Rattle.gh_check.proofs.units.insert_at.Goals as goal

pub returns-then-not-has_clause-clause-clauses : goal.returns-then-not-has_clause-clause-clauses
returns-then-not-has_clause-clause-clauses c =
    none_present c.args.search.now.clauses c.args.kept.now.clauses c.args.position (sym c.if-not-has_clause.ensures)

pub insert-requires-clause-range : goal.insert-requires-clause-range
insert-requires-clause-range c =
    subst (AreInRange c.args.search.now.sizes)
    (sym (c.in_ok-from_lits.ensures ∙ c.lits.ensures ∙ c.clause-clause.ensures))
    (at_within c.args.search.now.sizes c.args.kept.now c.args.position c.requires.within)

pub returns-clause-clauses : goal.returns-clause-clauses
returns-clause-clauses c =
    ap (λ (s : SearchState). s.clauses) c.in_ok-insert.ensures.ok
    ∙ one_present c.args.search.now.clauses c.args.kept.now.clauses c.args.position c.in_ok-from_lits.field-0
    (c.in_ok-from_lits.ensures ∙ c.lits.ensures ∙ c.clause-clause.ensures) (sym c.if-not-has_clause.ensures)
