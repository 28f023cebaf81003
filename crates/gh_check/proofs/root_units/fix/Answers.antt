use Rattle.std.proofs.Common.{sym, ap, subst}
use Rattle.std.proofs.lemmas.List.Elements.{All-contains}
use Rattle.gh_base.specs.declared.atom.Lit.{Lit}
use Rattle.gh_base.specs.Atoms.{IsInRange}
use Rattle.gh_check.specs.Kept.{present, clause_at}
use Rattle.gh_check.specs.Truths.{TruthSet}
use Rattle.gh_check.specs.RootUnits.{AreGivenBy}
use Rattle.gh_check.proofs.TruthLemmas.{at_within}
use Rattle.gh_check.proofs.RootUnitsLemmas.{standing_in, given_more}
use Rattle.gh_check.proofs.root_units.fix.Goals as goal

pub add-requires-clause-range : goal.add-requires-clause-range
add-requires-clause-range c =
    All-contains (λ (l : Lit). IsInRange c.args.fixed.now.sizes l.atom) (clause_at c.args.kept.now c.args.position)
    c.in-Unit.lit
    (at_within c.args.fixed.now.sizes c.args.kept.now c.args.position c.requires.within) c.in-Unit.ensures.there

pub returns-in_ok-add-in-Unit-clause-given : goal.returns-in_ok-add-in-Unit-clause-given
returns-in_ok-add-in-Unit-clause-given c =
    let clauses = present c.args.kept.now.clauses in
    λ h. subst (AreGivenBy clauses) (sym (ap (λ (t : TruthSet). t.lits) c.in_ok-add-in-Unit.ensures.added))
    (given_more clauses (clause_at c.args.kept.now c.args.position) c.args.fixed.now.lits c.in-Unit.lit
    (standing_in c.args.kept.now c.args.position (sym c.if-not-stands.ensures)) c.in-Unit.ensures h)
