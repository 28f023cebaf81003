use Rattle.gh_base.specs.contracts.structure.Structure.{the_view}
use Rattle.gh_base.proofs.TableLemmas.{changes_truth}
use Rattle.gh_base.proofs.structure.Structure.set.Goals as goal

pub returns-clause-meaning : goal.returns-clause-meaning
returns-clause-meaning c =
    rw (c.number-number.ensures.number, ← c.self.view_is)
    (changes_truth (the_view c.self.inside) c.args.atom c.args.value c.self.invariant
    (rw (← c.self.view_is) at c.requires.in_range) c.requires.table)
