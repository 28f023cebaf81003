use Rattle.std.proofs.Common.{Some}
use Rattle.gh_base.specs.contracts.assignment.Assignment.{the_view}
use Rattle.gh_base.proofs.TableLemmas.{changes_atom}
use Rattle.gh_base.proofs.assignment.Assignment.set.Goals as goal

pub returns-clause-meaning : goal.returns-clause-meaning
returns-clause-meaning c =
    rw (c.number-number.ensures.number, ← c.self.view_is)
    (changes_atom (the_view c.self.inside) c.args.lit.atom (Some c.args.lit.positive) c.self.invariant
    (rw (← c.self.view_is) at c.requires))
