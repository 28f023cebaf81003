use Rattle.std.proofs.Common.{List, sym, subst}
use Rattle.gh_base.specs.declared.atom.Lit.{Lit}
use Rattle.gh_sat.specs.Watch.{WasOpen}
use Rattle.gh_sat.proofs.clause_search.ClauseSearch.keep.Goals as goal

pub insert-requires-clause-was_open : goal.insert-requires-clause-was_open
insert-requires-clause-was_open c =
    subst (λ (x : List Lit). WasOpen c.args.self.now.trail c.args.self.now.starts x) (sym c.in_ok-added.ensures)
    c.requires.was_open
