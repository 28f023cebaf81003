use Rattle.std.proofs.Common.{◌≡◌, sym, subst, arith, OnOk}
use Rattle.gh_sat.specs.Trail.{SearchState}
use Rattle.gh_sat.specs.Watch.{WasOpen}
use Rattle.gh_sat.specs.Learn.{add_clause}
use Rattle.gh_sat.proofs.WholeLemmas.{cut_none}
use Rattle.gh_sat.proofs.clause_search.ClauseSearch.insert.Goals as goal

pub insert_under-requires-clause-was_open : goal.insert_under-requires-clause-was_open
insert_under-requires-clause-was_open c =
    subst (λ (t : SearchState). WasOpen t.trail t.starts c.args.clause)
    (cut_none c.args.self.now c.level-level.result (omega (arith, c.level-level.ensures))) c.requires.was_open

pub returns-clause-ok : goal.returns-clause-ok
returns-clause-ok c =
    subst (λ (t : SearchState). OnOk c.insert_under.result (c.insert_under.new.self ≡ add_clause t c.args.clause))
    (sym (cut_none c.args.self.now c.level-level.result (omega (arith, c.level-level.ensures))))
    c.insert_under.ensures.ok
