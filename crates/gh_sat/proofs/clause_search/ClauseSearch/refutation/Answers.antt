use Rattle.std.proofs.Common.{◌≡◌, ◌∙◌, [], ℕ, List, refl, sym, subst, ap}
use Rattle.gh_base.specs.declared.atom.Lit.{Lit}
use Rattle.gh_sat.specs.Trail.{SearchState, IsSound}
use Rattle.gh_sat.specs.Status.{IsFalseClause}
use Rattle.gh_sat.specs.Learn.{IsConflictAt, AreReasons}
use Rattle.gh_sat.specs.contracts.clause_search.ClauseSearch.{the_view}
use Rattle.gh_sat.proofs.ListLemmas.{le_along}
use Rattle.gh_sat.proofs.clause_search.ClauseSearch.refutation.Goals as goal

pub all_reasons-requires-clause-sound : goal.all_reasons-requires-clause-sound
all_reasons-requires-clause-sound c =
    let s = the_view c.self.inside in
    let none : s.starts ≡ [] = ap (λ (t : SearchState). t.starts) c.self.view_is ∙ c.requires.level in
    subst (λ (cs : List (List Lit)). IsSound (record { sizes = s.sizes; clauses = cs; trail = s.trail; starts = [] }))
    (sym c.as_slice-clauses.ensures.value)
    (subst (λ (ss : List ℕ). IsSound (record s { starts = ss })) none c.self.invariant.0.sound)

pub all_reasons-requires-clause-conflict : goal.all_reasons-requires-clause-conflict
all_reasons-requires-clause-conflict c =
    let s = the_view c.self.inside in
    let here : IsConflictAt s c.args.conflict =
    subst (λ (t : SearchState). IsConflictAt t c.args.conflict) (sym c.self.view_is) c.requires.conflict in
    subst (λ (cs : List (List Lit)). IsFalseClause cs s.trail c.args.conflict) (sym c.as_slice-clauses.ensures.value)
    (here.clause, here.at, here.is_false)

pub all_reasons-requires-clause-long : goal.all_reasons-requires-clause-long
all_reasons-requires-clause-long c =
    let i = c.self.invariant in le_along refl (sym i.4) i.0.sound.steps.few

pub returns-clause-reasons : goal.returns-clause-reasons
returns-clause-reasons c =
    let v = c.in_ok-reasons.reasons.items in
    subst (λ (t : SearchState). AreReasons t.clauses v []) c.self.view_is
    (subst (λ (cs : List (List Lit)). AreReasons cs v []) c.as_slice-clauses.ensures.value
    c.in_ok-reasons.ensures.reasons)
