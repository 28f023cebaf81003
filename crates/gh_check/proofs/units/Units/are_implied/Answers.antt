use Rattle.std.proofs.Common.{◌≡◌, ◌↔◌, ◌∙◌, take, IsTrue, MatchOption, sym, subst}
use Rattle.gh_base.specs.Atoms.{AreInRange}
use Rattle.gh_base.specs.Propagation.{FollowsByUnits}
use Rattle.gh_check.specs.Kept.{AreWithin, present}
use Rattle.gh_check.specs.Assuming.{HasClauses}
use Rattle.gh_check.proofs.UnitsLemmas.{made_has, all_taken}
use Rattle.gh_check.proofs.units.Units.are_implied.Goals as goal

pub insert_from-requires-clause-taken : goal.insert_from-requires-clause-taken
insert_from-requires-clause-taken c =
    let entries = c.args.kept.now.clauses in let n = c.args.self.now.taken in
    let before =
    subst (λ o. MatchOption o (n ≡ 0) (λ s. HasClauses c.args.sizes (present (take n entries)) s))
    (sym c.take.ensures.value) c.requires.behind.search in
    (made_has c.args.sizes entries n c.take.result c.in_ok-search.search before c.in_ok-search.ensures).clauses_are

pub insert_from-requires-clause-level : goal.insert_from-requires-clause-level
insert_from-requires-clause-level c =
    let entries = c.args.kept.now.clauses in let n = c.args.self.now.taken in
    let before =
    subst (λ o. MatchOption o (n ≡ 0) (λ s. HasClauses c.args.sizes (present (take n entries)) s))
    (sym c.take.ensures.value) c.requires.behind.search in
    (made_has c.args.sizes entries n c.take.result c.in_ok-search.search before c.in_ok-search.ensures).level

pub insert_from-requires-clause-within : goal.insert_from-requires-clause-within
insert_from-requires-clause-within c =
    let entries = c.args.kept.now.clauses in let n = c.args.self.now.taken in
    let before =
    subst (λ o. MatchOption o (n ≡ 0) (λ s. HasClauses c.args.sizes (present (take n entries)) s))
    (sym c.take.ensures.value) c.requires.behind.search in
    let has = made_has c.args.sizes entries n c.take.result c.in_ok-search.search before c.in_ok-search.ensures in
    subst (λ s. AreWithin s entries) (sym has.sizes_are) c.requires.within

pub is_implied-implied-requires-clause-range : goal.is_implied-implied-requires-clause-range
is_implied-implied-requires-clause-range c =
    let entries = c.args.kept.now.clauses in let n = c.args.self.now.taken in
    let before =
    subst (λ o. MatchOption o (n ≡ 0) (λ s. HasClauses c.args.sizes (present (take n entries)) s))
    (sym c.take.ensures.value) c.requires.behind.search in
    let has = made_has c.args.sizes entries n c.take.result c.in_ok-search.search before c.in_ok-search.ensures in
    subst (λ s. AreInRange s c.args.lits.now) (sym (c.in_ok-insert_from.ensures.sizes ∙ has.sizes_are)) c.requires.range

pub returns-clause-exact : goal.returns-clause-exact
returns-clause-exact c =
    subst (λ cs. IsTrue c.is_implied-implied.result ↔ FollowsByUnits cs c.args.lits.now)
    c.in_ok-insert_from.ensures.clauses c.is_implied-implied.ensures.exact

pub returns-clause-behind : goal.returns-clause-behind
returns-clause-behind c =
    let entries = c.args.kept.now.clauses in let n = c.args.self.now.taken in
    let before =
    subst (λ o. MatchOption o (n ≡ 0) (λ s. HasClauses c.args.sizes (present (take n entries)) s))
    (sym c.take.ensures.value) c.requires.behind.search in
    let has = made_has c.args.sizes entries n c.take.result c.in_ok-search.search before c.in_ok-search.ensures in
    let implied = c.is_implied-implied.ensures in
    all_taken c.args.sizes entries c.count-self.result c.is_implied-implied.new.search c.count-self.ensures
    (record {
      sizes_are = implied.sizes ∙ c.in_ok-insert_from.ensures.sizes ∙ has.sizes_are;
      clauses_are = implied.clauses ∙ c.in_ok-insert_from.ensures.clauses;
      level = implied.level;
    })
