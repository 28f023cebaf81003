use Rattle.std.proofs.Common.{◌≡◌, ◌≤◌, ◌∙◌, arith, sym, subst, ap, length}
use Rattle.gh_base.specs.Atoms.{count_of}
use Rattle.gh_sat.specs.Trail.{SearchState, cut}
use Rattle.gh_sat.specs.contracts.clause_search.ClauseSearch.{the_view}
use Rattle.gh_sat.proofs.ListLemmas.{le_along}
use Rattle.gh_sat.proofs.WholeLemmas.{cut_whole, cut_is, cut_none}
use Rattle.gh_sat.proofs.clause_search.ClauseSearch.backjump.Goals as goal

pub invariant_of-self : goal.invariant_of-self
invariant_of-self c =
    let s = the_view c.self.inside in
    let i = c.self.invariant in
    let e = c.cut_to-point.ensures in
    let count : count_of c.self.inside.trail.sizes ≡ count_of c.cut_to-point.new.trail.sizes =
    ap count_of (sym e.sizes) in (
      cut_whole s c.cut_to-point.new.trail.sizes c.cut_to-point.new.trail.steps c.cut_to-point.new.starts.items
          c.self.inside.counts.items c.cut_to-point.new.counts.items c.self.inside.looked c.self.inside.head
          c.cut_to-point.result.count c.cut_to-point.result.start c.args.level c.self.inside.occurrences
          i.0 e.start e.count e.sizes e.steps e.starts e.counts,
      le_along count (sym e.starts_room) i.1,
      le_along count (sym e.counts_room) i.2,
      i.3,
      i.4 ∙ count,
    )

pub returns-then-level-len : goal.returns-then-level-len
returns-then-level-len c =
    let s = the_view c.self.inside in
    let e = c.cut_to-point.ensures in
    cut_is s c.cut_to-point.new.trail.sizes s.clauses c.cut_to-point.new.trail.steps c.cut_to-point.new.starts.items
    c.cut_to-point.result.start c.args.level e.start e.sizes e.steps e.starts
    ∙ ap (λ (t : SearchState). cut t c.args.level) c.self.view_is

pub returns-else-level-len : goal.returns-else-level-len
returns-else-level-len c =
    let s = c.args.self.now in
    let long : length s.starts ≤ c.args.level =
    subst (λ (t : SearchState). length t.starts ≤ c.args.level) c.self.view_is (omega (arith, c.if-level-len.false)) in
    cut_none s c.args.level long
