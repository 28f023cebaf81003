use Rattle.std.proofs.Common.{◌≡◌, ◌<◌, ◌∙◌, List, arith, ap, sym, subst, length, Contains}
use Rattle.gh_base.specs.declared.atom.Lit.{Lit}
use Rattle.gh_base.specs.declared.sizes.Sizes.{Sizes}
use Rattle.gh_base.specs.Atoms.{AreInRange, count_of}
use Rattle.gh_sat.specs.Trail.{SearchState, cut, most_clauses}
use Rattle.gh_sat.specs.Watch.{WasOpen, clauses_of}
use Rattle.gh_sat.specs.Learn.{add_clause}
use Rattle.gh_sat.specs.Whole.{IsUnderWay}
use Rattle.gh_sat.specs.contracts.clause_search.ClauseSearch.{the_view}
use Rattle.gh_sat.proofs.ListLemmas.{le_along}
use Rattle.gh_sat.proofs.WholeLemmas.{whole_add, whole_lists, cut_add_whole, cut_is, cut_none}
use Rattle.gh_sat.proofs.clause_search.ClauseSearch.insert_under.Goals.{In_ok-push}
use Rattle.gh_sat.proofs.clause_search.ClauseSearch.insert_under.Goals as goal

pub invariant_of-self : goal.invariant_of-self
invariant_of-self c =
    let i = c.self.invariant in (
      whole_lists (the_view c.self.inside) c.self.inside.counts.items c.self.inside.looked c.self.inside.head
          c.self.inside.occurrences c.note.new.self i.0 c.note.ensures.more,
      i.1,
      i.2,
      i.3,
      i.4,
    )

pub invariant_of-self-in_err-push : goal.invariant_of-self-in_err-push
invariant_of-self-in_err-push c =
    let i = c.self.invariant in
    let s = the_view c.self.inside in
    let h = whole_lists s c.self.inside.counts.items c.self.inside.looked c.self.inside.head c.self.inside.occurrences
    c.note.new.self i.0 c.note.ensures.more in (
      subst (λ (cs : List (List Lit)). IsUnderWay (record s { clauses = cs }) c.self.inside.counts.items
          c.self.inside.looked c.self.inside.head c.note.new.self) (sym c.in_err-push.ensures.items) h,
      i.1,
      i.2,
      i.3,
      i.4,
    )

-- the number stands in the lists of the clause's literals
listed_is : (c : In_ok-push) → (m : Lit) → Contains c.args.clause m
    → Contains (clauses_of (the_view c.self.inside).sizes c.note.new.self m) (length (the_view c.self.inside).clauses)
listed_is c m there =
    let s = the_view c.self.inside in
    let number : c.len-number.result ≡ length s.clauses = omega arith in
    subst (λ n. Contains (clauses_of s.sizes c.note.new.self m) n) number
    (subst (λ (z : Sizes). Contains (clauses_of z c.note.new.self m) c.len-number.result) c.sizes-sizes.ensures.sizes
    (c.in_ok-note.ensures.listed m (subst (λ (l : List Lit). Contains l m) (sym c.lits.ensures) there)))

-- nothing else changes by that
noted : (c : In_ok-push) → IsUnderWay (the_view c.self.inside) c.self.inside.counts.items c.self.inside.looked
    c.self.inside.head c.note.new.self
noted c =
    whole_lists (the_view c.self.inside) c.self.inside.counts.items c.self.inside.looked c.self.inside.head
    c.self.inside.occurrences c.note.new.self c.self.invariant.0 c.note.ensures.more

pub invariant_of-self-2 : goal.invariant_of-self-2
invariant_of-self-2 c =
    let i = c.self.invariant in
    let s = the_view c.self.inside in
    let e = c.cut_to-point.ensures in
    let d = (goal.at.invariant_of-self-2 c).In_ok-push in
    let h = noted d in
    let range : AreInRange s.sizes c.args.clause =
    subst (λ (t : SearchState). AreInRange t.sizes c.args.clause) (sym c.self.view_is) c.requires.range in
    let was : WasOpen (cut s c.args.level).trail (cut s c.args.level).starts c.args.clause =
    subst (λ (t : SearchState). WasOpen (cut t c.args.level).trail (cut t c.args.level).starts c.args.clause)
    (sym c.self.view_is) c.requires.was_open in
    let few : length s.clauses < most_clauses = omega (arith, c.if-len-ge-MOST_CLAUSES.false) in
    let listed = listed_is d in
    let count : count_of c.self.inside.trail.sizes ≡ count_of c.cut_to-point.new.trail.sizes =
    ap count_of (sym e.sizes) in (
      cut_add_whole s c.cut_to-point.new.trail.sizes c.cut_to-point.new.trail.steps c.cut_to-point.new.starts.items
          c.self.inside.counts.items c.cut_to-point.new.counts.items c.self.inside.looked c.self.inside.head
          c.cut_to-point.result.count c.cut_to-point.result.start c.args.level c.note.new.self
          c.args.clause c.push.new.self.items h e.start e.count e.sizes e.steps e.starts e.counts
          c.in_ok-push.ensures.items range was listed few,
      le_along count (sym e.starts_room) i.1,
      le_along count (sym e.counts_room) i.2,
      i.3,
      i.4 ∙ count,
    )

pub returns-clause-ok : goal.returns-clause-ok
returns-clause-ok c =
    let s = the_view c.self.inside in
    let e = c.cut_to-point.ensures in
    cut_is s c.cut_to-point.new.trail.sizes c.push.new.self.items c.cut_to-point.new.trail.steps
    c.cut_to-point.new.starts.items c.cut_to-point.result.start c.args.level e.start e.sizes e.steps e.starts
    ∙ ap (λ (cs : List (List Lit)). record (cut s c.args.level) { clauses = cs }) c.in_ok-push.ensures.items
    ∙ ap (λ (t : SearchState). add_clause (cut t c.args.level) c.args.clause) c.self.view_is

pub invariant_of-self-then-level-len : goal.invariant_of-self-then-level-len
invariant_of-self-then-level-len c =
    let i = c.self.invariant in
    let s = the_view c.self.inside in
    let d = (goal.at.invariant_of-self-then-level-len c).In_ok-push in
    let h = noted d in
    let range : AreInRange s.sizes c.args.clause =
    subst (λ (t : SearchState). AreInRange t.sizes c.args.clause) (sym c.self.view_is) c.requires.range in
    let none : s ≡ cut s c.args.level = cut_none s c.args.level (omega (arith, c.if-level-len.true)) in
    let was : WasOpen s.trail s.starts c.args.clause =
    subst (λ (t : SearchState). WasOpen t.trail t.starts c.args.clause) (sym none)
    (subst (λ (t : SearchState). WasOpen (cut t c.args.level).trail (cut t c.args.level).starts c.args.clause)
    (sym c.self.view_is) c.requires.was_open) in
    let few : length s.clauses < most_clauses = omega (arith, c.if-len-ge-MOST_CLAUSES.false) in
    let listed = listed_is d in (
      subst (λ (cs : List (List Lit)). IsUnderWay (record s { clauses = cs }) c.self.inside.counts.items
          c.self.inside.looked c.self.inside.head c.note.new.self) (sym c.in_ok-push.ensures.items)
          (whole_add s c.self.inside.counts.items c.self.inside.looked c.self.inside.head c.note.new.self
          c.args.clause h range was listed few),
      i.1,
      i.2,
      i.3,
      i.4,
    )

pub returns-then-level-len-clause-ok : goal.returns-then-level-len-clause-ok
returns-then-level-len-clause-ok c =
    let s = the_view c.self.inside in
    ap (λ (cs : List (List Lit)). record s { clauses = cs }) c.in_ok-push.ensures.items
    ∙ ap (λ (t : SearchState). add_clause t c.args.clause)
    (cut_none s c.args.level (omega (arith, c.if-level-len.true)))
    ∙ ap (λ (t : SearchState). add_clause (cut t c.args.level) c.args.clause) c.self.view_is
