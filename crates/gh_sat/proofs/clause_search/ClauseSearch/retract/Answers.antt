use Rattle.std.proofs.Common.{◌≡◌, ◌≤◌, ◌<◌, ◌∙◌, ℕ, List, Some, refl, ap, sym, subst, length}
use Rattle.std.specs.Prelude.{slice_get}
use Rattle.gh_base.specs.declared.sizes.Sizes.{Sizes}
use Rattle.gh_base.specs.Atoms.{count_of}
use Rattle.gh_sat.specs.declared.trail.Step.{Step}
use Rattle.gh_sat.specs.Trail.{SearchState}
use Rattle.gh_sat.specs.Whole.{IsUnderWay}
use Rattle.gh_sat.specs.contracts.clause_search.ClauseSearch.{the_view}
use Rattle.gh_sat.proofs.ListLemmas.{le_along}
use Rattle.gh_sat.proofs.WholeLemmas.{whole_retract}
use Rattle.gh_sat.proofs.clause_search.ClauseSearch.retract.Goals as goal

pub invariant_of-self : goal.invariant_of-self
invariant_of-self c =
    let s = the_view c.self.inside in
    let i = c.self.invariant in
    let e = c.erase.ensures in
    let r = c.requires in
    let within : c.args.place ≤ length s.trail =
    subst (λ (t : SearchState). c.args.place ≤ length t.trail) (sym c.self.view_is) r.within in
    let present : (level start : ℕ) → slice_get s.starts level ≡ Some start → start < c.args.place =
    subst (λ (t : SearchState). (level start : ℕ) → slice_get t.starts level ≡ Some start → start < c.args.place)
    (sym c.self.view_is) r.present in
    let levels : length s.starts ≤ c.args.place =
    subst (λ (t : SearchState). length t.starts ≤ c.args.place) (sym c.self.view_is) r.levels in
    let count : count_of s.sizes ≡ count_of c.erase.new.self.sizes = ap count_of (sym e.sizes) in (
      subst (λ (z : Sizes). IsUnderWay (record {
        sizes = z;
        clauses = s.clauses;
        trail = c.erase.new.self.steps;
        starts = s.starts;
      }) c.self.inside.counts.items 0 c.args.place c.self.inside.occurrences) (sym e.sizes)
          (subst (λ (t : List Step). IsUnderWay (record s { trail = t }) c.self.inside.counts.items 0 c.args.place
          c.self.inside.occurrences) (sym e.steps)
          (whole_retract s c.self.inside.counts.items c.self.inside.looked c.self.inside.head c.args.place
          c.self.inside.occurrences i.0 within present levels)),
      le_along count refl i.1,
      le_along count refl i.2,
      i.3,
      i.4 ∙ count,
    )
