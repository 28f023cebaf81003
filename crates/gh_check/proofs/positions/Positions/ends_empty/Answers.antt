use Rattle.std.proofs.Common.{◌≡◌, ◌-◌, ◌∙◌, None, List, Option, length, sym, ap}
use Rattle.std.specs.Prelude.{slice_index_or}
use Rattle.gh_base.specs.declared.atom.Lit.{Lit}
use Rattle.gh_check.specs.Kept.{Kept}
use Rattle.gh_check.proofs.PositionLemmas.{last_place, empty_forth, empty_back, none_empty}
use Rattle.gh_check.proofs.positions.Positions.ends_empty.Goals as goal

pub returns-then-not-has_clause : goal.returns-then-not-has_clause
returns-then-not-has_clause c =
    let i = c.self.inside in
    let os = c.args.self.now.clauses in
    let place : length os - 1 ≡ i.taken =
    sym (ap (λ (k : Kept). length k.clauses - 1) c.self.view_is)
    ∙ last_place i.ground.now i.lines.now i.taken i.deleted.items c.self.invariant in (
      (λ t. absurd (cc)),
      λ e. absurd
          (none_empty (slice_index_or os i.taken None) (sym c.if-not-has_clause.ensures)
          (sym (ap (λ n. slice_index_or os n None) place) ∙ e)),
    )

pub returns : goal.returns
returns c =
    let i = c.self.inside in
    let os = c.args.self.now.clauses in
    let o : Option (List Lit) = slice_index_or os i.taken None in
    let place : length os - 1 ≡ i.taken =
    sym (ap (λ (k : Kept). length k.clauses - 1) c.self.view_is)
    ∙ last_place i.ground.now i.lines.now i.taken i.deleted.items c.self.invariant in
    let is = ap (λ n. slice_index_or os n None) place in (
      (λ t. is ∙ empty_forth o (sym c.if-not-has_clause.ensures)
          (sym c.clause-clause.ensures ∙ c.is_empty.ensures.0 t)),
      λ e. c.is_empty.ensures.1 (c.clause-clause.ensures ∙ empty_back o (sym is ∙ e)),
    )
