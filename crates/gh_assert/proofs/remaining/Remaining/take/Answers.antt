use Rattle.std.proofs.Common.{◌∙◌, sym, ap}
use Rattle.std.specs.FinMap.{get, remove}
use Rattle.gh_assert.specs.declared.heap.Cell.{Cell}
use Rattle.gh_assert.proofs.CellLists.{map_untaken}
use Rattle.gh_assert.proofs.Marks.{left_here, taken_here, left_gap, marking_removes}
use Rattle.gh_assert.proofs.remaining.Remaining.take.Goals as goal

abbrev blank : Cell
blank = record { at = 0; to = 0 }

pub returns-clause-content : goal.returns-clause-content
returns-clause-content c =
    left_here c.self.inside.cells.now c.self.inside.taken.items c.args.at c.in-Ok.i blank c.index.result.now
    c.self.invariant.0 c.self.invariant.1 c.in-Ok.ensures (sym c.index.ensures ∙ c.if-index.false)
    ∙ ap (λ p. get p.1 c.args.at) c.self.view_is

pub returns-clause-rest : goal.returns-clause-rest
returns-clause-rest c =
    marking_removes c.self.inside.cells.now c.self.inside.taken.items c.args.at c.in-Ok.i blank c.self.invariant.1
    c.in-Ok.ensures ∙ ap (λ p. remove p.1 c.args.at) c.self.view_is

pub returns-clause-not_null : goal.returns-clause-not_null
returns-clause-not_null c null =
    c.self.invariant.0.not_null c.in-Ok.i blank c.in-Ok.ensures.within (c.in-Ok.ensures.here blank ∙ null)

pub returns-then-index-clause-content : goal.returns-then-index-clause-content
returns-then-index-clause-content c =
    taken_here c.self.inside.cells.now c.self.inside.taken.items c.args.at c.in-Ok.i blank c.index.result.now
    c.self.invariant.0 c.self.invariant.1 c.in-Ok.ensures (sym c.index.ensures ∙ c.if-index.true)
    ∙ ap (λ p. get p.1 c.args.at) c.self.view_is

pub returns-then-index-clause-rest : goal.returns-then-index-clause-rest
returns-then-index-clause-rest c = map_untaken c.args.self.now.1 c.args.at (sym (returns-then-index-clause-content c))

pub returns-in_default-clause-content : goal.returns-in_default-clause-content
returns-in_default-clause-content c =
    left_gap c.self.inside.cells.now c.self.inside.taken.items c.args.at c.in_default.field-0 c.self.invariant.0
    c.in_default.ensures ∙ ap (λ p. get p.1 c.args.at) c.self.view_is

pub returns-in_default-clause-rest : goal.returns-in_default-clause-rest
returns-in_default-clause-rest c = map_untaken c.args.self.now.1 c.args.at (sym (returns-in_default-clause-content c))
