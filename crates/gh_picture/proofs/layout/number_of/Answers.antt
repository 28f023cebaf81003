use Rattle.std.specs.Prelude.{◌≡◌, ℕ, ◌<◌, List, length, Option, Some, None, IfSome}
use Rattle.std.proofs.Common.{sym, ◌∙◌}
use Rattle.gh_assert.specs.declared.heap.Cell.{Cell}
use Rattle.gh_picture.specs.Spots.{number_in, no_cell}
use Rattle.gh_picture.proofs.Numbers.{number_found, number_some}
use Rattle.gh_picture.proofs.layout.number_of.Goals as goal

pub returns-clause-number : goal.returns-clause-number
returns-clause-number c =
    c.ok.ensures.value ∙ sym (number_found c.args.cells.now c.args.at c.place.result c.requires c.place.ensures)

within : (cs : List Cell) (at : ℕ) (o : Option ℕ) → number_in cs at ≡ o → IfSome o (λ i. i < length cs)
within cs at None e = tt
within cs at (Some i) e = (number_some cs at i no_cell e).0

pub returns-clause-within : goal.returns-clause-within
returns-clause-within c = within c.args.cells.now c.args.at c.ok.result (sym (returns-clause-number c))
