use Rattle.std.proofs.Common.{ap, sym, subst, true, ◌≡◌}
use Rattle.std.specs.Prelude.{All}
use Rattle.gh_assert.specs.Heaps.{IsEmpty}
use Rattle.gh_assert.proofs.Marks.{rest_empty, empty_marks}
use Rattle.gh_assert.proofs.remaining.Remaining.is_empty.Goals as goal

pub returns : goal.returns
returns c =
    let cells = c.self.inside.cells.now in
    let marks = c.self.inside.taken.items in
    let rest = ap (λ p. p.1) c.self.view_is in (
      λ yes'. subst IsEmpty rest
          (rest_empty cells marks c.self.invariant.0 c.self.invariant.1
          (subst (All (λ m. m ≡ true)) c.as_slice.ensures.value (c.all_true.ensures.0 yes'))),
      λ none. c.all_true.ensures.1
          (subst (All (λ m. m ≡ true)) (sym c.as_slice.ensures.value)
          (empty_marks cells marks c.self.invariant.0 c.self.invariant.1 (subst IsEmpty (sym rest) none))),
    )
