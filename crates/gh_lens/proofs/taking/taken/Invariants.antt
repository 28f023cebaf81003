use Rattle.std.proofs.Common.{drop}
use Rattle.gh_ast.specs.Plain.{assertions_view}
use Rattle.gh_assert.specs.Stores.{store_of}
use Rattle.gh_lens.proofs.Parting.{GoesOn}
use Rattle.gh_lens.proofs.taking.taken.Given as goal

abbrev pub invariant-loop-conjunct : goal.invariant-loop-conjunct
invariant-loop-conjunct l =
    GoesOn (assertions_view l.conjuncts) (store_of l.store) l.heap (assertions_view (drop l.conjunct-index l.conjuncts))
    l.rest
