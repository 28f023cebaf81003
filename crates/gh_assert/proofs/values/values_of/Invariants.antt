use Rattle.std.proofs.Common.{take}
use Rattle.gh_assert.specs.Values.{Give}
use Rattle.gh_assert.specs.Stores.{store_of}
use Rattle.gh_assert.proofs.values.values_of.Given as goal

abbrev pub invariant-loop-expr : goal.invariant-loop-expr
invariant-loop-expr l = Give (store_of l.store) l.heap (take l.expr-index l.exprs) l.values.items
