use Rattle.std.proofs.Common.{drop, map}
use Rattle.gh_ast.specs.Plain.{assertion_of}
use Rattle.gh_assert.specs.Meaning.{MeetsOneOf}
use Rattle.gh_assert.specs.Stores.{store_of}
use Rattle.gh_assert.proofs.meaning.meets_one_of.Given as goal

-- what the heap meets is among the alternatives that are left
abbrev pub invariant-loop-alternative : goal.invariant-loop-alternative
invariant-loop-alternative l =
    MeetsOneOf (map assertion_of l.alternatives) (store_of l.store) l.heap
    → MeetsOneOf (map assertion_of (drop l.alternative-index l.alternatives)) (store_of l.store) l.heap
