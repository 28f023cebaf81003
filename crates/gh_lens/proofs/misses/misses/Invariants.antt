use Rattle.std.proofs.Common.{map, take}
use Rattle.gh_ast.specs.Plain.{assertion_of}
use Rattle.gh_assert.specs.Stores.{store_of}
use Rattle.gh_lens.specs.Misses.{AreMisses}
use Rattle.gh_lens.proofs.misses.misses.Given as goal

abbrev pub invariant-loop-alternative : goal.invariant-loop-alternative
invariant-loop-alternative l =
    AreMisses (map assertion_of (take l.alternative-index l.alternatives)) (store_of l.store) l.heap l.text
