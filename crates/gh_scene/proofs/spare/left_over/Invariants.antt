use Rattle.gh_assert.specs.Stores.{store_of}
use Rattle.gh_scene.proofs.Leaving.{LeadsBack}
use Rattle.gh_scene.proofs.spare.left_over.Given as goal

abbrev pub invariant-loop-alternative : goal.invariant-loop-alternative
invariant-loop-alternative l = LeadsBack l.alternatives l.alternative-index (store_of l.store) l.heap
