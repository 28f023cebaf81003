use Rattle.std.proofs.Common.{◌≡◌}
use Rattle.gh_base.specs.Structures.{interpretation_of}
use Rattle.gh_model.specs.BuiltTraces.{stands_at, content_at, cells_below}
use Rattle.gh_model.proofs.build.heap_of.Given as goal

abbrev pub invariant-loop-at : goal.invariant-loop-at
invariant-loop-at l =
    l.heap ≡ cells_below (stands_at (interpretation_of l.structure) l.structure.sizes.terms l.version)
    (content_at (interpretation_of l.structure) l.structure.sizes.terms l.version) l.at
