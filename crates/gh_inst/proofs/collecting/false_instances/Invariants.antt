use Rattle.std.proofs.Common.{ℕ, ◌<◌, []}
use Rattle.gh_base.specs.Structures.{interpretation_of}
use Rattle.gh_inst.specs.Collecting.{Gathers, IsUpTo, VersionHolds, AreNamed, place}
use Rattle.gh_inst.proofs.collecting.false_instances.Given as goal

abbrev pub invariant-loop-version : goal.invariant-loop-version
invariant-loop-version l = record {
  gathers : Gathers l.structure.sizes (interpretation_of l.structure) [] l.found.items
      ((v : ℕ) → v < l.version → VersionHolds l.structure.sizes (interpretation_of l.structure) v);
  named : (v : ℕ) → v < l.version → AreNamed l.structure.sizes (interpretation_of l.structure) v l.found.items;
  up : IsUpTo (place l.version 0 0 0) l.found.items;
}
