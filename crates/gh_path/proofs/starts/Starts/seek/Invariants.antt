use Rattle.std.proofs.Common.{◌≤◌, List, drop}
use Rattle.gh_ast.specs.Plain.{Program}
use Rattle.gh_path.specs.Conditions.{Condition}
use Rattle.gh_path.specs.Roots.{AreRoots, AreStarts, IsAfter}
use Rattle.gh_path.proofs.starts.Starts.seek.Given as goal

abbrev pub invariant-loop-index : goal.invariant-loop-index
invariant-loop-index l = record {
  low : l.before ≤ l.fn.place;
  after : (P : Program) (cs : List Condition) → AreStarts P l.fn.self cs →
      (ds : List Condition) × AreRoots P l.fn.self.nodes (drop l.index l.root-items) ds
      × IsAfter cs l.fn.place ds l.before;
}
