use Rattle.std.proofs.Common.{◌≡◌, ◌-◌, List, length}
use Rattle.gh_ast.specs.Plain.{Program}
use Rattle.gh_path.specs.Conditions.{Condition}
use Rattle.gh_path.specs.Walks.{AreLeft}
use Rattle.gh_path.proofs.walk.Walk.reach.Given as goal

abbrev pub invariant-loop-asked : goal.invariant-loop-asked
invariant-loop-asked l = record {
  left : (P : Program) (cs : List Condition) → AreLeft P l.initial.self cs → AreLeft P l.self cs;
  given : l.self.given ≡ l.initial.self.given;
  end : l.self.end ≡ l.initial.self.end;
}

abbrev pub decreases-loop-asked : goal.decreases-loop-asked
decreases-loop-asked l = length l.self.starts.now.roots.items - l.self.next
