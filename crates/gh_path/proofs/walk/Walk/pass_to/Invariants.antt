use Rattle.std.proofs.Common.{◌≤◌, ◌-◌, List, drop, max}
use Rattle.gh_ast.specs.Plain.{Program}
use Rattle.gh_path.specs.Conditions.{Condition}
use Rattle.gh_path.specs.Walks.{IsWalkBefore}
use Rattle.gh_path.proofs.walk.Walk.pass_to.Given as goal

abbrev pub invariant-loop-self : goal.invariant-loop-self
invariant-loop-self l = record {
  low : l.initial.self.given ≤ l.self.given;
  near : l.self.given ≤ max l.place l.initial.self.given;
  passed : (P : Program) (cs : List Condition) → IsWalkBefore P l.initial.self cs →
      IsWalkBefore P l.self (drop (l.self.given - l.initial.self.given) cs);
}

abbrev pub decreases-loop-self : goal.decreases-loop-self
decreases-loop-self l = l.place - l.self.given
