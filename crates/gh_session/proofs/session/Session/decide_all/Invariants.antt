use Rattle.std.proofs.Common.{◌≤◌, ◌+◌, drop}
use Rattle.gh_ast.specs.Plain.{program_of}
use Rattle.gh_path.specs.Conditions.{conditions}
use Rattle.gh_path.specs.Walks.{IsWalkBefore}
use Rattle.gh_session.specs.Places.{knowledge}
use Rattle.gh_session.specs.Decided.{AreDecided}
use Rattle.gh_session.proofs.session.Session.decide_all.Given as goal

abbrev pub invariant-loop-place : goal.invariant-loop-place
invariant-loop-place g l = record {
  before : IsWalkBefore (program_of l.typed) l.walk (drop l.place (conditions (program_of l.typed)));
  decided : AreDecided (program_of l.typed) l.place (knowledge l.fn.self) l.decided (knowledge l.self);
  few : l.decided ≤ l.place;
  calls : g.D.Decider.calls l.decider ≤ g.D.Decider.calls l.fn.decider + l.decided;
  rises : g.D.Decider.calls l.fn.decider ≤ g.D.Decider.calls l.decider;
}
