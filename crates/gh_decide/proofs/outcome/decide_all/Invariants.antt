use Rattle.std.proofs.Common.{drop}
use Rattle.gh_ast.specs.Plain.{program_of}
use Rattle.gh_path.specs.Conditions.{conditions}
use Rattle.gh_path.specs.Walks.{IsWalkBefore}
use Rattle.gh_decide.specs.Decided.{AreDecided}
use Rattle.gh_decide.proofs.outcome.decide_all.Given as goal

abbrev pub invariant-loop-place : goal.invariant-loop-place
invariant-loop-place l = record {
  before : IsWalkBefore (program_of l.typed) l.walk (drop l.place (conditions (program_of l.typed)));
  decided : AreDecided (program_of l.typed) l.place l.sections.items;
}
