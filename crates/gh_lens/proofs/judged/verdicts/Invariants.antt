use Rattle.std.proofs.Common.{drop, take}
use Rattle.gh_ast.specs.Plain.{program_of}
use Rattle.gh_path.specs.Conditions.{conditions}
use Rattle.gh_path.specs.Walks.{IsWalkBefore}
use Rattle.gh_lens.specs.Judgements.{AreJudged}
use Rattle.gh_lens.proofs.judged.verdicts.Given as goal

abbrev pub invariant-loop-place : goal.invariant-loop-place
invariant-loop-place g l = record {
  before : IsWalkBefore (program_of l.typed) l.walk (drop l.place (conditions (program_of l.typed)));
  judged : AreJudged (program_of l.typed) 1 (take l.place (conditions (program_of l.typed))) l.all.items;
}
