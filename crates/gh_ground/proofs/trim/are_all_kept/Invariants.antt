use Rattle.std.proofs.Common.{All, take}
use Rattle.std.specs.Prelude.{IsTrue}
use Rattle.gh_ground.proofs.trim.are_all_kept.Given as goal

abbrev pub invariant-loop-is_kept : goal.invariant-loop-is_kept
invariant-loop-is_kept l = All IsTrue (take l.is_kept-index l.kept)
