use Rattle.std.proofs.Common.{All, take}
use Rattle.gh_ground.specs.Solving.{IsPlain}
use Rattle.gh_ground.proofs.proposal.are_plain.Given as goal

abbrev pub invariant-loop-place : goal.invariant-loop-place
invariant-loop-place l = All IsPlain (take l.place l.lines)
