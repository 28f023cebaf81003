use Rattle.gh_path.proofs.CalleeLemmas.{AsFar}
use Rattle.gh_path.proofs.lowering.Lowering.callee.Given as goal

abbrev pub invariant-loop-place : goal.invariant-loop-place
invariant-loop-place l = AsFar l.procedures l.callee.name l.place
