use Rattle.std.proofs.Common.{◌≡◌}
use Rattle.gh_cc.specs.Partitions.{rep_of}
use Rattle.gh_cc.specs.Uses.{class_times}
use Rattle.gh_cc.proofs.moving.class_times.Given as goal

abbrev pub invariant-loop-t : goal.invariant-loop-t
invariant-loop-t l = l.sum ≡ class_times l.uses.list (rep_of l.partition) l.class.0 l.t
