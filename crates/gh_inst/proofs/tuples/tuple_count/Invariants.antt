use Rattle.std.proofs.Common.{◌≡◌, ◌^◌}
use Rattle.gh_inst.proofs.tuples.tuple_count.Given as goal

abbrev pub invariant-loop-done : goal.invariant-loop-done
invariant-loop-done l = l.count ≡ l.terms ^ l.done
