use Rattle.std.proofs.Common.{◌≡◌, take}
use Rattle.gh_small.proofs.bounding.copied.Given as goal

abbrev pub invariant-loop-k : goal.invariant-loop-k
invariant-loop-k l = record {
  copy : l.copy
      ≡ record { sizes = l.fn.ground.sizes; clauses = take l.k l.fn.ground.clauses };
}
