use Rattle.std.proofs.Common.{◌≡◌, ◌+◌}
use Rattle.gh_small.proofs.bounding.define_all.Given as goal

abbrev pub invariant-loop : goal.invariant-loop
invariant-loop l = record {
  sizes : l.ground
      ≡ record l.initial.ground
      { sizes = record l.initial.ground.sizes { defs = l.initial.ground.sizes.defs + l.counter } };
}
