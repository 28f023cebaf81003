use Rattle.std.proofs.Common.{◌≡◌, map, drop}
use Rattle.gh_symb.specs.Formulas.{successors_from}
use Rattle.gh_symb.specs.Encodings.{plain_kind}
use Rattle.gh_reduce.specs.Growth.{stated_in}
use Rattle.gh_reduce.proofs.ground.add_successors.Given as goal

abbrev pub invariant-loop-t : goal.invariant-loop-t
invariant-loop-t l = record {
  state : stated_in l.ground (successors_from l.version l.t (map plain_kind (drop l.t l.terms)))
      ≡ stated_in l.initial.ground (successors_from l.version 0 (map plain_kind l.terms));
  terms : l.ground.sizes.terms ≡ l.initial.ground.sizes.terms;
  versions : l.ground.sizes.versions ≡ l.initial.ground.sizes.versions;
}
