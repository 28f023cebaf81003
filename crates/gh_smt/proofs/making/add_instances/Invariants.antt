use Rattle.std.proofs.Common.{◌≡◌, ◌++◌, map, All}
use Rattle.gh_inst.specs.Instances.{instances, clause_of, IsInstance}
use Rattle.gh_smt.proofs.making.add_instances.Given as goal

abbrev pub invariant-loop-name : goal.invariant-loop-name
invariant-loop-name l = record {
  left : l.asserted.items ++ map clause_of l.name-iterator
      ≡ l.initial.asserted.items ++ map clause_of (instances l.terms l.versions);
  are : All (IsInstance l.terms l.versions) l.name-iterator;
}
