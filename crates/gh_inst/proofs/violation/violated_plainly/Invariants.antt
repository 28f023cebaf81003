use Rattle.gh_base.specs.Structures.{interpretation_of}
use Rattle.gh_inst.specs.Instances.{instances}
use Rattle.gh_inst.specs.Violations.{IsInstanceTrue}
use Rattle.gh_inst.proofs.ViolationLemmas.{HasLeft}
use Rattle.gh_inst.proofs.violation.violated_plainly.Given as goal

abbrev pub invariant-loop-name : goal.invariant-loop-name
invariant-loop-name l =
    HasLeft (IsInstanceTrue (interpretation_of l.structure))
    (instances l.structure.sizes.terms l.structure.sizes.versions) l.name-iterator
