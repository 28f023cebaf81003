use Rattle.std.proofs.Common.{None}
use Rattle.gh_base.specs.Structures.{interpretation_of}
use Rattle.gh_inst.specs.Table.{row_of}
use Rattle.gh_inst.specs.Violations.{IsInstanceTrue}
use Rattle.gh_inst.specs.Search.{IsSearched}
use Rattle.gh_inst.proofs.ViolationLemmas.{instances_before}
use Rattle.gh_inst.proofs.violation.first_in_row.Given as goal

abbrev pub invariant-loop-version : goal.invariant-loop-version
invariant-loop-version l =
    IsSearched (IsInstanceTrue (interpretation_of l.structure))
    (instances_before l.structure.sizes.terms l.structure.sizes.versions l.version (row_of l.number l.row)) None
