use Rattle.std.proofs.Common.{map, take}
use Rattle.std.specs.List.{flat_map}
use Rattle.gh_ast.specs.Plain.{procedure_of}
use Rattle.gh_lens.specs.Assertions.{subjects_of, AreRemarks}
use Rattle.gh_lens.proofs.remarks.remarks.Given as goal

abbrev pub invariant-loop-procedure : goal.invariant-loop-procedure
invariant-loop-procedure l =
    AreRemarks (flat_map subjects_of (map procedure_of (take l.procedure-index l.procedure-items))) l.all.items
