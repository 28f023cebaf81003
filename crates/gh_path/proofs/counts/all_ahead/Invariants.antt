use Rattle.std.proofs.Common.{◌≡◌, take, map}
use Rattle.gh_ast.specs.Plain.{procedure_of}
use Rattle.gh_path.specs.Counting.{procedure_ahead}
use Rattle.gh_path.proofs.counts.all_ahead.Given as goal

abbrev pub invariant-loop-procedure : goal.invariant-loop-procedure
invariant-loop-procedure l =
    l.found.items ≡ map procedure_ahead (map procedure_of (take l.procedure-index l.procedures))
