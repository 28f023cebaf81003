use Rattle.std.proofs.Common.{◌≡◌, ◌++◌, map, drop}
use Rattle.gh_ast.specs.Plain.{procedure_of}
use Rattle.gh_path.specs.Walking.{loop_of}
use Rattle.gh_lens.specs.Assertions.{invariant_of, subjects_of}
use Rattle.gh_lens.specs.Stated.{subject_of}
use Rattle.gh_lens.proofs.remarks.all_stated.Given as goal

abbrev pub invariant-loop-round : goal.invariant-loop-round
invariant-loop-round l =
    map subject_of l.all.items
    ++ map (invariant_of (procedure_of l.procedure)) (map loop_of (drop l.round-index l.round-items))
    ≡ subjects_of (procedure_of l.procedure)
