use Rattle.std.specs.List.{flat_map, range_with_len}
use Rattle.gh_smt.specs.Texts.{Adds}
use Rattle.gh_smt.specs.Kinds.{declared_text}
use Rattle.gh_smt.proofs.writing.put_all_declared.Given as goal

abbrev pub invariant-loop-number : goal.invariant-loop-number
invariant-loop-number l = Adds l.initial.out l.out (flat_map (declared_text l.kind) (range_with_len 0 l.number))
