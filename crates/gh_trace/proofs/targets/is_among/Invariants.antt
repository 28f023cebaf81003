use Rattle.std.proofs.Common.{drop}
use Rattle.std.specs.Prelude.{◌↔◌, Contains}
use Rattle.gh_ast.specs.Programs.{names}
use Rattle.gh_trace.proofs.targets.is_among.Given as goal

abbrev pub invariant-loop-occurrence : goal.invariant-loop-occurrence
invariant-loop-occurrence l =
    Contains (names (drop l.occurrence-index l.occurrences)) l.name ↔ Contains (names l.occurrences) l.name
