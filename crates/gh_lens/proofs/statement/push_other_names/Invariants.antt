use Rattle.std.proofs.Common.{◌≡◌, ◌++◌, drop}
use Rattle.gh_ast.specs.Programs.{names}
use Rattle.gh_lens.specs.Statements.{others_text}
use Rattle.gh_lens.proofs.statement.push_other_names.Given as goal

abbrev pub invariant-loop-occ : goal.invariant-loop-occ
invariant-loop-occ l =
    l.text ++ others_text (names (drop l.occ-index l.occs)) ≡ l.initial.text ++ others_text (names l.occs)
