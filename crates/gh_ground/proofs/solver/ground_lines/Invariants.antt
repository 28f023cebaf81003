use Rattle.std.proofs.Common.{◌≡◌, All, Some, map, take}
use Rattle.gh_log.specs.Sections.{line_clause, AreOfKind}
use Rattle.gh_log.specs.Spelled.{IsOfVersion}
use Rattle.gh_ground.proofs.solver.ground_lines.Given as goal

abbrev pub invariant-loop-number : goal.invariant-loop-number
invariant-loop-number l = record {
  clauses : map (line_clause l.ground) l.lines ≡ map Some (take l.number l.ground.clauses);
  of_kind : AreOfKind l.ground l.lines;
  version : All (IsOfVersion 2) l.lines;
}
