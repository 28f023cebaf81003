use Rattle.std.proofs.Common.{take}
use Rattle.std.specs.List.{flat_map}
use Rattle.gh_ast.specs.Printed.{Adds, field_shown}
use Rattle.gh_ast.proofs.print.put_fields.Given as goal

abbrev pub invariant-loop-field : goal.invariant-loop-field
invariant-loop-field l = Adds l.initial.out l.out (flat_map field_shown (take l.field-index l.fields))
