use Rattle.std.proofs.Common.{take, IsTrue, ◌↔◌}
use Rattle.std.specs.Prelude.{Any}
use Rattle.gh_ast.specs.Rules.{IsLink}
use Rattle.gh_types.specs.Checks.{FieldsErrors}
use Rattle.gh_types.specs.Faults.{IsFirstOf}
use Rattle.gh_types.proofs.fields.in_struct.Given as goal

abbrev pub invariant-loop-field : goal.invariant-loop-field
invariant-loop-field l = record {
  linked : IsTrue l.linked ↔ Any IsLink (take l.field-index l.fields);
  first : IsFirstOf (FieldsErrors (take l.field-index l.fields)) l.first;
}
