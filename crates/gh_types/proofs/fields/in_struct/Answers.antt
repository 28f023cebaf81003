use Rattle.std.proofs.Common.{arith}
use Rattle.gh_types.proofs.FieldLemmas.{linked_more, fields_more, struct_whole}
use Rattle.gh_types.proofs.fields.in_struct.Goals as goal

pub loop-field-preserved : goal.loop-field-preserved
loop-field-preserved c = record {
  linked =
      linked_more c.args.fields.now c.loop-field.field-index c.field-item.result _ _ (omega arith) c.field-item.is
      c.loop-field.invariant.linked c.is_link-linked.ensures;
  first =
      fields_more c.args.fields.now c.loop-field.field-index c.field-item.result c.loop-field.linked _ _ _ (omega arith)
      c.field-item.is c.loop-field.invariant.linked c.earlier-first.ensures c.loop-field.invariant.first
      c.in_field.ensures;
}

pub returns : goal.returns
returns c =
    struct_whole c.args.fields.now c.args.close c.loop-field.field-index c.loop-field.linked _ _ _ (omega arith)
    c.loop-field.invariant.linked c.earlier.ensures c.loop-field.invariant.first c.unless.ensures
