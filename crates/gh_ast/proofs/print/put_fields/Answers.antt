use Rattle.std.proofs.Common.{arith}
use Rattle.gh_ast.specs.Printed.{field_shown}
use Rattle.gh_ast.proofs.Printing.{each_more}
use Rattle.gh_ast.proofs.print.put_fields.Goals as goal

pub loop-field-preserved : goal.loop-field-preserved
loop-field-preserved c =
    each_more field_shown c.args.fields.now c.loop-field.field-index c.field-item.result (omega arith) c.field-item.is
    c.loop-field.invariant c.in_ok-put_field.ensures
