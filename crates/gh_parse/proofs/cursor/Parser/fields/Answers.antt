use Rattle.gh_parse.proofs.Rules.{by, begins_not, first}
use Rattle.gh_parse.proofs.Exits.{exit}
use Rattle.gh_parse.proofs.ProgramForms.{make_fields, part_fields, ends_shape, shape_more, shape_spelled}
use Rattle.gh_parse.proofs.cursor.Parser.fields.Goals as goal

pub returns-in_err-field : goal.returns-in_err-field
returns-in_err-field c =
    exit _ _ _ (λ s. c.fields.invariant.back _
    (by make_fields (λ xs r d h. part_fields xs r (begins_not c.fields-test.ensures d) h) (first ends_shape s)))
    c.in_err-field.ensures
    c.from_residual.ensures.1

pub fields-preserved : goal.fields-preserved
fields-preserved c =
    shape_more _ _ c.fields.invariant c.in_ok-field.ensures c.fields-test.ensures c.in_ok-push.ensures.items

pub returns : goal.returns
returns c = shape_spelled c.fields.invariant c.in_ok-close.ensures
