use Rattle.gh_parse.proofs.Rules.{by, begins_not, at_same}
use Rattle.gh_parse.proofs.ValueForms.{make_values, part_values, values_at}
use Rattle.gh_parse.proofs.Exits.{along}
use Rattle.gh_parse.proofs.cursor.Parser.values.Goals as goal

pub returns : goal.returns
returns c =
    along _ _ (λ x h. values_at x c.in_default.ensures.stays h)
    (λ s. by make_values (λ xs r d h. part_values xs r (begins_not c.in_default.ensures.taken d) h)
    (at_same c.in_default.ensures.stays s)) c.exprs.ensures
