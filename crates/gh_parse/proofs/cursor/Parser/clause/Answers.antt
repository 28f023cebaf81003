use Rattle.gh_parse.proofs.Rules.{form, in_opt}
use Rattle.gh_parse.proofs.Exits.{along}
use Rattle.gh_parse.proofs.Folds.{formula_of-emp}
use Rattle.gh_parse.proofs.AssertionForms.{make_clause, part_clause, clause_missing, clause_there}
use Rattle.gh_parse.proofs.cursor.Parser.clause.Goals as goal

pub returns-in_default : goal.returns-in_default
returns-in_default c = rw formula_of-emp (clause_missing c.in_default.ensures.taken c.in_default.ensures.stays)

pub returns : goal.returns
returns c =
    along _ _ (λ x h. clause_there c.in-Some.ensures.taken x _ h)
    (λ s. form make_clause part_clause (in_opt _ c.in-Some.ensures.taken s)) c.assertion.ensures
