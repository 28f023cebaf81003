use Rattle.gh_parse.proofs.Rules.{form, in_opt}
use Rattle.gh_parse.proofs.Exits.{along}
use Rattle.gh_parse.proofs.Folds.{formula_of-emp}
use Rattle.gh_parse.proofs.AssertionForms.{make_ensures, part_ensures, shown_missing, ensures_there}
use Rattle.gh_parse.proofs.cursor.Parser.ensured.Goals as goal

pub returns-clause-read : goal.returns-clause-read
returns-clause-read c =
    along _ _ (λ x h. ensures_there c.in-Some.ensures.taken x _ h)
    (λ s. form make_ensures part_ensures (in_opt _ c.in-Some.ensures.taken s)) c.alternatives.ensures.read

pub returns-in_default-clause-read : goal.returns-in_default-clause-read
returns-in_default-clause-read c =
    shown_missing _ _ _ c.in_default.ensures.taken c.in_default.ensures.stays c.new-missing.ensures.items
    c.in_ok-push.ensures.items formula_of-emp
