use Rattle.std.proofs.Common.{◌∙◌, ap, length, subst}
use Rattle.gh_path.specs.Conditions.{conditions}
use Rattle.gh_path.specs.Walks.{IsWalkBefore}
use Rattle.gh_symb.proofs.admit.admit_counted.Goals as goal

pub count_all-requires-clause-before : goal.count_all-requires-clause-before
count_all-requires-clause-before c =
    subst (λ Q. IsWalkBefore Q c.walk-walk.result (conditions Q)) c.requires c.walk-walk.ensures

pub count_all-requires-clause-number : goal.count_all-requires-clause-number
count_all-requires-clause-number c = c.count.ensures ∙ ap (λ Q. length (conditions Q)) c.requires
