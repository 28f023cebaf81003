use Rattle.gh_symb.specs.Tables.{bound_by}
use Rattle.gh_symb.proofs.TableLemmas.{bound_term}
use Rattle.gh_symb.proofs.scope.Scope.used_term.Goals as goal

pub returns-in_ok-bind-in-None-clause-term : goal.returns-in_ok-bind-in-None-clause-term
returns-in_ok-bind-in-None-clause-term c =
    bound_term (bound_by c.args.self.now) (bound_by c.bind.new.self) c.args.name.now c.in_ok-term-in-None.term
    c.in_ok-bind-in-None.ensures
