use Rattle.gh_ast.specs.Plain.{procedure_of}
use Rattle.gh_ast.specs.Occurrences.{variables_of}
use Rattle.gh_ast.specs.Rules.{HasName}
use Rattle.gh_types.specs.Checks.{Forbidden}
use Rattle.gh_types.proofs.FirstLemmas.{first_either}
use Rattle.gh_types.proofs.CallLemmas.{first_without, first_with}
use Rattle.gh_types.proofs.scope.Scope.in_occurrence.Goals as goal

pub returns : goal.returns
returns c =
    let own = procedure_of c.args.self.now.own.now in
    first_either _ _ _ _ _ c.earlier.ensures
    (first_without (HasName (variables_of own) c.args.occurrence.now.name) _ _ _ _ c.is_variable.ensures
    c.unless.ensures)
    (first_with (Forbidden own c.args.setting c.args.occurrence.now.name) c.is_forbidden.result _ _ _
    c.is_forbidden.ensures c.unless-2.ensures)
