use Rattle.std.proofs.Common.{[], ◌∷◌}
use Rattle.gh_ast.specs.Plain.{procedure_of}
use Rattle.gh_ast.specs.Occurrences.{assigned, mentioned}
use Rattle.gh_types.proofs.FirstLemmas.{first_cons, first_one, first_target}
use Rattle.gh_types.proofs.scope.Scope.in_assigned.Goals as goal

pub returns : goal.returns
returns c =
    let q = procedure_of c.args.self.now.own.now in
    first_cons _ (assigned (c.args.target.now ∷ [])) (mentioned c.args.target.now ∷ []) _ _ _ c.earlier.ensures
    (first_target q c.args.target.now _ c.in_target.ensures)
    (first_one _ (mentioned c.args.target.now) _ c.in_occurrence.ensures)
