use Rattle.std.proofs.Common.{◌≡◌, ◌++◌, true, List, append_assoc, inl, inr, subst, sym}
use Rattle.gh_ast.specs.declared.Occ.{Occ}
use Rattle.gh_ast.specs.Plain.{procedure_of}
use Rattle.gh_ast.specs.Occurrences.{locals_of, variables_of}
use Rattle.gh_ast.specs.Rules.{HasName}
use Rattle.gh_types.proofs.FirstLemmas.{name_left, name_right, name_parts}
use Rattle.gh_types.proofs.scope.Scope.is_variable.Goals as goal

pub returns-then-is_parameter : goal.returns-then-is_parameter
returns-then-is_parameter c =
    let q = procedure_of c.args.self.now.own.now in
    let rest = q.results ++ locals_of q in
    let same : variables_of q ≡ q.parameters ++ rest = append_assoc q.parameters q.results (locals_of q) in
    let named = λ (os : List Occ). HasName os c.args.name.now.name in (
      λ t. subst named (sym same) (name_left q.parameters rest _ (c.is_parameter.ensures.0 t)),
      λ a. c.if-is_parameter.true,
    )

pub returns-else-is_parameter : goal.returns-else-is_parameter
returns-else-is_parameter c =
    let q = procedure_of c.args.self.now.own.now in
    let rest = q.results ++ locals_of q in
    let same : variables_of q ≡ q.parameters ++ rest = append_assoc q.parameters q.results (locals_of q) in
    let named = λ (os : List Occ). HasName os c.args.name.now.name in (
      λ t. subst named (sym same) (name_right q.parameters rest _ (c.is_forbidden.ensures.0 t)),
      λ a. elim (name_parts q.parameters rest _ (subst named same a)) [
        | inl r ↦ let found : c.is_parameter.result ≡ true = c.is_parameter.ensures.1 r in cc
        | inr l ↦ c.is_forbidden.ensures.1 l
      ],
    )
