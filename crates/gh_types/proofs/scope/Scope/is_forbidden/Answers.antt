use Rattle.std.proofs.Common.{◌≡◌, true, inl, inr}
use Rattle.gh_ast.specs.Plain.{procedure_of}
use Rattle.gh_ast.specs.Occurrences.{locals_of}
use Rattle.gh_types.proofs.FirstLemmas.{name_left, name_right, name_parts}
use Rattle.gh_types.proofs.scope.Scope.is_forbidden.Goals as goal

pub returns-then-has : goal.returns-then-has
returns-then-has c =
    let q = procedure_of c.args.self.now.own.now in
    let has = c.has.ensures q.results c.args.self.now.results_are in
    rw (c.in-Requires.is) (λ t. name_left q.results (locals_of q) _ (has.0 t), λ _. c.if-has.true)

pub returns-else-has : goal.returns-else-has
returns-else-has c =
    let q = procedure_of c.args.self.now.own.now in
    let result = c.has.ensures q.results c.args.self.now.results_are in
    let local = c.has-else-has.ensures (locals_of q) c.args.self.now.locals_are in
    rw (c.in-Requires.is) (
      λ t. name_right q.results (locals_of q) _ (local.0 t),
      λ a. elim (name_parts q.results (locals_of q) _ a) [
        | inl r ↦ let same : c.has.result ≡ true = result.1 r in cc
        | inr l ↦ local.1 l
      ],
    )
