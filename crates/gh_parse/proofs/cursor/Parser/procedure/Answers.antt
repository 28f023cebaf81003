use Rattle.std.proofs.Common.{refl, map, ap, ◌∙◌}
use Rattle.gh_ast.specs.declared.sign.Keyword.TheVariants.{Requires}
use Rattle.gh_ast.specs.Grammar.{SpellsClause, SpellsEnsures}
use Rattle.gh_ast.specs.Plain.{assertion_of}
use Rattle.gh_parse.specs.Stops.{any, EndsHere}
use Rattle.gh_parse.specs.Procedures.{heading_of, SpellsEnded, ended_of}
use Rattle.gh_parse.proofs.Rules.{form, first, next, ends_seq}
use Rattle.gh_parse.proofs.Exits.{exit, gave, refused}
use Rattle.gh_parse.proofs.AssertionForms.{exact_clause, exact_ensures, ends_ensures}
use Rattle.gh_parse.proofs.ProcedureForms.{make_procedure, part_procedure, exact_heading, ends_end, ends_after_results}
use Rattle.gh_parse.proofs.ProcedureForms.{procedure_spelled}
use Rattle.gh_parse.proofs.cursor.Parser.procedure.Goals as goal

pub returns-in_err-heading : goal.returns-in_err-heading
returns-in_err-heading c =
    exit _ _ _ (λ s. form make_procedure part_procedure (first ends_after_results s)) c.in_err-heading.ensures
    c.from_residual.ensures.1

pub returns-in_err-heading-2 : goal.returns-in_err-heading-2
returns-in_err-heading-2 c =
    exit _ _ _
    (λ s. form make_procedure part_procedure
    (next exact_heading (any {x = heading_of c.in_ok-heading.heading} c.in_ok-heading.ensures)
    (first (ends_seq ends_ensures ends_end) s)))
    (refused _ _ _ _ assertion_of _ c.in_err-heading-2.ensures.second c.clause.ensures)
    c.from_residual-in_err-heading-2.ensures.1

pub returns-in_err-heading-3 : goal.returns-in_err-heading-3
returns-in_err-heading-3 c =
    let needs =
    gave EndsHere (SpellsClause Requires) _ _ assertion_of _ c.in_ok-heading-2.ensures.second c.clause.ensures in
    exit _ _ _
    (λ s. form make_procedure part_procedure
    (next exact_heading (any {x = heading_of c.in_ok-heading.heading} c.in_ok-heading.ensures)
    (next (exact_clause (λ p. refl)) (any needs) (first ends_end s))))
    (refused _ _ _ _ (λ fs. map assertion_of fs.items) _ c.in_err-heading-3.ensures.second c.ensured.ensures.read)
    c.from_residual-in_err-heading-3.ensures.1

pub returns-in_err-heading-4 : goal.returns-in_err-heading-4
returns-in_err-heading-4 c =
    let needs =
    gave EndsHere (SpellsClause Requires) _ _ assertion_of _ c.in_ok-heading-2.ensures.second c.clause.ensures in
    let gives =
    gave EndsHere SpellsEnsures _ _ (λ fs. map assertion_of fs.items) _ c.in_ok-heading-3.ensures.second
    c.ensured.ensures.read in
    exit _ _ _
    (λ s. form make_procedure part_procedure
    (next exact_heading (any {x = heading_of c.in_ok-heading.heading} c.in_ok-heading.ensures)
    (next (exact_clause (λ p. refl)) (any needs) (next exact_ensures (any gives) s))))
    (refused _ _ _ _ ended_of _ c.in_err-heading-4.ensures.second c.ending.ensures)
    c.from_residual-in_err-heading-4.ensures.1

pub returns : goal.returns
returns c =
    let needs =
    gave EndsHere (SpellsClause Requires) _ _ assertion_of _ c.in_ok-heading-2.ensures.second c.clause.ensures in
    let gives =
    gave EndsHere SpellsEnsures _ _ (λ fs. map assertion_of fs.items) _ c.in_ok-heading-3.ensures.second
    c.ensured.ensures.read in
    let ending = gave EndsHere SpellsEnded _ _ ended_of _ c.in_ok-heading-4.ensures.second c.ending.ensures in
    let e = c.in_ok-heading-4.ensures.first in
    let f = c.in_ok-heading-3.ensures.first in
    rw (
      ap (λ p. p.0) e ∙ ap (λ p. p.0) f ∙ c.in_ok-heading-2.ensures.first,
      ap (λ p. p.1) e ∙ ap (λ p. p.1) f,
      ap (λ p. p.2) e,
    )
    (procedure_spelled c.in_ok-heading.ensures needs gives ending)
