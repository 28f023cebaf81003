use Rattle.std.proofs.Common.{◌≡◌, List, IfOk, map, false, ap, sym, ◌∙◌, subst}
use Rattle.std.specs.Option.{option_map}
use Rattle.gh_ast.specs.Occurrences.{Site, all_sites_in, sites_in_body}
use Rattle.gh_ast.specs.Plain.{procedure_of, body_of, statements_view}
use Rattle.gh_ast.proofs.PlainLemmas.{part_of-statements}
use Rattle.gh_types.specs.Checks.{SiteErrors}
use Rattle.gh_types.specs.Faults.{IsFirstIn}
use Rattle.gh_types.proofs.scope.Scope.in_body.Goals as goal

pub returns-in-Some : goal.returns-in-Some
returns-in-Some c =
    let block = c.in-Some.body.block in
    let same : all_sites_in false (statements_view c.as_slice.result.now)
    ≡ sites_in_body (procedure_of c.args.self.now.own.now).body =
    ap (all_sites_in false) (ap statements_view c.as_slice.ensures.value ∙ sym (part_of-statements block))
    ∙ sym (ap (λ b. sites_in_body (option_map body_of b)) c.in-Some.is)
    in
    subst (λ (xs : List Site). IfOk c.in_statements.result
    (IsFirstIn (SiteErrors (map procedure_of c.args.self.now.procedures.now) (procedure_of c.args.self.now.own.now))
    xs)) same c.in_statements.ensures
