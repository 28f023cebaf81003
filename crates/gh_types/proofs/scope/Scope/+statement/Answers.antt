use Rattle.std.proofs.Common.{◌++◌, [], ◌∷◌, map, true, arith}
use Rattle.gh_ast.specs.Plain.{cond_of, assertion_of, statement_of, statements_view}
use Rattle.gh_ast.specs.Occurrences.{mentioned, returned, in_expr, in_exprs, in_cond, in_assertion, sites_in}
use Rattle.gh_ast.specs.Occurrences.{all_sites_in}
use Rattle.gh_ast.proofs.PlainLemmas.{statement_of-Set, statement_of-New, statement_of-Write, statement_of-Free}
use Rattle.gh_ast.proofs.PlainLemmas.{statement_of-Call, statement_of-If, statement_of-While, statement_of-Return}
use Rattle.gh_ast.proofs.PlainLemmas.{part_of-statements}
use Rattle.gh_types.proofs.FirstLemmas.{first_one, first_cons, first_append, first_map, first_list, first_more}
use Rattle.gh_types.proofs.FirstLemmas.{first_all, all_sites_flat}
use Rattle.gh_types.proofs.scope.Scope.+statement.Goals as goal

pub in_statement-returns-in-Set : goal.in_statement-returns-in-Set
in_statement-returns-in-Set t c = rw (c.in-Set.is, statement_of-Set) c.in_assignment.ensures

pub in_statement-returns-in-New : goal.in_statement-returns-in-New
in_statement-returns-in-New t c = rw (c.in-New.is, statement_of-New) c.in_assigned.ensures

pub in_statement-returns-in-Write : goal.in_statement-returns-in-Write
in_statement-returns-in-Write t c =
    rw (c.in-Write.is, statement_of-Write)
    (first_map _ mentioned (c.in-Write.at ∷ in_expr c.in-Write.value) _
    (first_cons _ c.in-Write.at (in_expr c.in-Write.value) _ _ _ c.earlier.ensures c.in_occurrence.ensures
    c.in_expr.ensures))

pub in_statement-returns-in-Free : goal.in_statement-returns-in-Free
in_statement-returns-in-Free t c =
    rw (c.in-Free.is, statement_of-Free)
    (first_map _ mentioned (c.in-Free.at ∷ []) _ (first_one _ c.in-Free.at _ c.in_occurrence-in-Free.ensures))

pub in_statement-returns-in-Call : goal.in_statement-returns-in-Call
in_statement-returns-in-Call t c =
    rw (c.in-Call.is, statement_of-Call, ← c.as_slice.ensures.value, ← c.as_slice-in-Call.ensures.value)
    c.in_call_statement.ensures

pub in_statement-returns-in_ok-third-in-If : goal.in_statement-returns-in_ok-third-in-If
in_statement-returns-in_ok-third-in-If t c =
    let tests = in_cond (cond_of c.in-If.test) in
    let first = all_sites_in c.args.in_loop (statements_view c.as_slice-in-If.result.now) in
    let second = all_sites_in c.args.in_loop (statements_view c.as_slice-in-If-2.result.now) in
    rw (
      c.in-If.is,
      statement_of-If,
      part_of-statements c.in-If.taken,
      part_of-statements c.in-If.otherwise,
      ← c.as_slice-in-If.ensures.value,
      ← c.as_slice-in-If-2.ensures.value,
    )
    (first_append _ (map mentioned tests ++ first) second _ _ _ c.earlier-in-If-2.ensures
    (first_append _ (map mentioned tests) first _ _ _ c.earlier-in-If.ensures
    (first_map _ mentioned tests _ c.in_cond-first.ensures) c.in_ok-second-in-If.ensures)
    c.in_ok-third-in-If.ensures)

pub in_statement-returns-in_ok-third-in-While : goal.in_statement-returns-in_ok-third-in-While
in_statement-returns-in_ok-third-in-While t c =
    let tests = in_cond (cond_of c.in-While.test) in
    let names = in_assertion (assertion_of c.in-While.invariant) in
    let body = all_sites_in true (statements_view c.as_slice-in-While.result.now) in
    rw (c.in-While.is, statement_of-While, part_of-statements c.in-While.body, ← c.as_slice-in-While.ensures.value)
    (first_append _ (map mentioned (tests ++ names)) body _ _ _ c.earlier-in-While-2.ensures
    (first_map _ mentioned (tests ++ names) _
    (first_append _ tests names _ _ _ c.earlier-in-While.ensures c.in_cond-first-in-While.ensures
    c.in_assertion-second.ensures))
    c.in_ok-third-in-While.ensures)

pub in_statement-returns-in-Return : goal.in_statement-returns-in-Return
in_statement-returns-in-Return t c =
    let es = c.as_slice-in-Return.result.now in
    rw (c.in-Return.is, statement_of-Return, ← c.as_slice-in-Return.ensures.value)
    (first_cons _ (returned c.args.in_loop c.in-Return.span es) (map mentioned (in_exprs es)) _ _ _
    c.earlier-in-Return.ensures
    c.in_return.ensures
    (first_map _ mentioned (in_exprs es) _
    (rw (c.as_slice-in-Return.ensures.value, ← c.as_slice-in-Return-2.ensures.value) c.in_exprs.ensures)))

pub in_statements-loop-statement-preserved : goal.in_statements-loop-statement-preserved
in_statements-loop-statement-preserved t c =
    first_more _ (λ s. sites_in c.args.in_loop (statement_of s)) c.args.statements.now c.loop-statement.statement-index
    c.statement-item.result _ _ _ (omega arith) c.statement-item.is c.earlier-first.ensures
    c.loop-statement.invariant c.in_ok-in_statement.ensures

pub in_statements-returns : goal.in_statements-returns
in_statements-returns t c =
    first_list _ _ _ _ (all_sites_flat c.args.in_loop c.args.statements.now)
    (first_all _ (λ s. sites_in c.args.in_loop (statement_of s)) c.args.statements.now c.loop-statement.statement-index
    _ (omega arith) c.loop-statement.invariant)
