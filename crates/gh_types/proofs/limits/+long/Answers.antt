use Rattle.std.proofs.Common.{arith, [], ◌∷◌, map}
use Rattle.std.proofs.lemmas.List.{map-append}
use Rattle.gh_ast.proofs.PlainLemmas.{statement_of-If, statement_of-While}
use Rattle.gh_ast.specs.Plain.{assertion_of, statement_of, block_of}
use Rattle.gh_ast.specs.Limits.{atoms, invariants_in, all_invariants_in}
use Rattle.gh_types.proofs.LimitLemmas.{at_items, finds_left, finds_right, finds_here, finds_more, finds_all}
use Rattle.gh_types.proofs.LimitLemmas.{invariants_flat}
use Rattle.gh_types.proofs.limits.+long.Goals as goal

pub long_in_statement-returns-in-Some : goal.long_in_statement-returns-in-Some
long_in_statement-returns-in-Some t c =
    let first = at_items _ c.in-If.taken _ c.as_slice.ensures.value c.in-Some.ensures in
    rw (c.in-If.is, statement_of-If, map-append)
    (finds_left (map atoms (all_invariants_in (block_of c.in-If.taken).statements)) _ _ first)

pub long_in_statement-returns-in-Some-long : goal.long_in_statement-returns-in-Some-long
long_in_statement-returns-in-Some-long t c =
    rw (c.in-While.is, statement_of-While)
    (finds_left (atoms (assertion_of c.in-While.invariant) ∷ []) _ _ c.in-Some-long.ensures)

pub long_in_statement-returns-in_default-long_in_statements : goal.long_in_statement-returns-in_default-long_in_statements
long_in_statement-returns-in_default-long_in_statements t c =
    let first = at_items _ c.in-If.taken _ c.as_slice.ensures.value c.in_default-long_in_statements.ensures in
    let second = at_items _ c.in-If.otherwise _ c.as_slice-in-If.ensures.value c.long_in_statements-in-If.ensures in
    rw (c.in-If.is, statement_of-If, map-append)
    (finds_right (map atoms (all_invariants_in (block_of c.in-If.taken).statements)) _ _ first second)

pub long_in_statement-returns-in_default-long : goal.long_in_statement-returns-in_default-long
long_in_statement-returns-in_default-long t c =
    let inside = at_items _ c.in-While.body _ c.as_slice-in-While.ensures.value c.long_in_statements-in-While.ensures in
    rw (c.in-While.is, statement_of-While)
    (finds_right (atoms (assertion_of c.in-While.invariant) ∷ []) _ _ c.in_default-long.ensures inside)

pub long_in_statements-returns-in-Some : goal.long_in_statements-returns-in-Some
long_in_statements-returns-in-Some t c =
    rw (invariants_flat c.args.statements.now)
    (finds_here (λ s. map atoms (invariants_in (statement_of s))) c.args.statements.now c.loop-statement.statement-index
    c.statement-item.result _ (omega arith) c.statement-item.is c.loop-statement.invariant c.in-Some.ensures)

pub long_in_statements-loop-statement-preserved : goal.long_in_statements-loop-statement-preserved
long_in_statements-loop-statement-preserved t c =
    finds_more (λ s. map atoms (invariants_in (statement_of s))) c.args.statements.now c.loop-statement.statement-index
    c.statement-item.result (omega arith) c.statement-item.is c.loop-statement.invariant c.in_default.ensures

pub long_in_statements-returns : goal.long_in_statements-returns
long_in_statements-returns t c =
    rw (invariants_flat c.args.statements.now)
    (finds_all (λ s. map atoms (invariants_in (statement_of s))) c.args.statements.now c.loop-statement.statement-index
    (omega arith) c.loop-statement.invariant)
