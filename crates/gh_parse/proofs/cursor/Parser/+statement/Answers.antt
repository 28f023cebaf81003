use Rattle.std.proofs.Common.{refl, arith, ap, ◌∙◌}
use Rattle.gh_ast.specs.Tokens.{first_place}
use Rattle.gh_ast.specs.Plain.{block_of}
use Rattle.gh_ast.proofs.ShorterStatement.{shorter_statement}
use Rattle.gh_parse.specs.Stops.{any, EndsHere}
use Rattle.gh_parse.specs.Statements.{no_else, SpellsWholeBlock, SpellsOtherwise, SpellsRepeated, repeat_of}
use Rattle.gh_parse.proofs.Rules.{by, form, told, begins_not, first, next, after, in_opt, ends_seq, ends_opt}
use Rattle.gh_parse.proofs.Exits.{exit, along, missing, gave, refused}
use Rattle.gh_parse.proofs.StatementViews.{if_view, while_view, part_view, close_view, empty_view}
use Rattle.gh_parse.proofs.ValueForms.{a_name}
use Rattle.gh_parse.proofs.TestForms.{exact_guard}
use Rattle.gh_parse.proofs.AssertionForms.{exact_clause, ends_clause}
use Rattle.gh_parse.proofs.CallForms.{spelled_at, in_named}
use Rattle.gh_parse.proofs.StatementForms.{make_if, part_if, make_while, part_while, make_more, part_more, make_block}
use Rattle.gh_parse.proofs.StatementForms.{part_block, exact_part, ends_run, ends_block, no_statement, make_otherwise}
use Rattle.gh_parse.proofs.StatementForms.{part_otherwise, else_spelled, either_spelled, step_less, while_spelled}
use Rattle.gh_parse.proofs.StatementForms.{guarded_less, otherwise_less, body_less, make_repeat, part_repeat}
use Rattle.gh_parse.proofs.StatementForms.{repeat_spelled, runs_more, runs_end, block_spelled, pushed}
use Rattle.gh_parse.proofs.cursor.Parser.+statement.Goals as goal

pub block-returns-in_err-expect_sign : goal.block-returns-in_err-expect_sign
block-returns-in_err-expect_sign t c =
    exit _ _ _ (λ s. form make_block part_block (first ends_run s))
    (missing _ _ _ _ _ first_place refl c.in_err-expect_sign.ensures) c.from_residual.ensures.1

pub block-returns : goal.block-returns
block-returns t c =
    along _ _ (λ x h. block_spelled c.in_ok-expect_sign.ensures x _ h)
    (λ s. form make_block part_block (after _ c.in_ok-expect_sign.ensures s)) c.statements.ensures

pub if_statement-returns-in_err-test : goal.if_statement-returns-in_err-test
if_statement-returns-in_err-test t c =
    exit _ _ _
    (λ s. by make_if (told _ _ _ c.in_ok-expect_key.ensures part_if)
    (after _ c.in_ok-expect_key.ensures (first (ends_seq ends_block (ends_opt (λ p. refl))) s)))
    c.in_err-test.ensures c.from_residual-in_err-test.ensures.1

pub if_statement-block-requires : goal.if_statement-block-requires
if_statement-block-requires t c =
    let h = guarded_less c.in_ok-expect_key.ensures c.in_ok-test.ensures in (omega arith, tt)

pub if_statement-returns-in_err-test-2 : goal.if_statement-returns-in_err-test-2
if_statement-returns-in_err-test-2 t c =
    exit _ _ _
    (λ s. by make_if (told _ _ _ c.in_ok-expect_key.ensures part_if)
    (after _ c.in_ok-expect_key.ensures (next exact_guard (any c.in_ok-test.ensures) (first (ends_opt (λ p. refl)) s))))
    (refused _ _ _ _ block_of _ c.in_err-test-2.ensures.second c.block.ensures) c.from_residual-in_err-test-2.ensures.1

pub if_statement-otherwise-requires : goal.if_statement-otherwise-requires
if_statement-otherwise-requires t c =
    let taken = gave EndsHere SpellsWholeBlock _ _ block_of _ c.in_ok-test-2.ensures.second c.block.ensures in
    let h = otherwise_less {b = block_of c.in_ok-test-2.taken} c.in_ok-expect_key.ensures c.in_ok-test.ensures taken in
    (omega arith, tt)

pub if_statement-returns-in_err-test-3 : goal.if_statement-returns-in_err-test-3
if_statement-returns-in_err-test-3 t c =
    let taken = gave EndsHere SpellsWholeBlock _ _ block_of _ c.in_ok-test-2.ensures.second c.block.ensures in
    exit _ _ _
    (λ s. by make_if (told _ _ _ c.in_ok-expect_key.ensures part_if)
    (after _ c.in_ok-expect_key.ensures
    (next exact_guard (any c.in_ok-test.ensures)
    (next exact_part (any {x = block_of c.in_ok-test-2.taken} taken) (form part_otherwise make_otherwise s)))))
    (refused _ _ _ _ block_of _ c.in_err-test-3.ensures.second c.otherwise.ensures)
    c.from_residual-in_err-test-3.ensures.1

pub if_statement-returns : goal.if_statement-returns
if_statement-returns t c =
    let taken = gave EndsHere SpellsWholeBlock _ _ block_of _ c.in_ok-test-2.ensures.second c.block.ensures in
    let otherwise =
    gave EndsHere (SpellsOtherwise c.in_ok-test-2.taken.close) _ _ block_of _ c.in_ok-test-3.ensures.second
    c.otherwise.ensures in
    let e = c.in_ok-test-3.ensures.first in
    rw (ap (λ p. p.0) e ∙ c.in_ok-test-2.ensures.first, ap (λ p. p.1) e)
    (rw if_view (either_spelled c.in_ok-expect_key.ensures c.in_ok-test.ensures taken otherwise
    (close_view c.in_ok-test-2.taken)))

pub otherwise-returns-then-not-is_key : goal.otherwise-returns-then-not-is_key
otherwise-returns-then-not-is_key t c =
    rw (empty_view c.new.result c.args.close c.new.ensures.items) (no_else c.if-not-is_key.ensures)

pub otherwise-block-requires : goal.otherwise-block-requires
otherwise-block-requires t c = let h = step_less c.in_ok-expect_key.ensures in (omega arith, tt)

pub otherwise-returns : goal.otherwise-returns
otherwise-returns t c =
    along _ _ (λ x h. else_spelled c.in_ok-expect_key.ensures x _ h)
    (λ s. form make_otherwise part_otherwise (in_opt _ c.in_ok-expect_key.ensures s)) c.block.ensures

pub statement-returns-in_err-name : goal.statement-returns-in_err-name
statement-returns-in_err-name t c =
    exit _ _ _ (λ s. no_statement c.if-is_key.ensures c.if-is_key-2.ensures c.if-is_key-3.ensures c.if-is_key-4.ensures
    s)
    (missing _ _ _ _ _ a_name refl c.in_err-name.ensures) c.from_residual.ensures.1

pub statement-returns : goal.statement-returns
statement-returns t c =
    along _ _ (λ x h. spelled_at c.in_ok-name.ensures h) (λ s. in_named c.in_ok-name.ensures s)
    c.named_statement.ensures

pub statements-returns-in_err-statement : goal.statements-returns-in_err-statement
statements-returns-in_err-statement t c =
    exit _ _ _ (λ s. c.run.invariant.goes.back _
    (by make_more (λ xs r d h. part_more xs r (begins_not c.run-test.ensures d) h) (first ends_run s)))
    c.in_err-statement.ensures
    c.from_residual.ensures.1

pub statements-run-smaller : goal.statements-run-smaller
statements-run-smaller t c =
    shorter_statement c.in_ok-statement.ensures

pub statements-run-preserved : goal.statements-run-preserved
statements-run-preserved t c =
    runs_more c.run.invariant c.in_ok-statement.ensures c.run-test.ensures (pushed _ _ _ c.in_ok-push.ensures.items)

pub statements-returns : goal.statements-returns
statements-returns t c =
    rw part_view (runs_end c.run.invariant c.in_ok-close.ensures)

pub while_statement-returns-in_err-test : goal.while_statement-returns-in_err-test
while_statement-returns-in_err-test t c =
    exit _ _ _
    (λ s. by make_while (told _ _ _ c.in_ok-span.ensures part_while)
    (after _ c.in_ok-span.ensures (first (ends_seq (ends_clause (λ p. refl)) ends_block) s)))
    c.in_err-test.ensures c.from_residual-in_err-test.ensures.1

pub while_statement-repeated-requires : goal.while_statement-repeated-requires
while_statement-repeated-requires t c =
    let h = guarded_less c.in_ok-span.ensures c.in_ok-test.ensures in (omega arith, tt)

pub while_statement-returns-in_err-test-2 : goal.while_statement-returns-in_err-test-2
while_statement-returns-in_err-test-2 t c =
    exit _ _ _
    (λ s. by make_while (told _ _ _ c.in_ok-span.ensures part_while)
    (after _ c.in_ok-span.ensures (next exact_guard (any c.in_ok-test.ensures) (form part_repeat make_repeat s))))
    (refused _ _ _ _ repeat_of _ c.in_err-test-2.ensures.second c.repeated.ensures)
    c.from_residual-in_err-test-2.ensures.1

pub while_statement-returns : goal.while_statement-returns
while_statement-returns t c =
    let repeated = gave EndsHere SpellsRepeated _ _ repeat_of _ c.in_ok-test-2.ensures.second c.repeated.ensures in
    rw (c.in_ok-test-2.ensures.first, while_view)
    (while_spelled {b = block_of c.in_ok-test-2.repeated.body} c.in_ok-span.ensures c.in_ok-test.ensures
    repeated.invariant repeated.body)

pub repeated-returns-in_err-invariant : goal.repeated-returns-in_err-invariant
repeated-returns-in_err-invariant t c =
    exit _ _ _ (λ s. form make_repeat part_repeat (first ends_block s)) c.in_err-invariant.ensures
    c.from_residual.ensures.1

pub repeated-block-requires : goal.repeated-block-requires
repeated-block-requires t c = let h = body_less c.in_ok-invariant.ensures in (omega arith, tt)

pub repeated-returns-in_err-invariant-2 : goal.repeated-returns-in_err-invariant-2
repeated-returns-in_err-invariant-2 t c =
    exit _ _ _ (λ s. form make_repeat part_repeat (next (exact_clause (λ p. refl)) (any c.in_ok-invariant.ensures) s))
    (refused _ _ _ _ block_of _ c.in_err-invariant-2.ensures.second c.block.ensures)
    c.from_residual-in_err-invariant-2.ensures.1

pub repeated-returns : goal.repeated-returns
repeated-returns t c =
    let body = gave EndsHere SpellsWholeBlock _ _ block_of _ c.in_ok-invariant-2.ensures.second c.block.ensures in
    rw c.in_ok-invariant-2.ensures.first
    (repeat_spelled {b = block_of c.in_ok-invariant-2.body} c.in_ok-invariant.ensures body)
