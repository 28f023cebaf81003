-- The plain forms of compound syntax.
use Rattle.std.proofs.Common.{◌≡◌, ◌∙◌, Box, Global, sym, ap}
use Rattle.gh_base.specs.declared.place.Span.{Span}
use Rattle.gh_ast.specs.declared.Cond.{Cond as CodeCond}
use Rattle.gh_ast.specs.declared.Cond.TheVariants as cond_is
use Rattle.gh_ast.specs.declared.Cond.TheOpen.{Cond-F}
use Rattle.gh_ast.specs.declared.Cond.TheFolds.{fold-roll-Cond}
use Rattle.gh_ast.specs.declared.Assertion.{Assertion as CodeAssertion}
use Rattle.gh_ast.specs.declared.Assertion.TheVariants as assertion_is
use Rattle.gh_ast.specs.declared.Assertion.TheOpen.{Assertion-F}
use Rattle.gh_ast.specs.declared.Assertion.TheFolds.{fold-roll-Assertion}
use Rattle.gh_ast.specs.declared.Block.{Block as CodeBlock}
use Rattle.gh_ast.specs.declared.Stmt.TheVariants as stmt_is
use Rattle.gh_ast.specs.declared.Stmt.TheOpen.{Stmt-F}
use Rattle.gh_ast.specs.declared.Stmt.TheFolds.{fold-roll-Stmt, fold_out-Block}
use Rattle.gh_ast.specs.Plain.{Cond, Assertion, Statement, Block, negation, cases, if, while, cond_step, assertion_step}
use Rattle.gh_ast.specs.Plain.{statement_step, block_step, cond_of, assertion_of, statement_of, block_of}
use Rattle.gh_ast.specs.Plain.{statements_view}

pub not_of : (b : Box CodeCond Global) → cond_of (cond_is.Not b) ≡ negation (cond_of b.value)
not_of b = ap cond_of (sym (cond_is.rolls-Not b)) ∙ fold-roll-Cond Cond cond_step (Cond-F.Not b)

pub cases_of : (t : CodeCond) (a b : Box CodeAssertion Global)
    → assertion_of (assertion_is.Cases t a b) ≡ cases (cond_of t) (assertion_of a.value) (assertion_of b.value)
cases_of t a b =
    ap assertion_of (sym (assertion_is.rolls-Cases t a b))
    ∙ fold-roll-Assertion Assertion assertion_step (Assertion-F.Cases t a b)

pub statements_of_block : (b : CodeBlock) → (block_of b).statements ≡ statements_view b.statements.items
statements_of_block b = ap (λ p. p.statements) (fold_out-Block Statement Block statement_step block_step b)

pub choice_of : (t : CodeCond) (a b : CodeBlock)
    → statement_of (stmt_is.If t a b)
    ≡ if (cond_of t) (block_of a).statements (block_of a).close (block_of b).statements (block_of b).close
choice_of t a b =
    ap statement_of (sym (stmt_is.rolls-If t a b))
    ∙ fold-roll-Stmt Statement Block statement_step block_step (Stmt-F.If t a b)

pub loop_of : (p : Span) (t : CodeCond) (i : CodeAssertion) (b : CodeBlock)
    → statement_of (stmt_is.While p t i b)
    ≡ while p (cond_of t) (assertion_of i) (block_of b).statements (block_of b).close
loop_of p t i b =
    ap statement_of (sym (stmt_is.rolls-While p t i b))
    ∙ fold-roll-Stmt Statement Block statement_step block_step (Stmt-F.While p t i b)
