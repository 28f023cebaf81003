-- The plain form of each statement.
use Rattle.std.proofs.Common.{◌≡◌, ◌∙◌, List, [], Vec, Global, map, sym, ap}
use Rattle.gh_base.specs.declared.place.Span.{Span}
use Rattle.gh_ast.specs.declared.Occ.{Occ}
use Rattle.gh_ast.specs.declared.Expr.{Expr}
use Rattle.gh_ast.specs.declared.Cond.{Cond}
use Rattle.gh_ast.specs.declared.Assertion.{Assertion}
use Rattle.gh_ast.specs.declared.Block.{Block as CodeBlock, roll-Block}
use Rattle.gh_ast.specs.declared.Stmt.{Stmt}
use Rattle.gh_ast.specs.declared.Stmt.TheVariants as stmt
use Rattle.gh_ast.specs.declared.Stmt.TheOpen.{Stmt-F}
use Rattle.gh_ast.specs.declared.Stmt.TheFolds.{fold-roll-Stmt, fold-roll-Block, fold_out-Block}
use Rattle.gh_ast.specs.Plain.{Statement, Block, cond_of, assertion_of, block_of, statement_of, statements_of}
use Rattle.gh_ast.specs.Plain.{no_statements, statement_step, block_step, set, new, write, free, call, if, while}
use Rattle.gh_ast.specs.Plain.{return}

pub write_view : (o : Occ) (e : Expr) → statement_of (stmt.Write o e) ≡ write o e
write_view o e =
    ap statement_of (sym (stmt.rolls-Write o e))
    ∙ fold-roll-Stmt Statement Block statement_step block_step (Stmt-F.Write o e)

pub set_view : (o : Occ) (e : Expr) → statement_of (stmt.Set o e) ≡ set o e
set_view o e =
    ap statement_of (sym (stmt.rolls-Set o e))
    ∙ fold-roll-Stmt Statement Block statement_step block_step (Stmt-F.Set o e)

pub new_view : (o : Occ) → statement_of (stmt.New o) ≡ new o
new_view o =
    ap statement_of (sym (stmt.rolls-New o)) ∙ fold-roll-Stmt Statement Block statement_step block_step (Stmt-F.New o)

pub free_view : (o : Occ) → statement_of (stmt.Free o) ≡ free o
free_view o =
    ap statement_of (sym (stmt.rolls-Free o)) ∙ fold-roll-Stmt Statement Block statement_step block_step (Stmt-F.Free o)

pub call_view : (xs : Vec Occ Global) (f : Occ) (es : Vec Expr Global)
    → statement_of (stmt.Call xs f es) ≡ call xs.items f es.items
call_view xs f es =
    ap statement_of (sym (stmt.rolls-Call xs f es))
    ∙ fold-roll-Stmt Statement Block statement_step block_step (Stmt-F.Call xs f es)

pub return_view : (p : Span) (es : Vec Expr Global) → statement_of (stmt.Return p es) ≡ return p es.items
return_view p es =
    ap statement_of (sym (stmt.rolls-Return p es))
    ∙ fold-roll-Stmt Statement Block statement_step block_step (Stmt-F.Return p es)

pub if_view : (t : Cond) (a b : CodeBlock)
    → statement_of (stmt.If t a b)
    ≡ if (cond_of t) (block_of a).statements (block_of a).close (block_of b).statements (block_of b).close
if_view t a b =
    ap statement_of (sym (stmt.rolls-If t a b))
    ∙ fold-roll-Stmt Statement Block statement_step block_step (Stmt-F.If t a b)

pub while_view : (p : Span) (t : Cond) (i : Assertion) (b : CodeBlock)
    → statement_of (stmt.While p t i b)
    ≡ while p (cond_of t) (assertion_of i) (block_of b).statements (block_of b).close
while_view p t i b =
    ap statement_of (sym (stmt.rolls-While p t i b))
    ∙ fold-roll-Stmt Statement Block statement_step block_step (Stmt-F.While p t i b)

pub part_view : (v : Vec Stmt Global) (c : Span)
    → block_of (roll-Block (record { statements = v; close = c }))
    ≡ record { statements = statements_of (map statement_of v.items); close = c }
part_view v c = fold-roll-Block Statement Block statement_step block_step (record { statements = v; close = c })

pub close_view : (b : CodeBlock) → (block_of b).close ≡ b.close
close_view b = ap (λ p. p.close) (fold_out-Block Statement Block statement_step block_step b)

-- a block without statements
pub empty_view : (v : Vec Stmt Global) (c : Span) → v.items ≡ []
    → block_of (roll-Block (record { statements = v; close = c })) ≡ record { statements = no_statements; close = c }
empty_view v c e =
    part_view v c ∙ ap (λ (s : List Stmt).
    let p : Block = record { statements = statements_of (map statement_of s); close = c } in p) e
