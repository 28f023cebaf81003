-- The plain form of each variant.
use Rattle.std.proofs.Common.{◌≡◌, Bool, Box, Vec, Global, sym, ◌∙◌, ap}
use Rattle.gh_base.specs.declared.place.Span.{Span}
use Rattle.gh_ast.specs.declared.Occ.{Occ}
use Rattle.gh_ast.specs.declared.Operand.{Operand}
use Rattle.gh_ast.specs.declared.Expr.{Expr}
use Rattle.gh_ast.specs.declared.Cond.{Cond as CodeCond}
use Rattle.gh_ast.specs.declared.Cond.TheOpen.{Cond-F}
use Rattle.gh_ast.specs.declared.Cond.TheFolds.{fold-roll-Cond}
use Rattle.gh_ast.specs.declared.Cond.TheVariants.{Compare, Not, And, Or, rolls-Compare, rolls-Not, rolls-And, rolls-Or}
use Rattle.gh_ast.specs.declared.Assertion.{Assertion as CodeAssertion}
use Rattle.gh_ast.specs.declared.Assertion.TheOpen.{Assertion-F}
use Rattle.gh_ast.specs.declared.Assertion.TheFolds.{fold-roll-Assertion}
use Rattle.gh_ast.specs.declared.Assertion.TheVariants.{Emp, Pure, PointsTo, Acc, Lseg, Star, Cases, rolls-Emp}
use Rattle.gh_ast.specs.declared.Assertion.TheVariants.{rolls-Pure, rolls-PointsTo, rolls-Acc, rolls-Lseg, rolls-Star}
use Rattle.gh_ast.specs.declared.Assertion.TheVariants.{rolls-Cases}
use Rattle.gh_ast.specs.declared.Block.{Block as CodeBlock}
use Rattle.gh_ast.specs.declared.Stmt.TheOpen.{Stmt-F}
use Rattle.gh_ast.specs.declared.Stmt.TheFolds.{fold-roll-Stmt, fold_out-Block}
use Rattle.gh_ast.specs.declared.Stmt.TheVariants.{Set, New, Write, Free, Call, If, While, Return, rolls-Set, rolls-New}
use Rattle.gh_ast.specs.declared.Stmt.TheVariants.{rolls-Write, rolls-Free, rolls-Call, rolls-If, rolls-While}
use Rattle.gh_ast.specs.declared.Stmt.TheVariants.{rolls-Return}
use Rattle.gh_ast.specs.Plain.{Cond, compare, negation, conjunction, disjunction, conds_view, cond_step, cond_of}
use Rattle.gh_ast.specs.Plain.{Assertion, empty, comparison, points_to, cell, segment, star, cases, assertions_view}
use Rattle.gh_ast.specs.Plain.{assertion_step, assertion_of, Statement, set, new, write, free, call, if, while, return}
use Rattle.gh_ast.specs.Plain.{statements_view, Block, statement_step, block_step, statement_of, block_of}

pub test_of-Compare : (l : Expr) (e : Bool) (r : Expr) → cond_of (Compare l e r) ≡ compare l e r
test_of-Compare l e r = ap cond_of (sym (rolls-Compare l e r)) ∙ fold-roll-Cond Cond cond_step (Cond-F.Compare l e r)

pub test_of-Not : (t : Box CodeCond Global) → cond_of (Not t) ≡ negation (cond_of t.value)
test_of-Not t = ap cond_of (sym (rolls-Not t)) ∙ fold-roll-Cond Cond cond_step (Cond-F.Not t)

pub test_of-And : (ts : Vec CodeCond Global) → cond_of (And ts) ≡ conjunction (conds_view ts.items)
test_of-And ts = ap cond_of (sym (rolls-And ts)) ∙ fold-roll-Cond Cond cond_step (Cond-F.And ts)

pub test_of-Or : (ts : Vec CodeCond Global) → cond_of (Or ts) ≡ disjunction (conds_view ts.items)
test_of-Or ts = ap cond_of (sym (rolls-Or ts)) ∙ fold-roll-Cond Cond cond_step (Cond-F.Or ts)

pub formula_of-Emp : assertion_of Emp ≡ empty
formula_of-Emp = ap assertion_of (sym rolls-Emp) ∙ fold-roll-Assertion Assertion assertion_step Assertion-F.Emp

pub formula_of-Pure : (l : Operand) (e : Bool) (r : Operand) → assertion_of (Pure l e r) ≡ comparison l e r
formula_of-Pure l e r =
    ap assertion_of (sym (rolls-Pure l e r)) ∙ fold-roll-Assertion Assertion assertion_step (Assertion-F.Pure l e r)

pub formula_of-PointsTo : (a : Occ) (t : Operand) → assertion_of (PointsTo a t) ≡ points_to a t
formula_of-PointsTo a t =
    ap assertion_of (sym (rolls-PointsTo a t)) ∙ fold-roll-Assertion Assertion assertion_step (Assertion-F.PointsTo a t)

pub formula_of-Acc : (a : Occ) → assertion_of (Acc a) ≡ cell a
formula_of-Acc a =
    ap assertion_of (sym (rolls-Acc a)) ∙ fold-roll-Assertion Assertion assertion_step (Assertion-F.Acc a)

pub formula_of-Lseg : (f t : Operand) → assertion_of (Lseg f t) ≡ segment f t
formula_of-Lseg f t =
    ap assertion_of (sym (rolls-Lseg f t)) ∙ fold-roll-Assertion Assertion assertion_step (Assertion-F.Lseg f t)

pub formula_of-Star : (fs : Vec CodeAssertion Global) → assertion_of (Star fs) ≡ star (assertions_view fs.items)
formula_of-Star fs =
    ap assertion_of (sym (rolls-Star fs)) ∙ fold-roll-Assertion Assertion assertion_step (Assertion-F.Star fs)

pub formula_of-Cases : (t : CodeCond) (a b : Box CodeAssertion Global)
    → assertion_of (Cases t a b) ≡ cases (cond_of t) (assertion_of a.value) (assertion_of b.value)
formula_of-Cases t a b =
    ap assertion_of (sym (rolls-Cases t a b)) ∙ fold-roll-Assertion Assertion assertion_step (Assertion-F.Cases t a b)

pub statement_of-Set : (t : Occ) (v : Expr) → statement_of (Set t v) ≡ set t v
statement_of-Set t v =
    ap statement_of (sym (rolls-Set t v)) ∙ fold-roll-Stmt Statement Block statement_step block_step (Stmt-F.Set t v)

pub statement_of-New : (t : Occ) → statement_of (New t) ≡ new t
statement_of-New t =
    ap statement_of (sym (rolls-New t)) ∙ fold-roll-Stmt Statement Block statement_step block_step (Stmt-F.New t)

pub statement_of-Write : (a : Occ) (v : Expr) → statement_of (Write a v) ≡ write a v
statement_of-Write a v =
    ap statement_of (sym (rolls-Write a v))
    ∙ fold-roll-Stmt Statement Block statement_step block_step (Stmt-F.Write a v)

pub statement_of-Free : (a : Occ) → statement_of (Free a) ≡ free a
statement_of-Free a =
    ap statement_of (sym (rolls-Free a)) ∙ fold-roll-Stmt Statement Block statement_step block_step (Stmt-F.Free a)

pub statement_of-Call : (ts : Vec Occ Global) (c : Occ) (vs : Vec Expr Global)
    → statement_of (Call ts c vs) ≡ call ts.items c vs.items
statement_of-Call ts c vs =
    ap statement_of (sym (rolls-Call ts c vs))
    ∙ fold-roll-Stmt Statement Block statement_step block_step (Stmt-F.Call ts c vs)

pub statement_of-If : (t : CodeCond) (a b : CodeBlock)
    → statement_of (If t a b)
    ≡ if (cond_of t) (block_of a).statements (block_of a).close (block_of b).statements (block_of b).close
statement_of-If t a b =
    ap statement_of (sym (rolls-If t a b)) ∙ fold-roll-Stmt Statement Block statement_step block_step (Stmt-F.If t a b)

pub statement_of-While : (s : Span) (t : CodeCond) (i : CodeAssertion) (b : CodeBlock)
    → statement_of (While s t i b) ≡ while s (cond_of t) (assertion_of i) (block_of b).statements (block_of b).close
statement_of-While s t i b =
    ap statement_of (sym (rolls-While s t i b))
    ∙ fold-roll-Stmt Statement Block statement_step block_step (Stmt-F.While s t i b)

pub statement_of-Return : (s : Span) (vs : Vec Expr Global) → statement_of (Return s vs) ≡ return s vs.items
statement_of-Return s vs =
    ap statement_of (sym (rolls-Return s vs))
    ∙ fold-roll-Stmt Statement Block statement_step block_step (Stmt-F.Return s vs)

pub part_of-statements : (b : CodeBlock) → (block_of b).statements ≡ statements_view b.statements.items
part_of-statements b = ap (λ p. p.statements) (fold_out-Block Statement Block statement_step block_step b)
