-- The plain forms of what the parser builds.
use Rattle.std.proofs.Common.{◌≡◌, Bool, List, [], ◌∷◌, map, Box, Vec, Global, refl, sym, ◌∙◌, ap}
use Rattle.gh_ast.specs.declared.Cond.{Cond as CodeCond}
use Rattle.gh_ast.specs.declared.Cond.TheVariants as cond
use Rattle.gh_ast.specs.declared.Cond.TheVariants.{rolls-Compare, rolls-Not, rolls-And, rolls-Or}
use Rattle.gh_ast.specs.declared.Cond.TheFolds.{fold-roll-Cond}
use Rattle.gh_ast.specs.declared.Cond.TheOpen.{Cond-F}
use Rattle.gh_ast.specs.declared.Expr.{Expr}
use Rattle.gh_ast.specs.declared.Occ.{Occ}
use Rattle.gh_ast.specs.declared.Operand.{Operand}
use Rattle.gh_ast.specs.declared.Assertion.{Assertion as CodeAssertion}
use Rattle.gh_ast.specs.declared.Assertion.TheVariants as assertion
use Rattle.gh_ast.specs.declared.Assertion.TheVariants.{rolls-Emp, rolls-Pure, rolls-PointsTo, rolls-Acc, rolls-Lseg}
use Rattle.gh_ast.specs.declared.Assertion.TheVariants.{rolls-Star, rolls-Cases}
use Rattle.gh_ast.specs.declared.Assertion.TheFolds.{fold-roll-Assertion}
use Rattle.gh_ast.specs.declared.Assertion.TheOpen.{Assertion-F}
use Rattle.gh_ast.specs.Plain.{Assertion, empty, comparison, points_to, cell, segment, star, cases, no_assertions}
use Rattle.gh_ast.specs.Plain.{assertion_first, assertion_of, assertion_step, assertions_of, Cond, compare, negation}
use Rattle.gh_ast.specs.Plain.{conjunction, disjunction, no_conds, cond_first, cond_of, cond_step, conds_of}
use Rattle.gh_parse.proofs.Turns.{before}

pub test_of-compare : (l : Expr) (e : Bool) (r : Expr) → cond_of (cond.Compare l e r) ≡ compare l e r
test_of-compare l e r = ap cond_of (sym (rolls-Compare l e r)) ∙ fold-roll-Cond Cond cond_step (Cond-F.Compare l e r)

pub test_of-not : (b : Box CodeCond Global) → cond_of (cond.Not b) ≡ negation (cond_of b.value)
test_of-not b = ap cond_of (sym (rolls-Not b)) ∙ fold-roll-Cond Cond cond_step (Cond-F.Not b)

pub test_of-and : (v : Vec CodeCond Global) → cond_of (cond.And v) ≡ conjunction (conds_of (map cond_of v.items))
test_of-and v = ap cond_of (sym (rolls-And v)) ∙ fold-roll-Cond Cond cond_step (Cond-F.And v)

pub test_of-or : (v : Vec CodeCond Global) → cond_of (cond.Or v) ≡ disjunction (conds_of (map cond_of v.items))
test_of-or v = ap cond_of (sym (rolls-Or v)) ∙ fold-roll-Cond Cond cond_step (Cond-F.Or v)

pub tests_before : (xs : List CodeCond) → before (λ c. cond_first (cond_of c)) xs no_conds ≡ conds_of (map cond_of xs)
tests_before [] = refl
tests_before (x ∷ xs) = ap (cond_first (cond_of x)) (tests_before xs)

pub formula_of-emp : assertion_of assertion.Emp ≡ empty
formula_of-emp = ap assertion_of (sym rolls-Emp) ∙ fold-roll-Assertion Assertion assertion_step Assertion-F.Emp

pub formula_of-pure : (l : Operand) (e : Bool) (r : Operand) → assertion_of (assertion.Pure l e r) ≡ comparison l e r
formula_of-pure l e r =
    ap assertion_of (sym (rolls-Pure l e r)) ∙ fold-roll-Assertion Assertion assertion_step (Assertion-F.Pure l e r)

pub formula_of-points : (a : Occ) (t : Operand) → assertion_of (assertion.PointsTo a t) ≡ points_to a t
formula_of-points a t =
    ap assertion_of (sym (rolls-PointsTo a t)) ∙ fold-roll-Assertion Assertion assertion_step (Assertion-F.PointsTo a t)

pub formula_of-acc : (a : Occ) → assertion_of (assertion.Acc a) ≡ cell a
formula_of-acc a =
    ap assertion_of (sym (rolls-Acc a)) ∙ fold-roll-Assertion Assertion assertion_step (Assertion-F.Acc a)

pub formula_of-lseg : (f t : Operand) → assertion_of (assertion.Lseg f t) ≡ segment f t
formula_of-lseg f t =
    ap assertion_of (sym (rolls-Lseg f t)) ∙ fold-roll-Assertion Assertion assertion_step (Assertion-F.Lseg f t)

pub formula_of-star : (v : Vec CodeAssertion Global)
    → assertion_of (assertion.Star v) ≡ star (assertions_of (map assertion_of v.items))
formula_of-star v =
    ap assertion_of (sym (rolls-Star v)) ∙ fold-roll-Assertion Assertion assertion_step (Assertion-F.Star v)

pub formula_of-cases : (t : CodeCond) (a b : Box CodeAssertion Global)
    → assertion_of (assertion.Cases t a b) ≡ cases (cond_of t) (assertion_of a.value) (assertion_of b.value)
formula_of-cases t a b =
    ap assertion_of (sym (rolls-Cases t a b)) ∙ fold-roll-Assertion Assertion assertion_step (Assertion-F.Cases t a b)

pub formula_of-cases_as : {t u : CodeCond} {y z : Box CodeAssertion Global} (n : Box CodeAssertion Global) → t ≡ u
    → y ≡ z → assertion_of (assertion.Cases t y n) ≡ cases (cond_of u) (assertion_of z.value) (assertion_of n.value)
formula_of-cases_as {u = u} {y = y} {z = z} n e f =
    ap (λ a. assertion_of (assertion.Cases a y n)) e ∙ ap (λ a. assertion_of (assertion.Cases u a n)) f
    ∙ formula_of-cases u z n

pub formulas_before : (xs : List CodeAssertion)
    → before (λ c. assertion_first (assertion_of c)) xs no_assertions ≡ assertions_of (map assertion_of xs)
formulas_before [] = refl
formulas_before (x ∷ xs) = ap (assertion_first (assertion_of x)) (formulas_before xs)
