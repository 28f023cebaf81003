-- The plain forms of assertions without members.
use Rattle.std.specs.Prelude.{◌≡◌, Bool}
use Rattle.std.proofs.Common.{◌∙◌, ap, sym}
use Rattle.gh_ast.specs.declared.Occ.{Occ}
use Rattle.gh_ast.specs.declared.Operand.{Operand}
use Rattle.gh_ast.specs.declared.Assertion as tree
use Rattle.gh_ast.specs.declared.Assertion.TheOpen.{Assertion-F}
use Rattle.gh_ast.specs.declared.Assertion.TheVariants.{rolls-Emp, rolls-Pure, rolls-PointsTo, rolls-Acc, rolls-Lseg}
use Rattle.gh_ast.specs.declared.Assertion.TheFolds.{fold-roll-Assertion}
use Rattle.gh_ast.specs.Plain.{Assertion, assertion_step, assertion_of, empty, comparison, points_to, cell, segment}

pub plain_emp : assertion_of tree.Emp ≡ empty
plain_emp = ap assertion_of (sym rolls-Emp) ∙ fold-roll-Assertion Assertion assertion_step Assertion-F.Emp

pub plain_pure : (l : Operand) (e : Bool) (r : Operand) → assertion_of (tree.Pure l e r) ≡ comparison l e r
plain_pure l e r =
    ap assertion_of (sym (rolls-Pure l e r)) ∙ fold-roll-Assertion Assertion assertion_step (Assertion-F.Pure l e r)

pub plain_points_to : (at : Occ) (to : Operand) → assertion_of (tree.PointsTo at to) ≡ points_to at to
plain_points_to at to =
    ap assertion_of (sym (rolls-PointsTo at to))
    ∙ fold-roll-Assertion Assertion assertion_step (Assertion-F.PointsTo at to)

pub plain_acc : (at : Occ) → assertion_of (tree.Acc at) ≡ cell at
plain_acc at = ap assertion_of (sym (rolls-Acc at)) ∙ fold-roll-Assertion Assertion assertion_step (Assertion-F.Acc at)

pub plain_lseg : (from to : Operand) → assertion_of (tree.Lseg from to) ≡ segment from to
plain_lseg from to =
    ap assertion_of (sym (rolls-Lseg from to)) ∙ fold-roll-Assertion Assertion assertion_step (Assertion-F.Lseg from to)
