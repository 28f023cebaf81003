use Rattle.std.proofs.Common.{◌≡◌, ◌∙◌, sym, subst, arith}
use Rattle.gh_base.specs.declared.sizes.Sizes.{Sizes}
use Rattle.gh_base.specs.Atoms.{AreInRange}
use Rattle.gh_inst.specs.Violations.{IsClauseTrueIn}
use Rattle.gh_sat.proofs.NeededLemmas.{all_taken}
use Rattle.gh_ground.proofs.CheckedLemmas.{true_more, not_all_true, clause_there}
use Rattle.gh_ground.proofs.checked.are_clauses_true.Goals as goal

pub returns-in_default-clause-no : goal.returns-in_default-clause-no
returns-in_default-clause-no c =
    absurd (clause_there c.args.ground.now.clauses c.loop-number.number
    (let lt = c.loop-number-test.true in omega arith)
    (sym c.in_default.ensures.found))

pub is_clause_true-requires : goal.is_clause_true-requires
is_clause_true-requires c =
    subst (λ (z : Sizes). AreInRange z c.lits.result.now) (sym c.requires)
    (subst (AreInRange c.args.ground.now.sizes) (sym c.lits.ensures) c.in-Some.ensures.in_range)

pub returns-then-not-is_clause_true-clause-no : goal.returns-then-not-is_clause_true-clause-no
returns-then-not-is_clause_true-clause-no c = λ _.
    not_all_true c.args.structure.now c.args.ground.now.clauses c.loop-number.number c.in-Some.clause.now
    c.lits.result.now (sym c.in-Some.ensures.found) c.lits.ensures (c.if-not-is_clause_true.ensures)

pub loop-number-preserved : goal.loop-number-preserved
loop-number-preserved c =
    true_more c.args.structure.now c.args.ground.now.clauses c.loop-number.number c.in-Some.clause.now
    c.lits.result.now (sym c.in-Some.ensures.found) c.lits.ensures (c.if-not-is_clause_true.ensures)
    c.loop-number.invariant

pub returns-clause-yes : goal.returns-clause-yes
returns-clause-yes c = λ _.
    all_taken (IsClauseTrueIn c.args.structure.now) c.args.ground.now.clauses c.loop-number.number
    (let ge = c.loop-number-test.false in omega arith) c.loop-number.invariant
