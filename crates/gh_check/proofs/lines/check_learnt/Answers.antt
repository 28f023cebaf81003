use Rattle.std.proofs.Common.{refl, sym, subst}
use Rattle.gh_base.specs.Atoms.{AreInRange}
use Rattle.gh_check.proofs.LineLemmas.{learnt_refused, learnt_taken}
use Rattle.gh_check.proofs.lines.check_learnt.Goals as goal

pub returns-then-not-are_in_range-clause-checked : goal.returns-then-not-are_in_range-clause-checked
returns-then-not-are_in_range-clause-checked c =
    λ p same earlier h. (
      (λ kind. let f = c.if-not-are_in_range.ensures.1
          (subst (λ s. AreInRange s c.args.lits.now) same kind.0) in absurd (cc)),
      refl,
    )

pub returns-then-not-branch-clause-checked : goal.returns-then-not-branch-clause-checked
returns-then-not-branch-clause-checked c =
    λ p same earlier h. learnt_refused p earlier c.args.kept.now c.args.lits.now h
    (λ follows. let f = c.in_ok-is_implied.ensures.exact.1 follows in let g = c.if-not-branch.true in absurd (cc))

pub returns-clause-checked : goal.returns-clause-checked
returns-clause-checked c =
    let follows = c.in_ok-is_implied.ensures.exact.0 c.if-not-branch.false in
    λ p same earlier h. learnt_taken p earlier c.args.kept.now c.args.lits.now h
    (subst (λ s. AreInRange s c.args.lits.now) (sym same) (c.if-not-are_in_range.ensures.0 refl)) follows
