use Rattle.std.proofs.Common.{refl, sym, subst}
use Rattle.gh_base.specs.Atoms.{AreInRange}
use Rattle.gh_check.proofs.LineLemmas.{hints_refused, range_refused, hinted_refused, hinted_taken}
use Rattle.gh_check.proofs.lines.check_hinted.Goals as goal

pub returns-then-not-all_stand-clause-checked : goal.returns-then-not-all_stand-clause-checked
returns-then-not-all_stand-clause-checked c =
    let p = c.args.ground.now in
    λ earlier h. hints_refused p earlier c.args.lits.now c.args.hints.now
    (λ all. let f = (c.if-not-all_stand.ensures p earlier h).1 all in absurd (cc))

pub returns-then-not-are_in_range-clause-checked : goal.returns-then-not-are_in_range-clause-checked
returns-then-not-are_in_range-clause-checked c =
    let p = c.args.ground.now in
    λ earlier h. range_refused p earlier c.args.lits.now c.args.hints.now
    ((c.if-not-all_stand.ensures p earlier h).0 refl)
    (λ r. let f = c.if-not-are_in_range.ensures.1
    (subst (λ s. AreInRange s c.args.lits.now) (sym c.sizes.ensures.sizes) r) in absurd (cc))

pub returns-then-not-branch-clause-checked : goal.returns-then-not-branch-clause-checked
returns-then-not-branch-clause-checked c =
    let p = c.args.ground.now in
    λ earlier h. hinted_refused p earlier c.args.kept.now c.args.lits.now c.args.hints.now h
    ((c.if-not-all_stand.ensures p earlier h).0 refl)
    (λ shown. let f = c.in_ok-are_shown.ensures.exact.1 shown in let g = c.if-not-branch.true in absurd (cc))

pub returns-clause-checked : goal.returns-clause-checked
returns-clause-checked c =
    let p = c.args.ground.now in
    let range =
    subst (λ s. AreInRange s c.args.lits.now) c.sizes.ensures.sizes (c.if-not-are_in_range.ensures.0 refl) in
    let shown = c.in_ok-are_shown.ensures.exact.0 c.if-not-branch.false in
    λ earlier h. hinted_taken p earlier c.args.kept.now c.args.lits.now c.args.hints.now h
    ((c.if-not-all_stand.ensures p earlier h).0 refl) range shown
