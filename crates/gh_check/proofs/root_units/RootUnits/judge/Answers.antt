use Rattle.std.proofs.Common.{refl}
use Rattle.gh_check.proofs.RestLemmas.{refused_by}
use Rattle.gh_check.proofs.RootUnitsLemmas.{confirmed_follows}
use Rattle.gh_check.proofs.root_units.RootUnits.judge.Goals as goal

pub returns-then-branch-clause-judged : goal.returns-then-branch-clause-judged
returns-then-branch-clause-judged c =
    let confirmed = c.in_ok-are_confirmed.ensures.exact.0 c.if-branch.true in
    let shown = confirmed_follows _ _ _ _ confirmed (c.in_ok-fix_all.ensures.given c.requires.root_units.given) in
    ((λ t. shown), λ follows. refl)

pub returns-then-are_refused-clause-judged : goal.returns-then-are_refused-clause-judged
returns-then-are_refused-clause-judged c =
    ((λ t. absurd (cc)), λ follows. absurd (refused_by _ _ _ (c.if-are_refused.ensures.0 refl) follows))
