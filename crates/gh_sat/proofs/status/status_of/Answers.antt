use Rattle.std.proofs.Common.{Option, Bool, Some, ◌∙◌, ap, sym, subst}
use Rattle.gh_sat.specs.Trail.{IsTruth, IsTrueIn}
use Rattle.gh_sat.proofs.StatusLemmas.{true_good}
use Rattle.gh_sat.proofs.WatchLemmas.{pair_good}
use Rattle.gh_sat.proofs.status.status_of.Goals as goal

pub returns-then-has_other_open-clause-status : goal.returns-then-has_other_open-clause-status
returns-then-has_other_open-clause-status c =
    let one = c.in-Some.ensures.some in
    let other = c.has_other_open.ensures.yes c.if-has_other_open.true in
    pair_good c.args.trail.now.steps c.args.clause.now (record {
      one = c.in-Some.lit;
      other = other.0;
      one_in = one.0;
      other_in = other.2.0;
      differ = λ e. other.1 (sym e);
      one_open = one.1;
      other_open = other.2.1;
    })

pub returns-in-Some-true-clause-status : goal.returns-in-Some-true-clause-status
returns-in-Some-true-clause-status c =
    let t = c.args.trail.now in
    let lit = c.in-Some.lit in
    let is : IsTrueIn t.steps lit = subst (λ (o : Option Bool). IsTruth t.steps lit o)
    (c.in-Some-true.is ∙ ap Some c.in-Some-true.field-0-test) c.value.ensures.value in
    true_good t c.args.clause.now lit c.value.ensures.valid c.in-Some.ensures.some.0 is
