use Rattle.std.proofs.Common.{subst}
use Rattle.gh_symb.specs.Fitting.{EncodesUnder}
use Rattle.gh_symb.specs.Symbolic.{under}
use Rattle.gh_symb.specs.Walkers.{terms_at}
use Rattle.gh_symb.proofs.EncodingLemmas.{invariant_goes}
use Rattle.gh_symb.proofs.walker.Walker.ask_invariant.Goals as goal

pub returns-clause-made : goal.returns-clause-made
returns-clause-made c =
    let found = c.while_of-round.ensures in
    invariant_goes _ found.0 _ (terms_at c.args.self.now) _ found.1 found.2.invariant c.in_ok-bound.ensures.made

pub returns-clause-read : goal.returns-clause-read
returns-clause-read c =
    let found = c.while_of-round.ensures in (
      found.0,
      found.1,
      subst (λ f. EncodesUnder c.in_ok-bound.bound (under f (terms_at c.args.self.now)))
          found.2.invariant c.in_ok-bound.ensures.encodes,
    )
