-- What is found is exact.
use Rattle.std.proofs.Common.{Some, None, refl}
use Rattle.gh_small.specs.Smallest.{FoundIsExact}

pub found_is_exact : FoundIsExact
found_is_exact P r None is = (λ e. is, λ valid. refl)
found_is_exact P r (Some s) is = (
  λ e. absurd (cc (e)),
  λ valid.
      let against = is.counterexample in
      absurd (valid against.procedure against.of against.first.state _ against.counterexample),
)
