-- Counts of calls.
use Rattle.std.proofs.Common.{◌≡◌, ◌∙◌, ℕ, ◌+◌, ◌≤◌, List, ◌++◌, length, Option, Some, None, ap, subst, sym, arith}
use Rattle.std.proofs.lemmas.List.{length-append}
use Rattle.gh_base.specs.Outside.{next, Counts, MakesAtMost}
use Rattle.gh_base.specs.Reading.{IsReading, calls_for}

-- one call after some others
pub one_more : (n m : ℕ) (old mid new : Option ℕ) → MakesAtMost n old mid → Counts mid new → n + 1 ≤ m
    → MakesAtMost m old new
one_more n m None mid new few counted fits = tt
one_more n m (Some a) None new few counted fits = absurd few
one_more n m (Some a) (Some b) new few counted fits =
    let within : next b ≤ a + m = omega (arith, few, fits) in
    subst (MakesAtMost m (Some a)) (sym counted) within

pub none_more : (old : Option ℕ) → MakesAtMost 0 old old
none_more None = tt
none_more (Some a) = omega arith

pub fewer : (n m : ℕ) (old new : Option ℕ) → MakesAtMost n old new → n ≤ m → MakesAtMost m old new
fewer n m None new few fits = tt
fewer n m (Some a) None few fits = absurd few
fewer n m (Some a) (Some b) few fits = omega (arith, few, fits)

-- the bytes that were read so far leave a call for one `begin`, each of them, and one more
pub fits : (bytes : Option (Option (List ℕ))) (text : List ℕ) (left : Option (List ℕ)) (limit : ℕ)
    → IsReading bytes text left → length text ≤ limit → length text + 2 ≤ calls_for bytes limit
fits None text left limit h short = omega (arith, short)
fits (Some None) text left limit h short = absurd cc
fits (Some (Some whole)) text left limit h short =
    let same : whole ≡ text ++ h.0 = one h.2 in
    let long : length whole ≡ length text + length h.0 = ap length same ∙ length-append text h.0 in
    omega (arith, short, long)
  where
    one : {rest : List ℕ} → Some whole ≡ Some rest → whole ≡ rest
    one e = cc

-- one call is among them
pub one_fits : (bytes : Option (Option (List ℕ))) (limit : ℕ) → 1 ≤ calls_for bytes limit
one_fits None limit = omega arith
one_fits (Some None) limit = omega arith
one_fits (Some (Some whole)) limit = omega arith
