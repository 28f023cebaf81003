-- The leaders are the allocated classes.
use Rattle.std.proofs.Common.{◌∙◌, arith}
use Rattle.gh_small.specs.Laws.{ClassesAreCounted, ClassesAreFew}
use Rattle.gh_small.proofs.CountingLemmas.{has, few_leaders, many_leaders}
use Rattle.gh_small.proofs.LeaderLemmas.{leads_allocated, led_by}

pub few : ClassesAreFew
few m at n values one h = few_leaders m at n values one (λ t lt is. has values (at t) (h t lt (leads_allocated m t is)))

pub counted : ClassesAreCounted
counted s m values some c apart h =
    let low =
    few m m.class s.terms values (λ t u lt le e. e)
    (λ t lt there. (h (m.class t)).1 (t, lt, there, Rattle.std.proofs.Common.refl)) in
    let high = many_leaders m s.terms values apart (λ v w.
    let t = (h v).0 w in
    let u = led_by s m some c t.0 t.1 t.2 in
    (u.0, omega (arith, u.1, t.1), u.2, u.3 ∙ t.3)) in
    omega arith
