use Rattle.std.proofs.Common.{◌*◌, arith, suc, ap}
use Rattle.std.proofs.Math.Nat.{pow-suc}
use Rattle.gh_inst.proofs.TupleLemmas.{pow_small}
use Rattle.gh_inst.proofs.tuples.tuple_count.Goals as goal

pub overflow_mul-count : goal.overflow_mul-count
overflow_mul-count c =
    let p = pow_small c.args.terms (suc c.loop-done.done) (omega arith) (omega arith) in
    let e = pow-suc c.args.terms c.loop-done.done in
    let i = ap (λ x. x * c.args.terms) c.loop-done.invariant in
    omega (arith, p, e, i)
