use Rattle.std.proofs.Common.{◌≡◌, ◌-◌, ◌/◌, ◌++◌, arith, ap, ◌∙◌, sym, subst, refl, take, take_all, append-nil}
use Rattle.std.proofs.Common.{length-set, Some}
use Rattle.std.proofs.Math.Nat.{mod-lt}
use Rattle.gh_inst.proofs.TupleLemmas.{block_less, quotient_below, digit_more, digits_at, digits}
use Rattle.gh_inst.proofs.tuples.tuple_at.Goals as goal

pub nonzero_div-tuple : goal.nonzero_div-tuple
nonzero_div-tuple g c =
    let l = c.loop-i in (block_less g.row.V l.i c.args.terms l.turn l.rest (omega arith) l.invariant.turn
    l.invariant.within).2

pub overflow_cast-tuple : goal.overflow_cast-tuple
overflow_cast-tuple g c =
    let l = c.loop-i in
    let b = block_less g.row.V l.i c.args.terms l.turn l.rest (omega arith) l.invariant.turn l.invariant.within in
    let q = quotient_below l.rest (l.turn / c.args.terms) c.args.terms b.3 in
    omega (arith, q)

pub nonzero_rem-rest : goal.nonzero_rem-rest
nonzero_rem-rest g c =
    let l = c.loop-i in (block_less g.row.V l.i c.args.terms l.turn l.rest (omega arith) l.invariant.turn
    l.invariant.within).2

pub loop-i-preserved : goal.loop-i-preserved
loop-i-preserved g c =
    let l = c.loop-i in
    let b = block_less g.row.V l.i c.args.terms l.turn l.rest (omega arith) l.invariant.turn l.invariant.within in
    record {
      turn = b.0;
      within = mod-lt l.rest b.2;
      long = rw length-set l.invariant.long;
      filled =
          digit_more l.tuple g.row.V l.i c.args.terms l.turn l.rest c.args.place _ (omega arith) (omega arith)
          l.invariant.turn l.invariant.within refl l.invariant.filled;
    }

pub returns : goal.returns
returns g c =
    let l = c.loop-i in
    let none : g.row.V - l.i ≡ 0 = omega arith in
    let filled : take l.i l.tuple ++ digits 0 c.args.terms l.rest ≡ digits g.row.V c.args.terms c.args.place =
    subst (λ j. take l.i l.tuple ++ digits j c.args.terms l.rest ≡ digits g.row.V c.args.terms c.args.place) none
    l.invariant.filled in
    let whole : take l.i l.tuple ≡ l.tuple = take_all l.i l.tuple (omega arith) in
    digits_at g.row.V c.args.terms c.args.place (omega arith)
    ∙ ap Some (sym filled ∙ append-nil (take l.i l.tuple) ∙ whole)
