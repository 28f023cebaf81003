use Rattle.std.proofs.Common.{◌≡◌, ◌+◌, ◌∙◌, sym, arith}
use Rattle.gh_cc.specs.Partitions.{rep_of}
use Rattle.gh_cc.proofs.CountLemmas.{class_none, class_more, class_other, class_long, times_long}
use Rattle.gh_cc.proofs.moving.class_times.Goals as goal
use Rattle.gh_cc.proofs.moving.class_times.Goals.{then-rep-class, else-rep-class}

pub loop-t-init : goal.loop-t-init
loop-t-init c = sym (class_none c.args.uses.now.list (rep_of c.args.partition.now) c.args.class.0)

pub overflow_add-sum : goal.overflow_add-sum
overflow_add-sum c =
    let list = c.args.uses.now.list in
    omega (
      arith,
      c.requires.few,
      c.loop-t.invariant,
      c.times.ensures,
      class_long list (rep_of c.args.partition.now) c.args.class.0 c.loop-t.t,
      times_long list c.loop-t.t,
    )

pub loop-t-preserved : goal.loop-t-preserved
loop-t-preserved c =
    let list = c.args.uses.now.list in
    let r = rep_of c.args.partition.now in
    elim c.if-rep-class.branch [
      | then-rep-class w ↦
          let more = class_more list r c.args.class.0 c.loop-t.t (sym c.rep.ensures.value ∙ w.if-rep-class.true) in
          let sum : c.if-rep-class.sum ≡ c.loop-t.sum + w.times.result = w.sum-is in
          sum ∙ (λ i. c.loop-t.invariant i + w.times.ensures i) ∙ sym more
      | else-rep-class w ↦
          w.sum-is ∙ c.loop-t.invariant
          ∙ sym (class_other list r c.args.class.0 c.loop-t.t (λ e. w.if-rep-class.false (c.rep.ensures.value ∙ e)))
    ]
