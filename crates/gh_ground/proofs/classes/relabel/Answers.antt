use Rattle.std.proofs.Common.{◌≡◌, ◌<◌, ◌∙◌, ap, sym, length, get_or, arith, List}
use Rattle.std.specs.Prelude.{slice_set}
use Rattle.std.proofs.lemmas.Option.{slice_get-get_or, get_or_from_slice_get}
use Rattle.std.proofs.lemmas.List.Edits.{map_over_more}
use Rattle.gh_base.specs.declared.atom.Term.{Term}
use Rattle.gh_cc.specs.Partitions.{moved}
use Rattle.gh_ground.proofs.classes.relabel.Goals as goal

pub loop-class-preserved : goal.loop-class-preserved
loop-class-preserved c =
    let ys : List Term = c.loop-class.class-items in
    let xs : List Term = c.deref_mut-class-items.result.now in
    let i = c.loop-class.class-index in
    let old : Term = record { 0 = 0 } in
    let within : i < length ys = omega arith in
    let long : length ys ≡ length xs = omega arith in
    let read : get_or ys i old ≡ get_or ys i (get_or ys i old) =
    sym (get_or_from_slice_get ys i (get_or ys i old) (get_or ys i old) (slice_get-get_or ys i old within)) in
    ap (slice_set ys i) c.moved.ensures
    ∙ map_over_more (moved c.args.old c.args.new) xs ys i (get_or ys i old) (omega (arith, within, long))
    c.loop-class.invariant read
