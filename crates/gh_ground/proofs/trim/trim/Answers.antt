use Rattle.std.proofs.Common.{List, Bool, sym, subst}
use Rattle.gh_ground.specs.Trimming.{AreNeeded}
use Rattle.gh_ground.proofs.TrimLemmas.{whole_refutes}
use Rattle.gh_ground.proofs.trim.trim.Goals as goal

pub returns-then-are_all_kept : goal.returns-then-are_all_kept
returns-then-are_all_kept c =
    let kept = c.as_slice.result.now in
    let needed =
    subst (λ (marks : List Bool). AreNeeded c.args.section.lines marks 0) (sym c.as_slice.ensures.value)
    c.in_ok-kept.ensures in
    whole_refutes c.args.ground.now c.args.section kept c.fits_types.ensures needed
    (c.are_all_kept.ensures c.if-are_all_kept.true) c.requires
