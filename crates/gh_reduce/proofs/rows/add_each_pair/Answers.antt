use Rattle.std.proofs.Common.{ℕ, ap, arith}
use Rattle.std.specs.List.{flat_map}
use Rattle.gh_base.specs.Atoms.{term, terms_below}
use Rattle.gh_reduce.proofs.RowLemmas.{pair_stays}
use Rattle.gh_symb.specs.Formulas.{each}
use Rattle.gh_reduce.specs.Rows.{of_pair}
use Rattle.gh_reduce.proofs.GrowthLemmas.{flat_more, same_terms}
use Rattle.gh_reduce.proofs.rows.add_each_pair.Goals as goal

pub add_pairs_of-requires : goal.add_pairs_of-requires
add_pairs_of-requires c =
    let e = c.args.each.now in
    let n = c.args.ground.now.sizes.terms in
    let same =
    same_terms c.args.ground.now c.loop-z.ground (flat_map (λ z. each n (of_pair e z)) (terms_below c.loop-z.z))
    c.loop-z.invariant in
    record {
      inside =
          pair_stays c.args.ground.now c.loop-z.ground (flat_map (λ z. each n (of_pair e z)) (terms_below c.loop-z.z)) e
          c.loop-z.invariant c.requires;
      term = omega (arith, same, c.terms-z-end.ensures);
    }

pub loop-z-preserved : goal.loop-z-preserved
loop-z-preserved c =
    let e = c.args.each.now in
    let n = c.args.ground.now.sizes.terms in
    let same =
    same_terms c.args.ground.now c.loop-z.ground (flat_map (λ z. each n (of_pair e z)) (terms_below c.loop-z.z))
    c.loop-z.invariant in
    flat_more (λ z. each n (of_pair e z)) c.loop-z.z c.args.ground.now c.loop-z.ground c.add_pairs_of.new.ground
    (each c.loop-z.ground.sizes.terms (of_pair e (term c.loop-z.z))) c.loop-z.invariant
    (ap (λ (k : ℕ). each k (of_pair e (term c.loop-z.z))) same) c.in_ok-add_pairs_of.ensures
