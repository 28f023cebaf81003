use Rattle.std.proofs.Common.{◌+◌, Some, map, drop, ◌∙◌, ap, arith}
use Rattle.std.proofs.lemmas.List.{length-map}
use Rattle.gh_path.specs.Terms.{Kind}
use Rattle.gh_symb.specs.Formulas.{successor_formulas, successors_from}
use Rattle.gh_symb.specs.Encodings.{plain_kind}
use Rattle.gh_reduce.specs.Growth.{stated_in}
use Rattle.gh_reduce.proofs.GrowthLemmas.{stated_first, same_terms, same_versions}
use Rattle.gh_reduce.proofs.WalkLemmas.{kind_at, successors_first}
use Rattle.gh_reduce.proofs.ground.add_successors.Goals as goal

pub add_kind-requires : goal.add_kind-requires
add_kind-requires c =
    let ts = c.args.terms.now in
    let t = c.loop-t.t in
    let s = c.loop-t.ground.sizes in
    let at = kind_at ts t c.in-Some.kind c.in-Some.ensures.value in
    let terms = c.loop-t.invariant.terms in
    record {
      version = omega (arith, c.loop-t.invariant.versions, c.requires.version);
      of = λ i x e.
          let below = c.requires.ready.successors t i x (at ∙ ap (λ (k : Kind). Some k) e) in
          omega (arith, below, terms);
      term = omega (arith, terms, c.requires.ready.terms, c.count-t-end.ensures, length-map ts plain_kind);
    }

pub loop-t-preserved : goal.loop-t-preserved
loop-t-preserved c =
    let ts = c.args.terms.now in
    let t = c.loop-t.t in
    let i = c.args.version in
    let p = c.loop-t.ground in
    let q = c.add_kind.new.ground in
    let first = successor_formulas i t (plain_kind c.in-Some.kind) in
    record {
      state =
          stated_first p q (stated_in c.args.ground.now (successors_from i 0 (map plain_kind ts)))
          (successors_from i t (map plain_kind (drop t ts))) first
          (successors_from i (t + 1) (map plain_kind (drop (t + 1) ts)))
          c.loop-t.invariant.state (successors_first i ts t c.in-Some.kind c.in-Some.ensures.value)
          c.in_ok-add_kind.ensures;
      terms = same_terms p q first c.in_ok-add_kind.ensures ∙ c.loop-t.invariant.terms;
      versions = same_versions p q first c.in_ok-add_kind.ensures ∙ c.loop-t.invariant.versions;
    }
