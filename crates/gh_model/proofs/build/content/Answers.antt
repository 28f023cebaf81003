use Rattle.std.proofs.Common.{◌≡◌, ◌<◌, sym, ◌∙◌, ap, arith}
use Rattle.gh_base.specs.declared.sizes.Sizes.{Sizes}
use Rattle.gh_model.proofs.building.Heaps.{content_found, content_none}
use Rattle.gh_model.proofs.build.content.Goals as goal

pub returns-then-holds : goal.returns-then-holds
returns-then-holds c =
    let s = c.args.structure.now in
    let e : c.sizes-sizes.result.terms ≡ s.sizes.terms = ap (λ (z : Sizes). z.terms) c.sizes-sizes.ensures.sizes in
    let l : c.loop-next.next < s.sizes.terms = omega (arith, c.loop-next-test.true) in
    c.from.ensures ∙ c.class.ensures
    ∙ sym (content_found s c.sizes-sizes.ensures.valid c.args.version c.args.x.0 c.loop-next.next l
    (sym c.holds.ensures ∙ c.if-holds.true) c.loop-next.invariant)

pub returns : goal.returns
returns c =
    let s = c.args.structure.now in
    let e : c.sizes-sizes.result.terms ≡ s.sizes.terms = ap (λ (z : Sizes). z.terms) c.sizes-sizes.ensures.sizes in
    sym (content_none s c.sizes-sizes.ensures.valid c.args.version c.args.x.0
    (λ v l. c.loop-next.invariant v (omega (arith, c.loop-next-test.false))))
