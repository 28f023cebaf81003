use Rattle.std.proofs.Common.{◌≡◌, All, List, take, take_all, arith, subst}
use Rattle.std.proofs.lemmas.List.Elements.{All-more, All-contains}
use Rattle.gh_base.specs.declared.atom.Lit.{Lit}
use Rattle.gh_cc.specs.Lemma.{IsDerived}
use Rattle.gh_cc.proofs.TakingLemmas.{no_lit}
use Rattle.gh_cc.proofs.lemma.any_derived.Goals as goal

pub loop-l-preserved : goal.loop-l-preserved
loop-l-preserved c =
    let lits = c.args.keyed.now.lits.now in
    All-more (λ (k : Lit). IsDerived c.args.sizes c.args.partition.now.links lits k → ⊥) lits c.loop-l.l-index no_lit
    (omega arith) c.loop-l.invariant c.if-is_derived.ensures

pub returns : goal.returns
returns c h =
    let lits = c.args.keyed.now.lits.now in
    let P : Lit → Type 0 = λ k. IsDerived c.args.sizes c.args.partition.now.links lits k → ⊥ in
    let whole : take c.loop-l.l-index lits ≡ lits = take_all c.loop-l.l-index lits (omega arith) in
    All-contains P lits h.lit (subst (λ (ls : List Lit). All P ls) whole c.loop-l.invariant) h.there h.derived
