use Rattle.std.proofs.Common.{rules, ℕ, ◌+◌, ◌∷◌, [], ◌++◌, List, get_or, sym, ap, ◌∙◌, subst, arith, take_all}
use Rattle.std.proofs.lemmas.List.Elements.{Contains-get_or}
use Rattle.std.proofs.lemmas.Option.{slice_get-get_or}
use Rattle.gh_cc.proofs.TakingLemmas.{no_lit}
use Rattle.std.proofs.lemmas.List.Sorted.{IsNonDecreasingBy-from_sort}
use Rattle.gh_cc.specs.Lemma.{AreListed}
use Rattle.gh_cc.proofs.KeyLemmas.{AreFirst, first_none, first_one, first_all, listed_sorted}
use Rattle.gh_cc.proofs.keys.sorted.Goals as goal

pub loop-lit-preserved-then-lit-positive : goal.loop-lit-preserved-then-lit-positive
loop-lit-preserved-then-lit-positive c =
    let lits = c.args.lits.now in
    let i = c.loop-lit.lit-index in
    first_none c.args.sizes c.args.partition.now.links lits c.args.positive c.loop-lit.keys.items i
    (get_or lits i no_lit) (omega arith) c.loop-lit.invariant
    (slice_get-get_or lits i no_lit (omega arith)) (λ e. search (rules, c.if-lit-positive.true, e))

pub loop-lit-preserved : goal.loop-lit-preserved
loop-lit-preserved c =
    let lits = c.args.lits.now in
    let i = c.loop-lit.lit-index in
    let links = c.args.partition.now.links in
    let keys = c.loop-lit.keys.items in
    subst (λ (ks : List ℕ). AreFirst c.args.sizes links lits c.args.positive ks (i + 1))
    (ap (λ (n : ℕ). keys ++ n ∷ []) (sym c.key.ensures.value) ∙ sym c.in_ok-push.ensures.items)
    (first_one c.args.sizes links lits c.args.positive keys i (get_or lits i no_lit) (omega arith) c.loop-lit.invariant
    (slice_get-get_or lits i no_lit (omega arith)) (Contains-get_or lits i no_lit (omega arith))
    (search (rules, c.if-lit-positive.false)))

pub returns : goal.returns
returns c =
    let s = c.args.sizes in
    let links = c.args.partition.now.links in
    let lits = c.args.lits.now in
    let listed : AreListed s links lits c.args.positive c.loop-lit.keys.items =
    first_all s links lits c.args.positive c.loop-lit.keys.items c.loop-lit.lit-index
    (take_all c.loop-lit.lit-index lits (omega arith)) c.loop-lit.invariant in
    let new = c.sort_unstable.new.self.items in
    listed_sorted s links lits c.args.positive c.loop-lit.keys.items new c.sort_unstable.ensures.permutation
    (IsNonDecreasingBy-from_sort (λ x. x) new c.sort_unstable.ensures.sorted) listed
