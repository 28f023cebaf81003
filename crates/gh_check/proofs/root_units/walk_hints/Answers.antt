use Rattle.std.proofs.Common.{◌++◌, List, ◌∙◌, ◌+◌, get_or, refl, sym, ap, subst, arith}
use Rattle.std.proofs.lemmas.List.Elements.{All-contains}
use Rattle.gh_base.specs.declared.atom.Lit.{Lit}
use Rattle.gh_base.specs.Atoms.{IsInRange}
use Rattle.gh_base.specs.Hints.{HasAllButOne}
use Rattle.gh_sat.specs.Theory.{IsRefutedBy}
use Rattle.gh_check.specs.Kept.{clause_at}
use Rattle.gh_check.specs.Truths.{TruthSet}
use Rattle.gh_check.proofs.TruthLemmas.{WalksTo, walks_false, walks_unit, walks_open, walks_end, at_within}
use Rattle.gh_check.proofs.RootUnitsLemmas.{beside, not_above}
use Rattle.gh_check.proofs.root_units.walk_hints.Goals as goal

pub returns-in-False-clause-shown : goal.returns-in-False-clause-shown
returns-in-False-clause-shown c =
    let n = get_or c.args.hints.now c.loop-hint.hint-index 0 in
    let all =
    subst (λ (s : TruthSet). IsRefutedBy s.lits (clause_at c.args.kept.now n)) c.both.ensures c.in-False.ensures in (
      (λ t. walks_false c.args.kept.now c.args.hints.now (c.args.fixed.now.lits ++ c.args.above.now.lits)
          c.loop-hint.hint-index 0 n (c.args.fixed.now.lits ++ c.loop-hint.above.lits) c.loop-hint-test.true refl
          c.loop-hint.invariant.follows all),
      λ h. refl,
    )

pub returns-in-Open-clause-shown : goal.returns-in-Open-clause-shown
returns-in-Open-clause-shown c =
    let n = get_or c.args.hints.now c.loop-hint.hint-index 0 in
    let found = subst (λ (s : TruthSet). (IsRefutedBy s.lits (clause_at c.args.kept.now n) → ⊥)
    × ((l : Lit) → HasAllButOne s.lits (clause_at c.args.kept.now n) l → ⊥)) c.both.ensures c.in-Open.ensures in (
      (λ t. absurd (cc)),
      (λ h. absurd (walks_open c.args.kept.now c.args.hints.now (c.args.fixed.now.lits ++ c.args.above.now.lits)
          c.loop-hint.hint-index 0 n (c.args.fixed.now.lits ++ c.loop-hint.above.lits) c.loop-hint-test.true refl
          c.loop-hint.invariant.follows
          found.0 found.1 h)),
    )

pub returns-clause-shown : goal.returns-clause-shown
returns-clause-shown c = (
  (λ t. absurd (cc)),
  (λ h. absurd (walks_end c.args.kept.now c.args.hints.now (c.args.fixed.now.lits ++ c.args.above.now.lits)
      c.loop-hint.hint-index (c.args.fixed.now.lits ++ c.loop-hint.above.lits) (omega arith)
      c.loop-hint.invariant.follows h)),
)

pub add-requires-clause-range : goal.add-requires-clause-range
add-requires-clause-range c =
    let there = c.in-Unit.ensures.there in
    let n = get_or c.args.hints.now c.loop-hint.hint-index 0 in
    let ranged = at_within c.args.fixed.now.sizes c.args.kept.now n c.requires.within in
    let here =
    All-contains (λ (l : Lit). IsInRange c.args.fixed.now.sizes l.atom) (clause_at c.args.kept.now n) c.in-Unit.lit
    ranged there in
    subst (λ s. IsInRange s c.in-Unit.lit.atom) (sym (c.loop-hint.invariant.sizes ∙ c.requires.sizes)) here

pub add-requires-clause-not_false : goal.add-requires-clause-not_false
add-requires-clause-not_false c =
    let n = get_or c.args.hints.now c.loop-hint.hint-index 0 in
    let one =
    subst (λ (s : TruthSet). HasAllButOne s.lits (clause_at c.args.kept.now n) c.in-Unit.lit) c.both.ensures
    c.in-Unit.ensures in
    not_above c.args.fixed.now.lits c.loop-hint.above.lits (clause_at c.args.kept.now n) c.in-Unit.lit one

pub loop-hint-preserved : goal.loop-hint-preserved
loop-hint-preserved c =
    let n = get_or c.args.hints.now c.loop-hint.hint-index 0 in
    let set : List Lit = c.args.fixed.now.lits ++ c.loop-hint.above.lits in
    let first : List Lit = c.args.fixed.now.lits ++ c.args.above.now.lits in
    let one =
    subst (λ (s : TruthSet). HasAllButOne s.lits (clause_at c.args.kept.now n) c.in-Unit.lit) c.both.ensures
    c.in-Unit.ensures in
    let added = c.in_ok-add-in-Unit.ensures.added in
    let longer =
    beside c.args.fixed.now.lits c.loop-hint.above.lits _ c.in-Unit.lit (ap (λ (t : TruthSet). t.lits) added) in
    record {
      sizes = ap (λ (t : TruthSet). t.sizes) added ∙ c.loop-hint.invariant.sizes;
      follows = subst (WalksTo c.args.kept.now c.args.hints.now first (c.loop-hint.hint-index + 1)) (sym longer)
          (walks_unit c.args.kept.now c.args.hints.now first c.loop-hint.hint-index 0 n set c.loop-hint-test.true refl
          c.loop-hint.invariant.follows
          c.args.fixed.now.sizes c.in-Unit.lit (at_within c.args.fixed.now.sizes c.args.kept.now n c.requires.within)
          one);
    }
