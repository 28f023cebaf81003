use Rattle.std.proofs.Common.{◌∙◌, ◌+◌, get_or, refl, sym, ap, subst, arith}
use Rattle.std.proofs.lemmas.List.Elements.{All-contains}
use Rattle.gh_base.specs.declared.atom.Lit.{Lit}
use Rattle.gh_base.specs.Atoms.{IsInRange}
use Rattle.gh_check.specs.Kept.{clause_at}
use Rattle.gh_check.specs.Truths.{TruthSet}
use Rattle.gh_check.proofs.TruthLemmas.{WalksTo, walks_false, walks_unit, walks_open, walks_end, at_within}
use Rattle.gh_check.proofs.hints.Truths.walk_hints.Goals as goal

pub returns-in-False-clause-exact : goal.returns-in-False-clause-exact
returns-in-False-clause-exact c =
    let all = c.in-False.ensures in (
      (λ t. walks_false c.args.kept.now c.args.hints.now c.args.self.now.lits c.loop-hint.hint-index 0 _
          c.loop-hint.self.lits c.loop-hint-test.true refl c.loop-hint.invariant.follows all),
      λ h. refl,
    )

pub add-requires-clause-range : goal.add-requires-clause-range
add-requires-clause-range c =
    let there = c.in-Unit.ensures.there in
    let n = get_or c.args.hints.now c.loop-hint.hint-index 0 in
    let ranged = at_within c.args.self.now.sizes c.args.kept.now n c.requires in
    let here =
    All-contains (λ (l : Lit). IsInRange c.args.self.now.sizes l.atom) (clause_at c.args.kept.now n) c.in-Unit.lit
    ranged there in
    subst (λ s. IsInRange s c.in-Unit.lit.atom) (sym c.loop-hint.invariant.sizes) here

pub loop-hint-preserved : goal.loop-hint-preserved
loop-hint-preserved c =
    let n = get_or c.args.hints.now c.loop-hint.hint-index 0 in
    let one = c.in-Unit.ensures in
    let added = c.in_ok-add-in-Unit.ensures.added in
    record {
      sizes = ap (λ (t : TruthSet). t.sizes) added ∙ c.loop-hint.invariant.sizes;
      follows =
          subst (WalksTo c.args.kept.now c.args.hints.now c.args.self.now.lits (c.loop-hint.hint-index + 1))
          (sym (ap (λ (t : TruthSet). t.lits) added))
          (walks_unit c.args.kept.now c.args.hints.now c.args.self.now.lits c.loop-hint.hint-index 0 n
          c.loop-hint.self.lits c.loop-hint-test.true refl c.loop-hint.invariant.follows
          c.args.self.now.sizes c.in-Unit.lit (at_within c.args.self.now.sizes c.args.kept.now n c.requires) one);
    }

pub returns-in-Open-clause-exact : goal.returns-in-Open-clause-exact
returns-in-Open-clause-exact c =
    let no_false = c.in-Open.ensures.0 in
    let no_one = c.in-Open.ensures.1 in (
      (λ t. absurd (cc)),
      λ h. absurd (walks_open c.args.kept.now c.args.hints.now c.args.self.now.lits c.loop-hint.hint-index 0 _
          c.loop-hint.self.lits c.loop-hint-test.true refl c.loop-hint.invariant.follows no_false no_one h),
    )

pub returns-clause-exact : goal.returns-clause-exact
returns-clause-exact c = (
  (λ t. absurd (cc)),
  λ h. absurd (walks_end c.args.kept.now c.args.hints.now c.args.self.now.lits c.loop-hint.hint-index
      c.loop-hint.self.lits (omega arith) c.loop-hint.invariant.follows h),
)
