use Rattle.std.proofs.Common.{refl, sym, subst}
use Rattle.gh_base.specs.declared.sizes.Sizes.{Sizes}
use Rattle.gh_base.specs.Meaning.{IsEqualityClause}
use Rattle.gh_check.proofs.LineLemmas.{lemma_taken}
use Rattle.gh_check.proofs.lines.check_lemma.Goals as goal

pub returns-then-not-branch : goal.returns-then-not-branch
returns-then-not-branch c =
    λ earlier. (
      (λ kind. let f = c.in_ok-follows_alone.ensures.1
          (subst (λ (z : Sizes). IsEqualityClause z c.args.lits.now) (sym c.sizes.ensures.sizes) kind) in
          let g = c.if-not-branch.true in absurd (cc)),
      refl,
    )

pub returns : goal.returns
returns c =
    λ earlier. lemma_taken c.args.ground.now earlier c.args.lits.now
    (subst (λ (z : Sizes). IsEqualityClause z c.args.lits.now) c.sizes.ensures.sizes
    (c.in_ok-follows_alone.ensures.0 c.if-not-branch.false))
