use Rattle.std.proofs.Common.{inl, inr, subst}
use Rattle.gh_cc.specs.Kept.{IsRelation}
use Rattle.gh_cc.proofs.lemma.is_derived.Goals as goal

pub returns-in-Eq : goal.returns-in-Eq
returns-in-Eq c derived =
    elim derived as (λ _. ⊥) [ inl w ↦ c.in-None.ensures.none w.0 w.1 w.2 | inr w ↦ subst IsRelation c.in-Eq.is w.0 ]
