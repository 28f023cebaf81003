use Rattle.std.proofs.Common.{◌≡◌, ◌++◌, inl, inr, List, map, IsTrue, refl, sym, subst}
use Rattle.gh_base.specs.declared.atom.Lit.{Lit}
use Rattle.gh_base.specs.Atoms.{opposite}
use Rattle.gh_base.specs.Hints.{IsRefutedByHints}
use Rattle.gh_check.specs.Kept.{named}
use Rattle.gh_check.proofs.root_units.are_confirmed.Goals as goal

pub returns-then-not-are_standing-clause-exact : goal.returns-then-not-are_standing-clause-exact
returns-then-not-are_standing-clause-exact c =
    ((λ t. absurd (cc)), λ h. let f = c.if-not-are_standing.ensures.1 h.stand in absurd (cc))

pub returns-then-branch-clause-exact : goal.returns-then-branch-clause-exact
returns-then-branch-clause-exact c = (
  (λ t. record {
    stand = c.if-not-are_standing.ensures.0 refl;
    refuted = inl (c.in_ok-falsify.ensures.clash.0 c.if-branch.true);
  }),
  (λ h. refl),
)

pub returns-clause-exact : goal.returns-clause-exact
returns-clause-exact c =
    let fails : IsTrue c.in_ok-falsify.field-0 → ⊥ = λ t. let f = c.if-branch.false in absurd (cc) in
    let set : c.falsify.new.above.lits ≡ map opposite c.args.lits.now = c.in_ok-falsify.ensures.set fails in
    let Refuted : List Lit → Type 0 =
    λ above. IsRefutedByHints (named c.args.kept.now c.args.hints.now) (c.args.fixed.now.lits ++ above) in (
      (λ t. record {
        stand = c.if-not-are_standing.ensures.0 refl;
        refuted = inr (subst Refuted set (c.in_ok-walk_hints.ensures.shown.0 t));
      }),
      (λ h. elim h.refuted as (λ _. IsTrue c.in_ok-walk_hints.field-0) [
        | inl met ↦ absurd (fails (c.in_ok-falsify.ensures.clash.1 met))
        | inr r ↦ c.in_ok-walk_hints.ensures.shown.1 (subst Refuted (sym set) r)
      ]),
    )
