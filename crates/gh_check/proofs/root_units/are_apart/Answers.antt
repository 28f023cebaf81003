use Rattle.std.proofs.Common.{◌++◌, All, refl, sym, subst}
use Rattle.std.specs.Prelude.{Contains}
use Rattle.gh_base.specs.declared.atom.Lit.{Lit}
use Rattle.gh_base.specs.Atoms.{opposite}
use Rattle.gh_check.specs.Truths.{TruthSet}
use Rattle.gh_check.proofs.RestLemmas.{apart_by, apart_first, apart_second}
use Rattle.gh_check.proofs.root_units.are_apart.Goals as goal

pub returns-then-not-none_false : goal.returns-then-not-none_false
returns-then-not-none_false c =
    let fixed = c.args.fixed.now.lits in
    let above = c.args.above.now.lits in
    let AllOpen : TruthSet → Type 0 = λ (t : TruthSet). All (λ m. Contains t.lits (opposite m) → ⊥) c.lits.result.now in
    let P : Lit → Type 0 = λ m. Contains (fixed ++ above) (opposite m) → ⊥ in (
      (λ t. absurd (cc)),
      (λ h. let f = c.if-not-none_false.ensures.1
          (subst AllOpen (sym c.both-told.ensures)
          (subst (All P) (sym c.lits.ensures.lits) (apart_first fixed above h))) in absurd (cc)),
    )

pub returns : goal.returns
returns c =
    let fixed = c.args.fixed.now.lits in
    let above = c.args.above.now.lits in
    let AllOpen : TruthSet → Type 0 = λ (t : TruthSet). All (λ m. Contains t.lits (opposite m) → ⊥) c.lits.result.now in
    let AllOpenAbove : TruthSet → Type 0 =
    λ (t : TruthSet). All (λ m. Contains t.lits (opposite m) → ⊥) c.lits-2.result.now in
    let P : Lit → Type 0 = λ m. Contains (fixed ++ above) (opposite m) → ⊥ in (
      (λ t. apart_by fixed above
          (subst (All P) c.lits.ensures.lits (subst AllOpen c.both-told.ensures (c.if-not-none_false.ensures.0 refl)))
          (subst (All P) c.lits-2.ensures.lits (subst AllOpenAbove c.both-told.ensures (c.none_false-2.ensures.0 t)))),
      (λ h. c.none_false-2.ensures.1
          (subst AllOpenAbove (sym c.both-told.ensures)
          (subst (All P) (sym c.lits-2.ensures.lits) (apart_second fixed above h)))),
    )
