use Rattle.std.proofs.Common.{◌≡◌, ◌+◌, ◌∙◌, List, refl, sym, ap, subst, arith}
use Rattle.gh_base.specs.declared.atom.Term.{Term}
use Rattle.gh_base.specs.declared.atom.Atom.TheVariants.{Btwn}
use Rattle.gh_base.specs.Structures.{Tables, class_at}
use Rattle.gh_ground.specs.Making.{IsAtom, IsOfFirst, IsOfClass, MakesTrue}
use Rattle.gh_ground.proofs.GivenLemmas.{up_to_one, up_to_other, up_to_all}
use Rattle.gh_ground.proofs.structures.give_second.Goals as goal
use Rattle.gh_ground.proofs.structures.give_second.Goals.{then-class, else-class}

pub loop-other-preserved : goal.loop-other-preserved
loop-other-preserved c =
    let old : Tables = c.args.structure.now in
    let t : Tables = c.loop-other.structure in
    let i = c.loop-other.other in
    let x : Term = c.args.y in
    let y : Term = record { 0 = i } in
    let kept = c.loop-other.invariant in
    let wanted : c.class-class.result.0 ≡ class_at t.classes x.0 =
    c.class-class.ensures ∙ ap (λ (cs : List Term). class_at cs x.0) (sym kept.classes) in
    elim c.if-class.branch [
      | then-class w ↦
          let e : c.class.result.0 ≡ c.class-class.result.0 = let f = w.if-class.true in omega arith in
          subst (λ (new : Tables). MakesTrue
          (IsOfFirst (i + 1) x (λ t. IsOfClass c.args.z (λ u. IsAtom (Btwn c.args.version c.args.x t u)))) old new)
          (sym w.structure-is)
          (up_to_one i x y (λ t. IsOfClass c.args.z (λ u. IsAtom (Btwn c.args.version c.args.x t u))) old t
          w.give_third.new.structure refl (sym c.class.ensures ∙ e ∙ wanted) w.give_third.ensures kept)
      | else-class w ↦
          subst (λ (new : Tables). MakesTrue
          (IsOfFirst (i + 1) x (λ t. IsOfClass c.args.z (λ u. IsAtom (Btwn c.args.version c.args.x t u)))) old new)
          (sym w.structure-is)
          (up_to_other i x (λ t. IsOfClass c.args.z (λ u. IsAtom (Btwn c.args.version c.args.x t u))) old t
          (λ same. let e : c.class.result.0 ≡ c.class-class.result.0 = c.class.ensures ∙ same ∙ sym wanted in
          let f = w.if-class.false in f e) kept)
    ]

pub returns : goal.returns
returns c =
    let f = c.loop-other-test.false in
    let e = c.terms-other-end.ensures in
    let end : c.loop-other.other ≡ c.args.structure.now.sizes.terms = omega arith in
    up_to_all c.loop-other.other c.args.y (λ t. IsOfClass c.args.z (λ u. IsAtom (Btwn c.args.version c.args.x t u)))
    c.args.structure.now c.loop-other.structure end c.loop-other.invariant
