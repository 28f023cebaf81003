use Rattle.std.proofs.Common.{◌≡◌, ◌+◌, ◌∙◌, List, refl, sym, ap, subst, arith}
use Rattle.gh_base.specs.declared.atom.Term.{Term}
use Rattle.gh_base.specs.declared.atom.Atom.TheVariants.{Hop}
use Rattle.gh_base.specs.Structures.{Tables, class_at}
use Rattle.gh_ground.specs.Making.{IsAtom, IsOfFirst, MakesTrue}
use Rattle.gh_ground.proofs.GivenLemmas.{up_to_one, up_to_other}
use Rattle.gh_ground.proofs.structures.give_content.Goals as goal
use Rattle.gh_ground.proofs.structures.give_content.Goals.{then-class, else-class}

pub loop-other-preserved : goal.loop-other-preserved
loop-other-preserved c =
    let old : Tables = c.args.structure.now in
    let t : Tables = c.loop-other.structure in
    let i = c.loop-other.other in
    let x : Term = c.args.v in
    let y : Term = record { 0 = i } in
    let kept = c.loop-other.invariant in
    let wanted : c.class-class.result.0 ≡ class_at t.classes x.0 =
    c.class-class.ensures ∙ ap (λ (cs : List Term). class_at cs x.0) (sym kept.classes) in
    elim c.if-class.branch [
      | then-class w ↦
          let e : c.class.result.0 ≡ c.class-class.result.0 = let f = w.if-class.true in omega arith in
          subst (λ (new : Tables). MakesTrue (IsOfFirst (i + 1) x (λ t. IsAtom (Hop c.args.version c.args.x t))) old
          new) (sym w.structure-is)
          (up_to_one i x y (λ t. IsAtom (Hop c.args.version c.args.x t)) old t w.give.new.structure refl
          (sym c.class.ensures ∙ e ∙ wanted) w.give.ensures kept)
      | else-class w ↦
          subst (λ (new : Tables). MakesTrue (IsOfFirst (i + 1) x (λ t. IsAtom (Hop c.args.version c.args.x t))) old
          new) (sym w.structure-is)
          (up_to_other i x (λ t. IsAtom (Hop c.args.version c.args.x t)) old t
          (λ same. let e : c.class.result.0 ≡ c.class-class.result.0 = c.class.ensures ∙ same ∙ sym wanted in
          let f = w.if-class.false in f e) kept)
    ]
