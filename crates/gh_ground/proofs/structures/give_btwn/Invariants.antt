use Rattle.gh_base.specs.declared.atom.Atom.TheVariants.{Btwn}
use Rattle.gh_ground.specs.Making.{IsAtom, IsOfFirst, IsOfClass, MakesTrue}
use Rattle.gh_ground.proofs.structures.give_btwn.Given as goal

abbrev pub invariant-loop-other : goal.invariant-loop-other
invariant-loop-other l =
    MakesTrue (IsOfFirst l.other l.fn.x
    (λ t. IsOfClass l.fn.y (λ u. IsOfClass l.fn.z (λ w. IsAtom (Btwn l.fn.version t u w))))) l.fn.structure
    l.structure
