use Rattle.gh_base.specs.declared.atom.Atom.TheVariants.{Btwn}
use Rattle.gh_ground.specs.Making.{IsAtom, IsOfFirst, IsOfClass, MakesTrue}
use Rattle.gh_ground.proofs.structures.give_second.Given as goal

abbrev pub invariant-loop-other : goal.invariant-loop-other
invariant-loop-other l =
    MakesTrue (IsOfFirst l.other l.fn.y (λ t. IsOfClass l.fn.z (λ u. IsAtom (Btwn l.fn.version l.fn.x t u))))
    l.fn.structure l.structure
