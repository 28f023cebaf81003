use Rattle.gh_base.specs.declared.atom.Atom.TheVariants.{Hop}
use Rattle.gh_ground.specs.Making.{IsAtom, IsOfFirst, IsOfClass, MakesTrue}
use Rattle.gh_ground.proofs.structures.give_hop.Given as goal

abbrev pub invariant-loop-other : goal.invariant-loop-other
invariant-loop-other l =
    MakesTrue (IsOfFirst l.other l.fn.x (λ t. IsOfClass l.fn.v (λ u. IsAtom (Hop l.fn.version t u)))) l.fn.structure
    l.structure
