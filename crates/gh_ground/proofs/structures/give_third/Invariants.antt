use Rattle.gh_base.specs.declared.atom.Atom.TheVariants.{Btwn}
use Rattle.gh_ground.specs.Making.{IsAtom, IsOfFirst, MakesTrue}
use Rattle.gh_ground.proofs.structures.give_third.Given as goal

abbrev pub invariant-loop-other : goal.invariant-loop-other
invariant-loop-other l =
    MakesTrue (IsOfFirst l.other l.fn.z (λ t. IsAtom (Btwn l.fn.version l.fn.x l.fn.y t))) l.fn.structure l.structure
