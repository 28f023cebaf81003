use Rattle.gh_base.specs.declared.atom.Atom.TheVariants.{Alloc}
use Rattle.gh_ground.specs.Making.{IsAtom, IsOfFirst, MakesTrue}
use Rattle.gh_ground.proofs.structures.give_alloc.Given as goal

abbrev pub invariant-loop-other : goal.invariant-loop-other
invariant-loop-other l =
    MakesTrue (IsOfFirst l.other l.fn.x (λ t. IsAtom (Alloc l.fn.version t))) l.fn.structure l.structure
