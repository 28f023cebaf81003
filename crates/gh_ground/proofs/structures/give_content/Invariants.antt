use Rattle.gh_base.specs.declared.atom.Atom.TheVariants.{Hop}
use Rattle.gh_ground.specs.Making.{IsAtom, IsOfFirst, MakesTrue}
use Rattle.gh_ground.proofs.structures.give_content.Given as goal

abbrev pub invariant-loop-other : goal.invariant-loop-other
invariant-loop-other l =
    MakesTrue (IsOfFirst l.other l.fn.v (λ t. IsAtom (Hop l.fn.version l.fn.x t))) l.fn.structure l.structure
