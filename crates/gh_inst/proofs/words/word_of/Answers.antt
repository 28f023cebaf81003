use Rattle.std.proofs.Common.{arith, sym, subst}
use Rattle.gh_base.specs.declared.atom.Atom.{Atom}
use Rattle.gh_base.specs.Atoms.{IsInRange}
use Rattle.gh_inst.proofs.WordLemmas.{atom_there}
use Rattle.gh_inst.proofs.words.word_of.Goals as goal

pub holds-truth-requires : goal.holds-truth-requires
holds-truth-requires c =
    let sizes = c.args.structure.now.sizes in
    subst (λ (a : Atom). IsInRange sizes a) (sym c.atom.ensures)
    (atom_there sizes c.args.version c.loop-z.z c.args.of c.requires.version c.requires.there (omega arith))
