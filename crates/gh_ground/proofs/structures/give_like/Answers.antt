use Rattle.std.proofs.Common.{sym, subst}
use Rattle.gh_base.specs.declared.atom.Atom.{Atom}
use Rattle.gh_ground.specs.Making.{MakesTrue, IsLike}
use Rattle.gh_ground.proofs.GivenLemmas.{like_btwn, like_hop}
use Rattle.gh_ground.proofs.structures.give_like.Goals as goal

pub returns-in-Btwn : goal.returns-in-Btwn
returns-in-Btwn c =
    subst (λ (a : Atom). MakesTrue (IsLike a) c.args.structure.now c.give_btwn.new.structure) (sym c.in-Btwn.is)
    (like_btwn c.in-Btwn.version c.in-Btwn.x c.in-Btwn.y c.in-Btwn.z c.args.structure.now c.give_btwn.new.structure
    c.give_btwn.ensures)

pub returns-in-Hop : goal.returns-in-Hop
returns-in-Hop c =
    subst (λ (a : Atom). MakesTrue (IsLike a) c.args.structure.now c.give_hop.new.structure) (sym c.in-Hop.is)
    (like_hop c.in-Hop.version c.in-Hop.x c.in-Hop.v c.args.structure.now c.give_hop.new.structure c.give_hop.ensures)
