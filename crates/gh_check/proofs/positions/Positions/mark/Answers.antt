use Rattle.std.proofs.Common.{◌∷◌, [], true, IsTrue, sym, subst}
use Rattle.std.specs.Prelude.{slice_set}
use Rattle.gh_check.specs.Kept.{Kept, stands_in, AreDeleted}
use Rattle.gh_check.proofs.KeptLemmas.{stands_within, deleted_one}
use Rattle.gh_check.proofs.PositionLemmas.{entries, mark_within}
use Rattle.gh_check.proofs.positions.Positions.mark.Goals as goal

pub returns : goal.returns
returns c =
    let i = c.self.inside in
    let k : Kept = record {
      problem = i.ground.now;
      lines = i.lines.now;
      clauses = entries i.ground.now i.lines.now i.taken;
      deleted = i.deleted.items;
    } in
    let stands = subst (λ (q : Kept). IsTrue (stands_in q c.args.position)) (sym c.self.view_is) c.requires in
    let lt =
    mark_within i.ground.now i.lines.now i.taken i.deleted.items c.self.invariant c.args.position
    (stands_within k c.args.position stands) in
    subst (λ (q : Kept). AreDeleted q (record k { deleted = slice_set i.deleted.items c.args.position true })
    (c.args.position ∷ [])) c.self.view_is (deleted_one k c.args.position lt)
