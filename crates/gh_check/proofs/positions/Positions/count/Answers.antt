use Rattle.std.proofs.Common.{◌∙◌, length, sym, ap}
use Rattle.gh_check.specs.Kept.{Kept}
use Rattle.gh_check.proofs.PositionLemmas.{count_is}
use Rattle.gh_check.proofs.positions.Positions.count.Goals as goal

pub returns : goal.returns
returns c =
    let i = c.self.inside in
    sym (count_is i.ground.now i.lines.now i.taken i.deleted.items c.self.invariant)
    ∙ ap (λ (k : Kept). length k.clauses) c.self.view_is
