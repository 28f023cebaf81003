use Rattle.gh_check.proofs.KeptLemmas.{all_forth, all_back}
use Rattle.gh_check.proofs.positions.Positions.all_stand.Goals as goal

pub returns : goal.returns
returns c =
    let k = c.args.self.now in let ks = c.args.positions.now in
    λ p lines h. (
      (λ t. all_forth p lines k h ks (c.are_standing.ensures.0 t)),
      λ a. c.are_standing.ensures.1 (all_back p lines k h ks a),
    )
