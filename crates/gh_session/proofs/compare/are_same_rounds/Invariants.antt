use Rattle.std.proofs.Common.{◌≡◌, ◌↔◌, map, drop}
use Rattle.gh_session.specs.Views.{loop_contract_view}
use Rattle.gh_session.proofs.compare.are_same_rounds.Given as goal

abbrev pub invariant-loop-one : goal.invariant-loop-one
invariant-loop-one l =
    (map loop_contract_view (drop l.one-index l.some) ≡ map loop_contract_view l.left)
    ↔ (map loop_contract_view l.some ≡ map loop_contract_view l.others)
