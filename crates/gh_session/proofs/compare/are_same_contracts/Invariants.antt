use Rattle.std.proofs.Common.{◌≡◌, ◌↔◌, map, drop}
use Rattle.gh_session.specs.Views.{contract_view}
use Rattle.gh_session.proofs.compare.are_same_contracts.Given as goal

abbrev pub invariant-loop-one : goal.invariant-loop-one
invariant-loop-one l =
    (map contract_view (drop l.one-index l.some) ≡ map contract_view l.left)
    ↔ (map contract_view l.some ≡ map contract_view l.others)
