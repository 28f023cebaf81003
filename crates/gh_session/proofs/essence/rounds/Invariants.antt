use Rattle.std.proofs.Common.{◌≡◌, map, get_or, take}
use Rattle.gh_path.specs.Walking.{loop_of}
use Rattle.gh_session.specs.Essences as plain
use Rattle.gh_session.specs.Views.{loop_contract_view}
use Rattle.gh_session.proofs.essence.rounds.Given as goal

abbrev pub invariant-loop-number : goal.invariant-loop-number
invariant-loop-number l =
    map loop_contract_view l.whole.items
    ≡ map (λ n. get_or (map (plain.loop_contract_of l.variables) (map loop_of l.loops)) n plain.no_loop_contract)
    (take l.number-index l.numbers)
