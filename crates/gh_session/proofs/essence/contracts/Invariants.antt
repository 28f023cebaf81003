use Rattle.std.proofs.Common.{◌≡◌, map, get_or, take}
use Rattle.gh_ast.specs.Plain.{procedure_of}
use Rattle.gh_session.specs.Essences as plain
use Rattle.gh_session.specs.Views.{contract_view}
use Rattle.gh_session.proofs.essence.contracts.Given as goal

abbrev pub invariant-loop-number : goal.invariant-loop-number
invariant-loop-number l =
    map contract_view l.whole.items
    ≡ map (λ n. get_or (map plain.contract_of (map procedure_of l.procedures)) n plain.no_contract)
    (take l.number-index l.numbers)
