use Rattle.std.proofs.Common.{◌≡◌, map, drop}
use Rattle.gh_session.specs.Fingerprint as plain
use Rattle.gh_session.specs.Views.{contract_view}
use Rattle.gh_session.proofs.fingerprint.with_contracts.Given as goal

abbrev pub invariant-loop-contract : goal.invariant-loop-contract
invariant-loop-contract l =
    plain.over plain.with_contract l.mixed (map contract_view (drop l.contract-index l.contracts))
    ≡ plain.counted plain.with_contract l.hash (map contract_view l.contracts)
