use Rattle.std.proofs.Common.{◌≡◌, map, drop}
use Rattle.gh_session.specs.Fingerprint as plain
use Rattle.gh_session.specs.Views.{loop_contract_view}
use Rattle.gh_session.proofs.fingerprint.with_rounds.Given as goal

abbrev pub invariant-loop-round : goal.invariant-loop-round
invariant-loop-round l =
    plain.over plain.with_loop_contract l.mixed (map loop_contract_view (drop l.round-index l.rounds))
    ≡ plain.counted plain.with_loop_contract l.hash (map loop_contract_view l.rounds)
