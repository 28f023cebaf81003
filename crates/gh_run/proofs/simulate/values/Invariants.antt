use Rattle.std.proofs.Common.{◌≡◌, map, take}
use Rattle.gh_run.proofs.simulate.values.Given as goal

abbrev pub invariant-loop-entry : goal.invariant-loop-entry
invariant-loop-entry l = l.values.items ≡ map (λ e. e.value) (take l.entry-index l.entries)
