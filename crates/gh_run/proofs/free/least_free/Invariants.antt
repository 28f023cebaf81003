use Rattle.std.proofs.Common.{◌-◌}
use Rattle.gh_run.proofs.Gaps.{GapWithin}
use Rattle.gh_run.proofs.free.least_free.Given as goal

abbrev pub invariant-search : goal.invariant-search
invariant-search l = GapWithin l.cells l.low l.high

abbrev pub decreases-search : goal.decreases-search
decreases-search l = l.high - l.low
