use Rattle.gh_trace.proofs.Listings.{KeptOf}
use Rattle.std.proofs.Common.{drop}
use Rattle.gh_trace.proofs.stores.keeps.Given as goal

abbrev pub invariant-loop-entry : goal.invariant-loop-entry
invariant-loop-entry l =
    KeptOf l.targets l.before l.after (drop l.entry-index l.before) → KeptOf l.targets l.before l.after l.before
