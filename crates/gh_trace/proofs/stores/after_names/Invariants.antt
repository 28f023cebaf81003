use Rattle.std.proofs.Common.{drop}
use Rattle.gh_trace.proofs.Listings.{GoesOn}
use Rattle.gh_trace.proofs.stores.after_names.Given as goal

abbrev pub invariant-loop-occurrence : goal.invariant-loop-occurrence
invariant-loop-occurrence l = GoesOn l.entries l.occurrences l.rest (drop l.occurrence-index l.occurrences)
