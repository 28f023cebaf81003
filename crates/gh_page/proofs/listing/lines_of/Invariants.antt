use Rattle.std.proofs.Common.{◌≤◌}
use Rattle.gh_ast.specs.Plain.{program_of}
use Rattle.gh_page.specs.Listings.{AreLines}
use Rattle.gh_page.proofs.listing.lines_of.Given as goal

abbrev pub invariant-loop-place : goal.invariant-loop-place
invariant-loop-place l = record {
  lines : AreLines (program_of l.typed) l.skip l.place l.lines;
  within : l.place ≤ l.listed;
}
