use Rattle.std.proofs.Common.{◌≡◌, ◌++◌, take}
use Rattle.gh_lens.proofs.copies.push_occs.Given as goal

abbrev pub invariant-loop-occ : goal.invariant-loop-occ
invariant-loop-occ l = l.all.items ≡ l.initial.all.items ++ take l.occ-index l.occs
