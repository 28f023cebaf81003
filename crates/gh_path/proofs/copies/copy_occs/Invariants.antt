use Rattle.std.proofs.Common.{◌≡◌, take}
use Rattle.gh_path.proofs.copies.copy_occs.Given as goal

abbrev pub invariant-loop-occ : goal.invariant-loop-occ
invariant-loop-occ l = l.copies.items ≡ take l.occ-index l.occs
