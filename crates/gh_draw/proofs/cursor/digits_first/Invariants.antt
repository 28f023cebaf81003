use Rattle.std.proofs.Common.{◌≡◌, take}
use Rattle.std.specs.Prelude.{true}
use Rattle.std.specs.Str.{all_ascii_digits}
use Rattle.gh_draw.proofs.cursor.digits_first.Given as goal

abbrev pub invariant-loop-i : goal.invariant-loop-i
invariant-loop-i l = all_ascii_digits (take l.i l.text) ≡ true
