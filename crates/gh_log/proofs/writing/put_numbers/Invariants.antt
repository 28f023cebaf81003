use Rattle.std.proofs.Common.{take}
use Rattle.gh_log.specs.Texts.{Adds, numbers_text}
use Rattle.gh_log.proofs.writing.put_numbers.Given as goal

abbrev pub invariant-loop-number : goal.invariant-loop-number
invariant-loop-number l = Adds l.initial.out l.out (numbers_text (take l.number-index l.numbers))
