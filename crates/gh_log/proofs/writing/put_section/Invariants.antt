use Rattle.std.proofs.Common.{take}
use Rattle.std.specs.List.{flat_map}
use Rattle.gh_log.specs.Texts.{Adds, line_text}
use Rattle.gh_log.proofs.writing.put_section.Given as goal

abbrev pub invariant-loop-place : goal.invariant-loop-place
invariant-loop-place l = Adds l.initial.out l.out (flat_map line_text (take l.place l.section.lines))
