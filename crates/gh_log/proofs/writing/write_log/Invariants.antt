use Rattle.std.proofs.Common.{◌≡◌, ◌++◌}
use Rattle.gh_log.specs.Texts.{log_text}
use Rattle.gh_log.specs.Spelled.{lines_of}
use Rattle.gh_log.proofs.WritingLemmas.{left_text}
use Rattle.gh_log.proofs.writing.write_log.Given as goal

abbrev pub invariant-loop-index : goal.invariant-loop-index
invariant-loop-index l =
    l.out ++ left_text l.index l.log.sections.items ≡ log_text l.log.version (lines_of l.log.sections.items)
