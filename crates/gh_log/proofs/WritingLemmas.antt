-- Texts that are written part by part.
use Rattle.std.proofs.Common.{ℕ, ◌+◌, List, drop}
use Rattle.gh_log.specs.declared.lines.Section.{Section}
use Rattle.gh_log.specs.Texts.{sections_text}
use Rattle.gh_log.specs.Spelled.{lines_of}

-- what is still to come after the first sections
abbrev pub left_text : ℕ → List Section → List ℕ
left_text i sections = sections_text (i + 1) (lines_of (drop i sections))
