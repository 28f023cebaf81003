use Rattle.std.proofs.Common.{◌≡◌, ◌++◌, All, length}
use Rattle.gh_log.specs.Texts.{section_text}
use Rattle.gh_log.specs.Spelled.{IsSpelledLine}
use Rattle.gh_log.proofs.cursor.Reader.section.Given as goal

abbrev pub invariant-lines : goal.invariant-lines
invariant-lines l = record {
  front : l.fn.self.rest.now ≡ section_text l.fn.number l.lines ++ l.self.rest.now;
  spelled : All (IsSpelledLine l.version) l.lines;
}

abbrev pub decreases-lines : goal.decreases-lines
decreases-lines l = length l.self.rest.now
