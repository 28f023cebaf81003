use Rattle.gh_check.proofs.SectionLemmas.{Reads}
use Rattle.gh_check.proofs.check.check_lines.Given as goal

abbrev pub invariant-loop-place : goal.invariant-loop-place
invariant-loop-place l = Reads l.ground l.section.first l.section.lines l.place l.before l.line
