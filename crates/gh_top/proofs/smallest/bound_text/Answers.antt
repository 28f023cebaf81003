use Rattle.std.proofs.Common.{List, [], ◌∷◌, ◌++◌, ◌∙◌, sym, ap, subst}
use Rattle.gh_log.specs.Spelled.{AreOfVersion, lines_of}
use Rattle.gh_log.specs.declared.lines.Section.{Section}
use Rattle.gh_top.proofs.DecidingLemmas.{of_version, alone_spelled}
use Rattle.gh_top.proofs.smallest.bound_text.Goals as goal

pub write_log-requires-clause-lines : goal.write_log-requires-clause-lines
write_log-requires-clause-lines c =
    let s : Section = c.in-Some.section in
    let one = c.in_ok-push-in-Some.ensures.items ∙ ap (λ xs. xs ++ s ∷ []) c.new-sections.ensures.items in
    let spelled = rw c.in-Some.is at c.requires in
    subst (λ (ss : List Section). AreOfVersion 2 (lines_of ss)) (sym one)
    (of_version (s.lines ∷ []) (alone_spelled s.lines spelled))
