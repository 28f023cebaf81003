use Rattle.std.proofs.Common.{◌≡◌, ◌+◌, Some, List, Option, sym, ap, subst}
use Rattle.gh_base.specs.declared.atom.Lit.{Lit}
use Rattle.gh_log.specs.Lines.{LogLine}
use Rattle.gh_log.specs.Sections.{line_clause}
use Rattle.gh_check.specs.Kept.{Kept, HasNext, next_line, with_line}
use Rattle.gh_check.proofs.PositionLemmas.{entries, next_marked, next_taken}
use Rattle.gh_check.proofs.positions.Positions.advance.Goals as goal

pub invariant_of-self : goal.invariant_of-self
invariant_of-self c =
    let i = c.self.inside in
    let w = subst HasNext (sym c.self.view_is) c.requires in
    next_marked i.ground.now i.lines.now i.taken i.deleted.items c.self.invariant w.line w.next w.named

pub returns : goal.returns
returns c =
    let i = c.self.inside in
    let moved : List (Option (List Lit)) → Kept =
    λ os. record { problem = i.ground.now; lines = i.lines.now; clauses = os; deleted = i.deleted.items } in
    subst (λ (k : Kept). (l : LogLine) → next_line k ≡ Some l
    → moved (entries i.ground.now i.lines.now (i.taken + 1)) ≡ with_line k (line_clause k.problem l)) c.self.view_is
    (λ l next. ap moved (next_taken i.ground.now i.lines.now i.taken i.deleted.items c.self.invariant l next))
