use Rattle.std.proofs.Common.{◌≡◌, true, inl, ap, sym, subst}
use Rattle.gh_log.specs.Tables.{line_of}
use Rattle.gh_log.specs.declared.lines.LogLine.{LogLine}
use Rattle.gh_ground.specs.Solving.{hints_of}
use Rattle.gh_ground.specs.Trimming.{KeepsOnly}
use Rattle.gh_ground.proofs.TrimLemmas.{read_mark}
use Rattle.gh_ground.proofs.trim.keep_hints.Goals as goal

pub returns-in-Hinted-clause-only : goal.returns-in-Hinted-clause-only
returns-in-Hinted-clause-only c =
    let is : c.in-Hinted.hints.now ≡ hints_of (line_of c.args.line) =
    sym (ap (λ (l : LogLine). hints_of (line_of l)) c.in-Hinted.is) in
    subst (KeepsOnly c.args.kept.now.items c.keep_all.new.kept.items c.args.place) is c.keep_all.ensures.only

pub returns-in-Hinted-clause-needed : goal.returns-in-Hinted-clause-needed
returns-in-Hinted-clause-needed c =
    inl (read_mark c.args.kept.now.items c.args.place c.index.result.now true c.requires c.index.ensures
    c.if-not-index.false)
