use Rattle.std.proofs.Common.{◌∙◌, All, ap, sym, subst, map, arith}
use Rattle.gh_log.specs.Lines as line
use Rattle.gh_log.specs.Sections.{line_clause, AreOfKind}
use Rattle.gh_log.specs.Spelled.{IsOfVersion}
use Rattle.std.proofs.lemmas.List.Elements.{All-push}
use Rattle.gh_log.proofs.KindLemmas.{kind_push}
use Rattle.gh_ground.proofs.KeptLemmas.{clauses_more}
use Rattle.gh_ground.proofs.solver.ground_lines.Goals as goal

pub loop-number-preserved : goal.loop-number-preserved
loop-number-preserved c =
    let p = c.args.ground.now in
    let old = c.loop-number.lines in
    let n = c.loop-number.number in
    let is = c.in_ok-push.ensures.ok in
    record {
      clauses = ap (map (line_clause p)) is ∙ clauses_more p old n (omega arith) c.loop-number.invariant.clauses;
      of_kind =
          subst (AreOfKind p) (sym is) (kind_push p old (line.Clause n) c.loop-number.invariant.of_kind (omega arith));
      version =
          subst (All (IsOfVersion 2)) (sym is)
          (All-push (IsOfVersion 2) old (line.Clause n) c.loop-number.invariant.version tt);
    }
