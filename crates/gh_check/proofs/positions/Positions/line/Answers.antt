use Rattle.std.proofs.Common.{◌≡◌, None, subst, arith}
use Rattle.std.specs.Prelude.{slice_index_or}
use Rattle.gh_log.specs.Tables.{line_of}
use Rattle.gh_check.specs.Kept.{Kept}
use Rattle.gh_check.specs.Clauses.{IsLineAt}
use Rattle.gh_check.proofs.PositionLemmas.{none_first, none_past, clause_here, named_here}
use Rattle.gh_check.proofs.positions.Positions.line.Goals as goal

pub returns-then-position-eq0 : goal.returns-then-position-eq0
returns-then-position-eq0 c =
    let i = c.self.inside in
    subst (λ (k : Kept). slice_index_or k.clauses c.args.position None ≡ None) c.self.view_is
    (none_first i.ground.now i.lines.now i.taken c.args.position c.if-position-eq0.true)

pub returns-then-position-taken : goal.returns-then-position-taken
returns-then-position-taken c =
    let i = c.self.inside in
    subst (λ (k : Kept). slice_index_or k.clauses c.args.position None ≡ None) c.self.view_is
    (none_past i.ground.now i.lines.now i.taken i.deleted.items c.self.invariant c.args.position (omega arith))

pub returns : goal.returns
returns c =
    let i = c.self.inside in
    let l = line_of c.line.result in
    subst (λ (k : Kept). IsLineAt k c.args.position c.line.result) c.self.view_is (record {
      named =
          named_here i.ground.now i.lines.now i.taken i.deleted.items c.self.invariant c.args.position l (omega arith)
          (omega arith) c.line.ensures;
      clause =
          clause_here i.ground.now i.lines.now i.taken i.deleted.items c.self.invariant c.args.position l (omega arith)
          (omega arith) c.line.ensures;
    })
