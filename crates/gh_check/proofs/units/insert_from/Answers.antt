use Rattle.std.proofs.Common.{◌∙◌, ap, take_all, arith}
use Rattle.gh_check.specs.Kept.{present}
use Rattle.gh_check.proofs.UnitsLemmas.{inserted_more}
use Rattle.gh_check.proofs.units.insert_from.Goals as goal

pub loop-position-preserved : goal.loop-position-preserved
loop-position-preserved c =
    record {
      clauses =
          inserted_more c.args.kept.now.clauses c.loop-position.position c.loop-position.search.clauses
          c.insert_at.new.search.clauses (omega arith) c.loop-position.invariant.clauses
          c.in_ok-insert_at.ensures.clauses;
      sizes = c.in_ok-insert_at.ensures.sizes ∙ c.loop-position.invariant.sizes;
      level = c.in_ok-insert_at.ensures.level;
    }

pub returns-clause-clauses : goal.returns-clause-clauses
returns-clause-clauses c =
    c.loop-position.invariant.clauses
    ∙ ap present (take_all c.loop-position.position c.args.kept.now.clauses (omega arith))
