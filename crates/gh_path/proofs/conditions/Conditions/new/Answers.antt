use Rattle.std.proofs.Common.{◌≡◌, ap, map, arith}
use Rattle.gh_ast.specs.Plain.{program_of}
use Rattle.gh_path.specs.Counting.{procedure_ahead, all_counts}
use Rattle.gh_path.proofs.PassedLemmas.{together, bounded}
use Rattle.gh_path.proofs.conditions.Conditions.new.Goals as goal

pub invariant_of-result : goal.invariant_of-result
invariant_of-result c =
    let P = program_of c.args.typed.now in
    let sum : all_counts c.args.aheads.now ≡ all_counts (map procedure_ahead P.procedures) =
    ap all_counts c.requires.counts in
    record {
      all = omega (
        arith,
        c.count_all-count.ensures,
        sum,
        together P 0 P.procedures c.requires.paths,
        bounded P 0 P.procedures c.requires.paths,
        c.requires.few,
      );
      paths = c.requires.paths;
      steps = c.requires.steps;
      starts_are = c.requires.starts;
    }
