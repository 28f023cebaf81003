use Rattle.std.proofs.Common.{arith, refl, ◌≤◌, get_or, map}
use Rattle.std.specs.Prelude.{All}
use Rattle.gh_ast.specs.Plain.{procedure_of}
use Rattle.gh_ast.specs.Limits.{HasManyAtomsSomewhere, atom_counts}
use Rattle.gh_types.proofs.LimitLemmas.{first_there, all_more, all_whole, some_many, none_many}
use Rattle.gh_types.proofs.limits.atoms_limit.Goals as goal

pub returns-in-Some : goal.returns-in-Some
returns-in-Some c =
    let q = procedure_of c.procedure-item.result in
    record {
      kind = refl;
      procedure = q;
      number = c.in-Some.ensures.says.many;
      first =
          first_there HasManyAtomsSomewhere c.args.procedures.now c.loop-procedure.procedure-index
          c.procedure-item.result (omega arith) c.procedure-item.is
          (some_many (atom_counts q) _ c.in-Some.ensures)
          (λ j d l m. none_many (atom_counts (get_or (map procedure_of c.args.procedures.now) j d))
          (c.loop-procedure.invariant j d l) m);
      first_there = c.in-Some.ensures.says.first;
      span = refl;
      count = c.in-Some.ensures.says.count;
    }

pub loop-procedure-preserved : goal.loop-procedure-preserved
loop-procedure-preserved c =
    all_more (λ q. All (λ n. n ≤ 32) (atom_counts q)) c.args.procedures.now c.loop-procedure.procedure-index
    c.procedure-item.result (omega arith) c.procedure-item.is c.loop-procedure.invariant c.in_default.ensures.says

pub returns : goal.returns
returns c =
    all_whole (λ q. All (λ n. n ≤ 32) (atom_counts q)) c.args.procedures.now c.loop-procedure.procedure-index
    (omega arith) c.loop-procedure.invariant
