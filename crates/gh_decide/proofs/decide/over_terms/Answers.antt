use Rattle.gh_ast.specs.Plain.{program_of}
use Rattle.gh_path.specs.Kept.{condition_of}
use Rattle.gh_path.proofs.Numbers.{one_is_scoped}
use Rattle.gh_symb.specs.Limits.{IsConditionRefusal}
use Rattle.gh_symb.specs.declared.limits.SymbolicError.TheVariants.{Limit}
use Rattle.gh_trace.proofs.FirstRefuted.{condition_one}
use Rattle.gh_decide.proofs.Parts.{never_refused}
use Rattle.gh_decide.proofs.decide.over_terms.Goals as goal

pub symbolic-requires : goal.symbolic-requires
symbolic-requires c =
    one_is_scoped (program_of c.args.typed.now) c.args.condition.now c.requires.admitted.typed c.requires.one

pub unreachable-requires : goal.unreachable-requires
unreachable-requires c =
    let P = program_of c.args.typed.now in
    let r = c.args.condition.now in
    let there = condition_one P r c.requires.one in
    let refused : IsConditionRefusal P there.procedure (condition_of r) (Limit c.in-Err-Limit.field-0-0) =
    rw c.in-Err-Limit.field-0-is at (c.in-Err-Limit.ensures.refused there.procedure there.of) in
    never_refused P there.procedure (condition_of r) c.in-Err-Limit.field-0-0 c.requires.admitted there there.of refused
