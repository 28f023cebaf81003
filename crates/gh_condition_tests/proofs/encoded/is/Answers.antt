use Rattle.std.proofs.Common.{Some, subst, sym}
use Rattle.gh_ast.specs.declared.Program.{Program}
use Rattle.gh_ast.specs.Plain.{program_of}
use Rattle.gh_ast.specs.Rules.{IsTyped}
use Rattle.gh_path.specs.Answers.{IsNumbered}
use Rattle.gh_symb.proofs.AdmitLemmas.{numbered_is_scoped}
use Rattle.gh_condition_tests.proofs.encoded.is.Goals as goal

pub meets-requires : goal.meets-requires
meets-requires c =
    let r = c.in-Some.condition in
    let listed : IsNumbered (program_of c.in-Ok-conditions.all) c.args.number (Some r) =
    rw (c.in-Some.is) at c.in_ok-condition.ensures in
    let found =
    subst (λ (p : Program). IsNumbered (program_of p) c.args.number (Some r)) c.in-Ok-conditions.ensures.same
    listed in
    let rules = c.in-Ok-check.ensures in
    let typed = subst (λ (p : Program). IsTyped (program_of p)) (sym rules.ok) rules.rules in
    numbered_is_scoped (program_of c.in-Ok-check.typed) c.args.number r typed found
