use Rattle.std.proofs.Common.{◌∙◌, None, sym, subst, arith}
use Rattle.std.specs.Prelude.{slice_get}
use Rattle.gh_ast.specs.Plain.{Procedure, Program, program_of}
use Rattle.gh_ast.proofs.Lists.{one_value}
use Rattle.gh_path.specs.Conditions.{Condition, IsOf}
use Rattle.gh_path.specs.Kept.{condition_of}
use Rattle.gh_path.specs.declared.condition.Condition as kept_condition
use Rattle.gh_symb.specs.Contexts.{procedure_in, program_in, IsContextOf}
use Rattle.gh_symb.specs.Limits.{HasTerms}
use Rattle.gh_symb.specs.Walked.{IsWalked, IsWalkedFar}
use Rattle.gh_symb.specs.declared.context.Context.{Context}
use Rattle.gh_symb.specs.declared.symbolic.Walked.{Walked}
use Rattle.gh_symb.proofs.CountLemmas.{holds_here}
use Rattle.gh_symb.proofs.symbolic.walk.Goals as goal

-- the context of a condition, for the program that it has
of_its_own : {P : Program} {r : kept_condition.Condition} {set : Context} → IsContextOf P r set
    → IsContextOf (program_in set) r set
of_its_own {P} {r} {set} is = subst (λ Q. IsContextOf Q r set) (sym is.program) is

pub begin-requires-clause-there : goal.begin-requires-clause-there
begin-requires-clause-there c = c.context_of-context.ensures.there.start

pub pass_all-requires-clause-of : goal.pass_all-requires-clause-of
pass_all-requires-clause-of c = of_its_own c.context_of-context.ensures

pub pass_all-requires-clause-first : goal.pass_all-requires-clause-first
pass_all-requires-clause-first c = c.in_ok-passed.ensures.version ∙ c.in_ok-walker.ensures.version

pub end-requires-clause-of : goal.end-requires-clause-of
end-requires-clause-of c = of_its_own c.context_of-context.ensures

pub end-requires-clause-room : goal.end-requires-clause-room
end-requires-clause-room c =
    omega (arith, c.in_ok-pass_all.ensures.version, c.args.condition.now.steps.ok, c.args.condition.now.steps.small)

pub end-requires-clause-passed : goal.end-requires-clause-passed
end-requires-clause-passed c = rw c.if-not-branch.false at c.in_ok-pass_all.ensures.passed

pub returns-then-not-branch : goal.returns-then-not-branch
returns-then-not-branch c =
    let P = program_of c.args.typed.now in
    let proc = procedure_in c.context_of-context.result in
    let is = c.context_of-context.ensures in
    let d = condition_of c.args.condition.now in
    let many : HasTerms (program_in c.context_of-context.result) proc d =
    rw c.if-not-branch.true at c.in_ok-pass_all.ensures.passed in
    holds_here P c.args.condition.now proc (λ P proc d. IsWalkedFar P proc d None) is.of
    (subst (λ Q. HasTerms Q proc d) is.program many)

-- a condition that is walked as one of a procedure is of no other
walked_for : (P : Program) (proc q : Procedure) (d : Condition) (w : Walked) → IsOf P d proc → IsOf P d q
    → IsWalked P proc d w → IsWalked P q d w
walked_for P proc q d w of its walked =
    subst (λ x. IsWalked P x d w) (one_value (slice_get P.procedures d.procedure) proc q of its) walked

pub returns : goal.returns
returns c = λ q its.
    let is = c.context_of-context.ensures in
    let proc = procedure_in c.context_of-context.result in
    let d = condition_of c.args.condition.now in
    walked_for (program_of c.args.typed.now) proc q d _ is.of its
    (subst (λ Q. IsWalked Q proc d c.in_ok-walked.walked) is.program c.in_ok-walked.ensures)
