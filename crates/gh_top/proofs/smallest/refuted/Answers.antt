use Rattle.std.proofs.Common.{Some, sym, subst}
use Rattle.gh_ast.specs.Plain.{program_of}
use Rattle.gh_path.specs.Answers.{IsNumbered}
use Rattle.gh_path.specs.Kept.{IsOne}
use Rattle.gh_small.specs.Smallest.{IsSmallestFound, IsSmallest}
use Rattle.gh_trace.specs.Kept.{drawn_of, HasNoCounterexample}
use Rattle.gh_trace.specs.Replay.{IsDrawnCounterexample}
use Rattle.gh_trace.proofs.FirstRefuted.{kept_first, first_one, never_valid, still_first}
use Rattle.gh_top.proofs.smallest.refuted.Goals as goal

pub smallest-requires-clause-one : goal.smallest-requires-clause-one
smallest-requires-clause-one c =
    let P = program_of c.args.admitted.now in
    let found : IsNumbered P c.args.number (Some c.in-Some.condition) =
    subst (λ proc. IsNumbered (program_of proc) c.args.number (Some c.in-Some.condition))
    c.conditions-conditions.ensures
    (subst (λ o. IsNumbered (program_of c.conditions-conditions.result.now) c.args.number o) c.in-Some.is
    c.in_ok-condition.ensures) in
    subst (λ proc. IsOne (program_of proc) c.in-Some.condition) (sym c.typed-typed.ensures.same)
    (first_one P c.args.number c.requires.0 c.in-Some.condition c.requires.1 found)

pub unreachable-requires-in_default-2 : goal.unreachable-requires-in_default-2
unreachable-requires-in_default-2 c =
    let P = program_of c.args.admitted.now in
    let found : IsNumbered P c.args.number (Some c.in-Some.condition) =
    subst (λ proc. IsNumbered (program_of proc) c.args.number (Some c.in-Some.condition))
    c.conditions-conditions.ensures
    (subst (λ o. IsNumbered (program_of c.conditions-conditions.result.now) c.args.number o) c.in-Some.is
    c.in_ok-condition.ensures) in
    let valid : HasNoCounterexample P c.in-Some.condition =
    subst (λ proc. HasNoCounterexample (program_of proc) c.in-Some.condition) c.typed-typed.ensures.same
    (subst (λ o. IsSmallestFound (program_of c.typed-typed.result.now) c.in-Some.condition o) c.in_default-2.is
    c.in_ok-found.ensures) in
    never_valid P c.args.number c.requires.0 c.in-Some.condition c.requires.1 found valid

pub smallest_report-requires-clause-first : goal.smallest_report-requires-clause-first
smallest_report-requires-clause-first c =
    let P = program_of c.args.admitted.now in
    let found : IsNumbered P c.args.number (Some c.in-Some.condition) =
    subst (λ proc. IsNumbered (program_of proc) c.args.number (Some c.in-Some.condition))
    c.conditions-conditions.ensures
    (subst (λ o. IsNumbered (program_of c.conditions-conditions.result.now) c.args.number o) c.in-Some.is
    c.in_ok-condition.ensures) in
    let is : IsSmallest P c.in-Some.condition c.in-Some-2.found =
    subst (λ proc. IsSmallest (program_of proc) c.in-Some.condition c.in-Some-2.found) c.typed-typed.ensures.same
    (subst (λ o. IsSmallestFound (program_of c.typed-typed.result.now) c.in-Some.condition o) c.in-Some-2.is
    c.in_ok-found.ensures) in
    let first = c.requires.1 in
    let same = kept_first P c.args.number c.requires.0 c.in-Some.condition first found in
    let counterexample : IsDrawnCounterexample P first.condition (drawn_of c.in-Some-2.found.trace) =
    subst (λ d. IsDrawnCounterexample P d (drawn_of c.in-Some-2.found.trace)) same is.counterexample in
    still_first P c.args.number c.requires.0 c.in-Some-2.found.trace first counterexample
