use Rattle.std.proofs.Common.{◌≡◌, ◌∙◌, sym, subst, map, [], ◌∷◌}
use Rattle.std.specs.Prelude.{OnOk, IfErr}
use Rattle.std.proofs.lemmas.Result.{on_ok_weaker, MatchResult-weaker}
use Rattle.std.proofs.lemmas.List.{nil_from_length}
use Rattle.gh_ast.specs.Plain.{procedure_of, program_of}
use Rattle.gh_trace.specs.Kept.{drawn, IsFailure}
use Rattle.gh_trace.specs.Replay.{IsDrawnCounterexample}
use Rattle.gh_trace.proofs.FirstRefuted.{has_procedure, is_there}
use Rattle.gh_trace.proofs.Following.{refutes_whole, fails_whole, nothing_fails, start_fails}
use Rattle.gh_path.specs.Kept.{condition_of}
use Rattle.gh_trace.proofs.replay.replay.Goals as goal

pub unreachable-requires : goal.unreachable-requires
unreachable-requires c =
    has_procedure (program_of c.args.typed.now) c.args.condition.now c.requires.one c.in_default.ensures.none

pub begins-requires-clause-there : goal.begins-requires-clause-there
begins-requires-clause-there c =
    (is_there (program_of c.args.typed.now) (procedure_of c.in-Some.procedure.now) c.args.condition.now
    c.procedure_at.ensures.typed c.requires.one c.in-Some.ensures.some).start

pub returns-in_default-split_first-clause-failed : goal.returns-in_default-split_first-clause-failed
returns-in_default-split_first-clause-failed c =
    let P = program_of c.args.typed.now in
    let proc = procedure_of c.in-Some.procedure.now in
    let r = c.args.condition.now in
    let none : [] ≡ c.args.trace.now.states.items =
    sym (nil_from_length c.as_slice-2.result.now c.in_default-split_first.ensures.cases)
    ∙ c.as_slice-2.ensures.value in
    subst (λ zs. IsFailure P r (map drawn zs) c.failure.result) none
    (subst (IsFailure P r []) (sym c.failure.ensures) (nothing_fails P proc r c.in-Some.ensures.some))

pub returns-then-not-branch-clause-failed : goal.returns-then-not-branch-clause-failed
returns-then-not-branch-clause-failed c =
    let P = program_of c.args.typed.now in
    let proc = procedure_of c.in-Some.procedure.now in
    let r = c.args.condition.now in
    let x = c.in-Some-split_first.first.now in
    let ys = c.in-Some-split_first.others.now in
    let whole : x ∷ ys ≡ c.args.trace.now.states.items =
    sym c.in-Some-split_first.ensures.cases.0 ∙ c.as_slice-2.ensures.value in
    subst (λ zs. IsFailure P r (map drawn zs) c.failure-then-not-branch.result) whole
    (subst (IsFailure P r (drawn x ∷ map drawn ys)) (sym c.failure-then-not-branch.ensures)
    (start_fails P proc r (drawn x) (map drawn ys) c.in-Some.ensures.some
    (λ begins. (let t = c.in_ok-begins.ensures.begins.1 begins in absurd cc))))

pub returns-clause-refuted : goal.returns-clause-refuted
returns-clause-refuted c =
    let P = program_of c.args.typed.now in
    let proc = procedure_of c.in-Some.procedure.now in
    let r = c.args.condition.now in
    let x = c.in-Some-split_first.first.now in
    let ys = c.in-Some-split_first.others.now in
    let whole : x ∷ ys ≡ c.args.trace.now.states.items =
    sym c.in-Some-split_first.ensures.cases.0 ∙ c.as_slice-2.ensures.value in
    subst (λ zs. OnOk c.walk.result (IsDrawnCounterexample P (condition_of r) (map drawn zs))) whole
    (on_ok_weaker c.walk.result
    (λ after. refutes_whole P proc r (drawn x) (map drawn ys) c.in-Some.ensures.some
    (c.in_ok-begins.ensures.begins.0 c.if-not-branch.false) after) c.walk.ensures.refuted)

pub returns-clause-failed : goal.returns-clause-failed
returns-clause-failed c =
    let P = program_of c.args.typed.now in
    let proc = procedure_of c.in-Some.procedure.now in
    let r = c.args.condition.now in
    let x = c.in-Some-split_first.first.now in
    let ys = c.in-Some-split_first.others.now in
    let whole : x ∷ ys ≡ c.args.trace.now.states.items =
    sym c.in-Some-split_first.ensures.cases.0 ∙ c.as_slice-2.ensures.value in
    subst (λ zs. IfErr c.walk.result (IsFailure P r (map drawn zs))) whole
    (MatchResult-weaker c.walk.result c.walk.ensures.failed (λ u is. is)
    (λ e after. fails_whole P proc r (drawn x) (map drawn ys) e c.in-Some.ensures.some
    (c.in_ok-begins.ensures.begins.0 c.if-not-branch.false) after))
