use Rattle.std.proofs.Common.{◌≡◌, map, arith, ap, ◌∙◌, subst, List}
use Rattle.gh_ast.specs.declared.Occ.{Occ}
use Rattle.gh_ast.specs.Plain.{procedure_of}
use Rattle.gh_types.specs.Checks.{ParameterErrors, RepeatErrors}
use Rattle.gh_types.specs.Faults.{IsFirstOf}
use Rattle.gh_types.proofs.FirstLemmas.{first_next, first_whole, first_either}
use Rattle.gh_types.proofs.scope.Scope.in_targets.Goals as goal

pub loop-target-preserved : goal.loop-target-preserved
loop-target-preserved c =
    first_next _ c.args.targets.now c.loop-target.target-index c.target-item.result _ _ _ (omega arith) c.target-item.is
    c.earlier-first.ensures c.loop-target.invariant c.in_target.ensures

pub returns : goal.returns
returns c =
    let whole =
    first_whole (ParameterErrors (procedure_of c.args.self.now.own.now)) c.args.targets.now
    c.loop-target.target-index c.loop-target.first (omega arith) c.loop-target.invariant in
    let same : map (λ o. o.now) c.as_slice.result.now ≡ c.args.targets.now =
    ap (map (λ o. o.now)) c.as_slice.ensures.value ∙ c.in_ok-targets.ensures in
    let again =
    subst (λ (os : List Occ). IsFirstOf (RepeatErrors 10 os) c.in_ok-repeated.field-0) same
    c.in_ok-repeated.ensures in
    first_either _ _ _ _ _ c.earlier.ensures whole.says again
