use Rattle.std.proofs.Common.{◌≡◌, ◌-◌, ◌++◌, ◌∷◌, [], List, map, sym, ◌∙◌, ap, subst, arith}
use Rattle.gh_base.specs.Grounds.{Problem}
use Rattle.gh_grass.specs.Claims.{ground_formula_of}
use Rattle.gh_symb.specs.Formulas.{versions_formulas, meets_whole, steps_formulas, check_formulas}
use Rattle.gh_symb.specs.Encodings.{plain_kind}
use Rattle.gh_symb.specs.declared.over_terms.BoundAssertion.{BoundAssertion}
use Rattle.gh_symb.specs.declared.over_terms.TermStep.{TermStep}
use Rattle.gh_symb.specs.declared.over_terms.TermCheck.{TermCheck}
use Rattle.gh_reduce.specs.Growth.{stated_in}
use Rattle.gh_symb.specs.Inside.{under_of, step_of, check_of, IsUnderInside, AreStepsInside, IsCheckInside}
use Rattle.gh_symb.specs.Encoded.{plain_of}
use Rattle.gh_reduce.proofs.GrowthLemmas.{same_versions}
use Rattle.gh_reduce.proofs.InsideLemmas.{whole_within}
use Rattle.gh_reduce.proofs.RowLemmas.{claim_within, one_more, some_more}
use Rattle.gh_reduce.proofs.WalkLemmas.{ready_for, inside_stays, claims_are}
use Rattle.gh_reduce.proofs.ground.add_condition.Goals as goal

pub add_versions-requires : goal.add_versions-requires
add_versions-requires c =
    let here =
    ready_for c.args.symbolic.now c.terms-terms.result.now c.args.ground.now c.terms-terms.ensures c.requires.terms
    c.requires.versions in
    here.ready

pub add_formula-requires : goal.add_formula-requires
add_formula-requires c =
    let s = plain_of c.args.symbolic.now in
    let ks = map plain_kind c.terms-terms.result.now in
    let a = c.add_versions.new.ground in
    let at_p =
    ready_for c.args.symbolic.now c.terms-terms.result.now c.args.ground.now c.terms-terms.ensures c.requires.terms
    c.requires.versions in
    let here = inside_stays s ks _ a c.in_ok-add_versions.ensures at_p in
    let some = here.ready.some in
    let u = under_of c.start.result.now in
    let h =
    subst (λ (b : BoundAssertion). IsUnderInside a.sizes.terms a.sizes.versions (under_of b)) (sym c.start.ensures)
    here.start in
    claim_within a.sizes (meets_whole ks u) (ground_formula_of c.in_ok-start.start) c.in_ok-start.ensures
    (whole_within a.sizes ks u here.ready.terms (omega (arith, some)) h)

pub add_steps-requires : goal.add_steps-requires
add_steps-requires c =
    let b = c.add_formula.new.ground in
    let s = plain_of c.args.symbolic.now in
    let ks = map plain_kind c.terms-terms.result.now in
    let at_p =
    ready_for c.args.symbolic.now c.terms-terms.result.now c.args.ground.now c.terms-terms.ensures c.requires.terms
    c.requires.versions in
    let here =
    inside_stays s ks _ b c.in_ok-add_formula.ensures.stated
    (inside_stays s ks _ _ c.in_ok-add_versions.ensures at_p) in
    let kept : b.sizes.versions ≡ c.args.ground.now.sizes.versions =
    ap (λ (x : Problem). x.sizes.versions) c.in_ok-add_formula.ensures.stated
    ∙ ap (λ (x : Problem). x.sizes.versions) c.in_ok-add_versions.ensures in
    let few = c.requires.few in
    record {
      few = omega (arith, kept, few);
      ready = here.ready;
      some = here.some;
      inside =
          subst (λ (xs : List TermStep). AreStepsInside b.sizes.terms b.sizes.versions 0 (map step_of xs))
          (sym c.steps.ensures) here.steps;
    }

pub add_check-requires : goal.add_check-requires
add_check-requires c =
    let d = c.add_steps.new.ground in
    let s = plain_of c.args.symbolic.now in
    let ks = map plain_kind c.terms-terms.result.now in
    let at_p =
    ready_for c.args.symbolic.now c.terms-terms.result.now c.args.ground.now c.terms-terms.ensures c.requires.terms
    c.requires.versions in
    let at_b =
    inside_stays s ks _ _ c.in_ok-add_formula.ensures.stated
    (inside_stays s ks _ _ c.in_ok-add_versions.ensures at_p) in
    let here = inside_stays s ks _ d c.in_ok-add_steps.ensures at_b in
    record {
      ready = here.ready;
      some = here.some;
      inside =
          subst (λ (k : TermCheck). IsCheckInside d.sizes.terms d.sizes.versions (check_of k)) (sym c.check.ensures)
          here.check;
    }

pub returns : goal.returns
returns c =
    let s = plain_of c.args.symbolic.now in
    let ks = map plain_kind c.terms-terms.result.now in
    let p = c.args.ground.now in
    let vs = versions_formulas ks p.sizes.versions in
    let a = c.add_versions.new.ground in
    let u = under_of c.start.result.now in
    let whole = meets_whole ks u in
    let b = c.add_formula.new.ground in
    let to_b =
    one_more p a b vs whole (ground_formula_of c.in_ok-start.start) c.in_ok-add_versions.ensures
    c.in_ok-add_formula.ensures.stated c.in_ok-start.ensures in
    let d = c.add_steps.new.ground in
    let ss = map step_of c.steps.result.now in
    let to_d = some_more p b d (vs ++ whole ∷ []) (steps_formulas ks 0 ss) to_b c.in_ok-add_steps.ensures in
    let e = c.add_check.new.ground in
    let k = check_of c.check.result.now in
    let rest = check_formulas ks (d.sizes.versions - 1) k in
    let to_e = some_more p d e ((vs ++ whole ∷ []) ++ steps_formulas ks 0 ss) rest to_d c.in_ok-add_check.ensures in
    let listed : ks ≡ s.terms = ap (map plain_kind) c.terms-terms.ensures in
    let at_p = c.requires.versions in
    let at_d : d.sizes.versions ≡ s.versions =
    same_versions p d ((vs ++ whole ∷ []) ++ steps_formulas ks 0 ss) to_d ∙ at_p in
    let is =
    claims_are s ks p.sizes.versions d.sizes.versions u ss k listed at_p at_d
    (ap (λ (x : BoundAssertion). under_of x) c.start.ensures)
    (ap (λ (x : List TermStep). map step_of x) c.steps.ensures)
    (ap (λ (x : TermCheck). check_of x) c.check.ensures) in
    to_e ∙ ap (stated_in p) is
