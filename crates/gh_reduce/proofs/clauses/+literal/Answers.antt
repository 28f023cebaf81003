use Rattle.std.proofs.Common.{◌≡◌, ◌+◌, List, arith, sym, refl, ◌∙◌, ap, subst, drop}
use Rattle.gh_base.specs.declared.atom.Lit.{Lit}
use Rattle.gh_grass.specs.Claims.{GroundFormula, ground_formula_of, ground_formulas_view, negation_of, conjunction_of}
use Rattle.gh_grass.specs.Claims.{disjunction_of, equivalence_of}
use Rattle.gh_grass.specs.Clauses.{made, all_made}
use Rattle.gh_reduce.specs.Growth.{all_defined_in, IsWithin}
use Rattle.gh_reduce.proofs.GrownLemmas.{grown_then, grown_is, after_error}
use Rattle.gh_reduce.proofs.GrowthLemmas.{Going, goes_on, goes_at}
use Rattle.gh_reduce.proofs.LiteralLemmas.{size, member_smaller, says_not, says_all, says_any, says_both, claims_from}
use Rattle.gh_reduce.proofs.LiteralLemmas.{literals_in_range, literal_in_range, other_within, literal_stays}
use Rattle.gh_reduce.proofs.LiteralLemmas.{conjunction_defined, disjunction_defined, equivalence_defined}
use Rattle.gh_reduce.proofs.clauses.+literal.Goals as goal

pub literal-literal-requires : goal.literal-literal-requires
literal-literal-requires t c =
    let p = c.args.ground.now in
    let a = c.deref.result.now in
    let form : ground_formula_of c.args.formula.now ≡ negation_of (ground_formula_of a) =
    says_not c.args.formula.now a c.in-Not.inner c.in-Not.is c.deref.ensures in
    let less = ap size form in
    (omega (arith, less), subst (λ (f : GroundFormula). IsWithin p.sizes f) form c.requires)

pub literal-literals-requires : goal.literal-literals-requires
literal-literals-requires t c =
    let p = c.args.ground.now in
    let fs = ground_formulas_view c.as_slice.result.now in
    let form : ground_formula_of c.args.formula.now ≡ conjunction_of fs =
    says_all c.args.formula.now c.as_slice.result.now c.in-And.members c.in-And.is c.as_slice.ensures.value in
    let less = ap size form in
    (omega (arith, less), subst (λ (f : GroundFormula). IsWithin p.sizes f) form c.requires)

pub literal-literals-requires-in-Or : goal.literal-literals-requires-in-Or
literal-literals-requires-in-Or t c =
    let p = c.args.ground.now in
    let fs = ground_formulas_view c.as_slice-in-Or.result.now in
    let form : ground_formula_of c.args.formula.now ≡ disjunction_of fs =
    says_any c.args.formula.now c.as_slice-in-Or.result.now c.in-Or.members c.in-Or.is c.as_slice-in-Or.ensures.value in
    let less = ap size form in
    (omega (arith, less), subst (λ (f : GroundFormula). IsWithin p.sizes f) form c.requires)

pub literal-literal-requires-in-Iff : goal.literal-literal-requires-in-Iff
literal-literal-requires-in-Iff t c =
    let p = c.args.ground.now in
    let a = c.deref-in-Iff.result.now in
    let form : ground_formula_of c.args.formula.now
    ≡ equivalence_of (ground_formula_of a) (ground_formula_of c.in-Iff.right.value) =
    says_both c.args.formula.now a c.in-Iff.right.value c.in-Iff.left c.in-Iff.right c.in-Iff.is c.deref-in-Iff.ensures
    refl in
    let less = ap size form in
    (omega (arith, less), (subst (λ (f : GroundFormula). IsWithin p.sizes f) form c.requires).0)

pub literals-literal-requires : goal.literals-literal-requires
literals-literal-requires t c =
    let fs = c.args.formulas.now in
    let i = c.loop-formula.formula-index in
    let less = member_smaller fs i c.formula-item.result c.loop-formula-test.true c.formula-item.is in (
      omega (arith, less),
      goes_at c.loop-formula.ground c.loop-formula.lits.items (ground_formulas_view (drop i fs))
          (ground_formulas_view (drop (i + 1) fs)) (ground_formula_of c.formula-item.result)
          (all_defined_in c.args.ground.now (ground_formulas_view fs))
          ((all_made (ground_formulas_view fs) c.args.ground.now.sizes.defs).lits)
          c.loop-formula.invariant.0
          (claims_from fs i c.formula-item.result c.loop-formula-test.true c.formula-item.is),
    )

pub literal-conjunction-requires : goal.literal-conjunction-requires
literal-conjunction-requires t c =
    let p = c.args.ground.now in
    let fs = ground_formulas_view c.as_slice.result.now in
    let form : ground_formula_of c.args.formula.now ≡ conjunction_of fs =
    says_all c.args.formula.now c.as_slice.result.now c.in-And.members c.in-And.is c.as_slice.ensures.value in
    literals_in_range p c.literals.new.ground fs c.as_slice-in-And.result.now
    (subst (λ (f : GroundFormula). IsWithin p.sizes f) form c.requires)
    (c.as_slice-in-And.ensures.value ∙ c.in_ok-lits-in-And.ensures.literals) c.in_ok-lits-in-And.ensures.state

pub literal-disjunction-requires : goal.literal-disjunction-requires
literal-disjunction-requires t c =
    let p = c.args.ground.now in
    let fs = ground_formulas_view c.as_slice-in-Or.result.now in
    let form : ground_formula_of c.args.formula.now ≡ disjunction_of fs =
    says_any c.args.formula.now c.as_slice-in-Or.result.now c.in-Or.members c.in-Or.is c.as_slice-in-Or.ensures.value in
    literals_in_range p c.literals-in-Or.new.ground fs c.as_slice-in-Or-2.result.now
    (subst (λ (f : GroundFormula). IsWithin p.sizes f) form c.requires)
    (c.as_slice-in-Or-2.ensures.value ∙ c.in_ok-lits-in-Or.ensures.literals) c.in_ok-lits-in-Or.ensures.state

pub literal-literal-requires-in-Iff-2 : goal.literal-literal-requires-in-Iff-2
literal-literal-requires-in-Iff-2 t c =
    let p = c.args.ground.now in
    let a = c.deref-in-Iff.result.now in
    let b = c.deref-in-Iff-2.result.now in
    let form : ground_formula_of c.args.formula.now ≡ equivalence_of (ground_formula_of a) (ground_formula_of b) =
    says_both c.args.formula.now a b c.in-Iff.left c.in-Iff.right c.in-Iff.is c.deref-in-Iff.ensures
    c.deref-in-Iff-2.ensures in
    let both = subst (λ (f : GroundFormula). IsWithin p.sizes f) form c.requires in
    let less = ap size form in (
      omega (arith, less),
      other_within p c.literal-in-Iff.new.ground (ground_formula_of a) (ground_formula_of b) both.1
          c.in_ok-left-in-Iff.ensures.state,
    )

pub literal-equivalence-requires-clause-left : goal.literal-equivalence-requires-clause-left
literal-equivalence-requires-clause-left t c =
    let p = c.args.ground.now in
    let a = c.deref-in-Iff.result.now in
    let b = c.deref-in-Iff-2.result.now in
    let form : ground_formula_of c.args.formula.now ≡ equivalence_of (ground_formula_of a) (ground_formula_of b) =
    says_both c.args.formula.now a b c.in-Iff.left c.in-Iff.right c.in-Iff.is c.deref-in-Iff.ensures
    c.deref-in-Iff-2.ensures in
    let both = subst (λ (f : GroundFormula). IsWithin p.sizes f) form c.requires in
    literal_stays p c.literal-in-Iff.new.ground c.literal-in-Iff-2.new.ground (ground_formula_of a)
    (ground_formula_of b) c.in_ok-left-in-Iff.left both.0
    c.in_ok-left-in-Iff.ensures.literal c.in_ok-left-in-Iff.ensures.state c.in_ok-right-in-Iff.ensures.state

pub literal-equivalence-requires-clause-right : goal.literal-equivalence-requires-clause-right
literal-equivalence-requires-clause-right t c =
    let p = c.args.ground.now in
    let a = c.deref-in-Iff.result.now in
    let b = c.deref-in-Iff-2.result.now in
    let form : ground_formula_of c.args.formula.now ≡ equivalence_of (ground_formula_of a) (ground_formula_of b) =
    says_both c.args.formula.now a b c.in-Iff.left c.in-Iff.right c.in-Iff.is c.deref-in-Iff.ensures
    c.deref-in-Iff-2.ensures in
    let both = subst (λ (f : GroundFormula). IsWithin p.sizes f) form c.requires in
    literal_in_range c.literal-in-Iff.new.ground c.literal-in-Iff-2.new.ground (ground_formula_of b)
    c.in_ok-right-in-Iff.right
    (other_within p c.literal-in-Iff.new.ground (ground_formula_of a) (ground_formula_of b) both.1
    c.in_ok-left-in-Iff.ensures.state)
    c.in_ok-right-in-Iff.ensures.literal c.in_ok-right-in-Iff.ensures.state

pub literal-returns-in_ok-conjunction-in-And-clause-state :
    goal.literal-returns-in_ok-conjunction-in-And-clause-state
literal-returns-in_ok-conjunction-in-And-clause-state t c =
    let fs = ground_formulas_view c.as_slice.result.now in
    conjunction_defined c.args.ground.now c.literals.new.ground c.conjunction.new.ground
    (ground_formula_of c.args.formula.now) fs c.as_slice-in-And.result.now
    (says_all c.args.formula.now c.as_slice.result.now c.in-And.members c.in-And.is c.as_slice.ensures.value)
    (c.as_slice-in-And.ensures.value ∙ c.in_ok-lits-in-And.ensures.literals) c.in_ok-lits-in-And.ensures.state
    c.in_ok-conjunction-in-And.ensures.state

pub literal-returns-in_ok-disjunction-in-Or-clause-state :
    goal.literal-returns-in_ok-disjunction-in-Or-clause-state
literal-returns-in_ok-disjunction-in-Or-clause-state t c =
    let fs = ground_formulas_view c.as_slice-in-Or.result.now in
    disjunction_defined c.args.ground.now c.literals-in-Or.new.ground c.disjunction.new.ground
    (ground_formula_of c.args.formula.now) fs c.as_slice-in-Or-2.result.now
    (says_any c.args.formula.now c.as_slice-in-Or.result.now c.in-Or.members c.in-Or.is c.as_slice-in-Or.ensures.value)
    (c.as_slice-in-Or-2.ensures.value ∙ c.in_ok-lits-in-Or.ensures.literals) c.in_ok-lits-in-Or.ensures.state
    c.in_ok-disjunction-in-Or.ensures.state

pub literal-returns-in_ok-equivalence-in-Iff-clause-state :
    goal.literal-returns-in_ok-equivalence-in-Iff-clause-state
literal-returns-in_ok-equivalence-in-Iff-clause-state t c =
    let a = c.deref-in-Iff.result.now in
    let b = c.deref-in-Iff-2.result.now in
    equivalence_defined c.args.ground.now c.literal-in-Iff.new.ground c.literal-in-Iff-2.new.ground
    c.equivalence.new.ground (ground_formula_of c.args.formula.now) (ground_formula_of a) (ground_formula_of b)
    c.in_ok-left-in-Iff.left c.in_ok-right-in-Iff.right
    (says_both c.args.formula.now a b c.in-Iff.left c.in-Iff.right c.in-Iff.is c.deref-in-Iff.ensures
    c.deref-in-Iff-2.ensures)
    c.in_ok-left-in-Iff.ensures.literal c.in_ok-left-in-Iff.ensures.state c.in_ok-right-in-Iff.ensures.literal
    c.in_ok-right-in-Iff.ensures.state c.in_ok-equivalence-in-Iff.ensures.state

pub literals-loop-formula-preserved : goal.literals-loop-formula-preserved
literals-loop-formula-preserved t c =
    let fs = c.args.formulas.now in
    let i = c.loop-formula.formula-index in
    let total = all_defined_in c.args.ground.now (ground_formulas_view fs) in
    let all = (all_made (ground_formulas_view fs) c.args.ground.now.sizes.defs).lits in
    let p = c.loop-formula.ground in
    let made_here = made (ground_formula_of c.formula-item.result) p.sizes.defs in (
      subst (λ (ls : List Lit). Going c.literal.new.ground ls (ground_formulas_view (drop (i + 1) fs)) total all)
          (sym c.in_ok-push.ensures.items)
          (goes_on c.loop-formula.ground c.literal.new.ground c.loop-formula.lits.items (ground_formulas_view (drop i fs))
          (ground_formulas_view (drop (i + 1) fs)) (ground_formula_of c.formula-item.result) c.in_ok-literal.field-0 total
          all
          c.loop-formula.invariant.0 (claims_from fs i c.formula-item.result c.loop-formula-test.true c.formula-item.is)
          c.in_ok-literal.ensures.literal c.in_ok-literal.ensures.state),
      grown_then c.args.ground.now p c.literal.new.ground c.loop-formula.invariant.1
          (grown_is p c.literal.new.ground made_here.next made_here.clauses c.in_ok-literal.ensures.state),
    )

pub literals-returns-in_err-push-clause-grown : goal.literals-returns-in_err-push-clause-grown
literals-returns-in_err-push-clause-grown t c =
    let p = c.loop-formula.ground in
    let made_here = made (ground_formula_of c.formula-item.result) p.sizes.defs in
    after_error c.from_residual-in_err-push.result
    (grown_then c.args.ground.now p c.literal.new.ground c.loop-formula.invariant.1
    (grown_is p c.literal.new.ground made_here.next made_here.clauses c.in_ok-literal.ensures.state))
