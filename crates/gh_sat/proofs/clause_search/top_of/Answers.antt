use Rattle.std.proofs.Common.{◌≡◌, ◌≤◌, ◌∙◌, ◌++◌, ◌∷◌, [], ℕ, List, Bool, Option, arith, ap, sym, subst, get_or, Some}
use Rattle.std.proofs.Common.{None, take, take_all, inl, inr, max}
use Rattle.std.specs.Prelude.{slice_get}
use Rattle.std.proofs.lemmas.Bool.{cases_lt}
use Rattle.std.proofs.lemmas.Option.{get_or_from_slice_get}
use Rattle.std.proofs.lemmas.List.{take_more}
use Rattle.std.proofs.lemmas.List.Elements.{All-push, Contains-push, Contains-append_left}
use Rattle.gh_base.specs.declared.atom.Lit.{Lit}
use Rattle.gh_base.specs.Atoms.{opposite}
use Rattle.gh_sat.specs.declared.trail.Step.{Step}
use Rattle.gh_sat.specs.Trail.{IsTrueIn, IsFalseIn, IsFree, IsTruth}
use Rattle.gh_sat.specs.Learn.{IsTop}
use Rattle.gh_sat.proofs.StatusLemmas.{nothing, not_both, not_free_opposite}
use Rattle.gh_sat.proofs.clause_search.top_of.Goals as goal

abbrev no_step : Step
no_step = record { lit = nothing; level = 0; reason = None }

top_more : (trail : List Step) (xs : List Lit) (l : Lit) (old top : ℕ) (s : IsTrueIn trail (opposite l))
    → IsTop trail xs old → top ≡ max old s.1.level → IsTop trail (xs ++ l ∷ []) top
top_more trail xs l old top s h e = record {
  all = All-push (λ l. (i : ℕ) × (x : Step) × (slice_get trail i ≡ Some x) × (x.lit ≡ opposite l) × (x.level ≤ top)) xs
      l
      (λ k d lt. let o = h.all k d lt in (o.0, o.1, o.2, o.3, omega (arith, o.4))) (s.0, s.1, s.3, s.4, omega arith);
  some = elim (cases_lt old s.1.level) [
    | inl lt ↦ inr (l, Contains-push xs l, s.0, s.1, s.3, s.4, omega arith)
    | inr ge ↦ elim h.some [
      | inl z ↦ inl (omega arith)
      | inr g ↦ inr (g.0, Contains-append_left xs (l ∷ []) g.0 g.1, g.2, g.3, g.4, g.5, omega (arith, g.6))
    ]
  ];
}

pub returns-clause-is_false : goal.returns-clause-is_false
returns-clause-is_false c =
    let whole : take c.loop-lit.lit-index c.args.clause.now ≡ c.args.clause.now =
    take_all c.loop-lit.lit-index c.args.clause.now (omega arith) in
    subst (IsFalseIn c.args.trail.now.steps) whole c.loop-lit.invariant.so_far

pub returns-in-None-clause-none : goal.returns-in-None-clause-none
returns-in-None-clause-none c =
    let l = get_or c.args.clause.now c.loop-lit.lit-index nothing in
    let free : IsFree c.args.trail.now.steps l.atom =
    subst (λ (o : Option Bool). IsTruth c.args.trail.now.steps l o) c.in-None.is c.value.ensures.value in
    λ f. not_free_opposite c.args.trail.now.steps l (f c.loop-lit.lit-index nothing c.loop-lit-test.true) free

pub returns-in-Some-true-clause-none : goal.returns-in-Some-true-clause-none
returns-in-Some-true-clause-none c =
    let l = get_or c.args.clause.now c.loop-lit.lit-index nothing in
    let is : IsTrueIn c.args.trail.now.steps l =
    subst (λ (o : Option Bool). IsTruth c.args.trail.now.steps l o)
    (c.in-Some-true.is ∙ ap Some c.in-Some-true.field-0-test) c.value.ensures.value in
    λ f. not_both c.args.trail.now l c.requires.valid is (f c.loop-lit.lit-index nothing c.loop-lit-test.true)

pub loop-lit-preserved : goal.loop-lit-preserved
loop-lit-preserved c =
    let i = c.loop-lit.invariant in
    let trail = c.args.trail.now.steps in
    let l = get_or c.args.clause.now c.loop-lit.lit-index nothing in
    let front = take c.loop-lit.lit-index c.args.clause.now in
    let s : IsTrueIn trail (opposite l) =
    subst (λ (o : Option Bool). IsTruth trail l o) (c.in-Some-false.is ∙ ap Some c.in-Some-false.field-0-test)
    c.value.ensures.value in
    let place : c.place-place.result ≡ s.0 = c.place-place.ensures s.0 s.1 s.3 (ap (λ (m : Lit). m.atom) s.4) in
    let step : get_or c.steps.result.now c.place-place.result no_step ≡ s.1 =
    ap (λ (t : List Step). get_or t c.place-place.result no_step) c.steps.ensures.steps
    ∙ ap (λ (n : ℕ). get_or trail n no_step) place ∙ get_or_from_slice_get trail s.0 s.1 no_step s.3 in
    let longer = take_more c.args.clause.now c.loop-lit.lit-index nothing c.loop-lit-test.true in
    record {
      so_far = subst (IsFalseIn trail) (sym longer)
          (All-push (λ (m : Lit). IsTrueIn trail (opposite m)) front l i.so_far s);
      top = subst (λ (xs : List Lit). IsTop trail xs c.max-top.result) (sym longer)
          (top_more trail front l c.loop-lit.top c.max-top.result s i.top
          (c.max-top.ensures ∙ ap (λ (x : Step). max c.loop-lit.top x.level) step));
    }
