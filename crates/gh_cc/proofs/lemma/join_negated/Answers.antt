use Rattle.std.proofs.Common.{◌≡◌, ◌+◌, ◌∙◌, sym, ap, subst, Some, take, get_or, arith}
use Rattle.std.specs.Prelude.{slice_get}
use Rattle.std.proofs.lemmas.Option.{slice_get-get_or}
use Rattle.gh_base.specs.declared.atom.Lit.{Lit}
use Rattle.gh_base.specs.declared.atom.Atom.TheVariants.{Eq}
use Rattle.gh_base.specs.Atoms.{opposite, IsInRange}
use Rattle.gh_base.specs.declared.atom.Term.{Term}
use Rattle.gh_cc.specs.Partitions.{Merged}
use Rattle.gh_cc.specs.Asserted.{equality}
use Rattle.gh_cc.specs.Lemma.{AreNegatedClasses}
use Rattle.gh_cc.proofs.TakingLemmas.{no_lit}
use Rattle.gh_cc.proofs.LemmaLemmas.{step_none, step_some}
use Rattle.gh_cc.proofs.lemma.join_negated.Goals as goal
use Rattle.gh_cc.proofs.lemma.join_negated.Goals.{in-Some, in_default}

pub loop-l-preserved : goal.loop-l-preserved
loop-l-preserved c =
    let lits = c.args.lits.now in
    let i = c.loop-l.l-index in
    let x = get_or lits i no_lit in
    let p = c.loop-l.partition in
    let at : slice_get lits i ≡ Some x = slice_get-get_or lits i no_lit (omega arith) in
    let range : IsInRange c.args.sizes x.atom = c.requires.in_range i no_lit (omega arith) in
    elim c.match-equal_terms.branch [
      | in-Some w ↦
          let a = w.in-Some.a in
          let b = w.in-Some.b in
          let is : opposite x ≡ equality a b = sym c.negated.ensures ∙ w.in-Some.ensures.some in
          let inside : IsInRange c.args.sizes (Eq a b) = subst (λ (l : Lit). IsInRange c.args.sizes l.atom) is range in
          let terms : p.terms ≡ c.args.sizes.terms = c.loop-l.invariant.terms ∙ c.requires.terms in
          let step = step_some lits i x p w.join.new.partition a b w.join.result
          c.loop-l.invariant.classes at (omega arith) is inside.0
          (omega (arith, terms, inside.0, inside.1)) (omega (arith, terms, inside.1)) w.join.ensures in
          record {
            terms = ap (λ (q : Merged). q.terms) w.partition-is ∙ step.0 ∙ c.loop-l.invariant.terms;
            classes = subst (λ (q : Merged). AreNegatedClasses lits (take (i + 1) lits) q) (sym w.partition-is) step.1;
          }
      | in_default w ↦
          let none : (a b : Term) → opposite x ≡ equality a b
          → ⊥ = λ a b e. w.in_default.ensures.none a b (c.negated.ensures ∙ e) in
          let step = step_none lits i x p c.loop-l.invariant.classes at (omega arith) none in
          record {
            terms = ap (λ (q : Merged). q.terms) w.partition-is ∙ c.loop-l.invariant.terms;
            classes = subst (λ (q : Merged). AreNegatedClasses lits (take (i + 1) lits) q) (sym w.partition-is) step;
          }
    ]
