use Rattle.std.proofs.Common.{List, subst, refl, IsTrue, ◌↔◌}
use Rattle.std.specs.Prelude.{MatchBool}
use Rattle.gh_base.specs.declared.atom.Lit.{Lit}
use Rattle.gh_base.specs.declared.sizes.Sizes.{Sizes}
use Rattle.gh_base.specs.Meaning.{IsEqualityClause}
use Rattle.gh_cc.specs.Lemma.{HasDerived}
use Rattle.gh_cc.proofs.LemmaLemmas.{derived_follows, underived_open, exact_answer}
use Rattle.gh_cc.proofs.lemma.is_lemma.Goals as goal

pub returns : goal.returns
returns c =
    let s : Sizes = record { terms = c.args.terms; versions = c.args.versions; defs = c.args.defs } in
    let lits = c.lits-lits.result.now in
    let links = c.join_negated.new.partition.links in
    let P : List Lit → Type 0 = λ ls. MatchBool c.any_derived.result (HasDerived s links ls) (HasDerived s links ls
    → ⊥) in
    let derived : P lits = subst P c.in_ok-keyed.ensures.lits c.any_derived.ensures in
    let answer : IsTrue c.any_derived.result ↔ IsEqualityClause s lits = exact_answer c.any_derived.result derived
    (λ w. derived_follows s lits c.join_negated.new.partition w.lit
    (c.if-not-are_in_range.ensures.0 refl) c.join_negated.ensures.terms c.join_negated.ensures.classes w.there
    w.derived)
    (λ none. underived_open s lits c.join_negated.new.partition c.join_negated.ensures.classes
    (λ l there derived. none (record { lit = l; there = there; derived = derived }))) in
    subst (λ (ls : List Lit). IsTrue c.any_derived.result ↔ IsEqualityClause s ls) c.lits-lits.ensures answer
