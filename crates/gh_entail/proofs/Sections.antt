-- A question whose clauses have a valid section is entailed, since it is decided whether a claim holds.
use Rattle.std.proofs.Common.{inl, inr}
use Rattle.gh_assert.specs.Heaps.{Heap}
use Rattle.gh_assert.specs.Meaning.{Store}
use Rattle.gh_assert.proofs.Cells.{allocated_or}
use Rattle.gh_assert.proofs.Proper.{met_are_proper}
use Rattle.gh_assert.proofs.Decide.{Decided, meaning_decided}
use Rattle.gh_log.proofs.SectionLemmas.{refute}
use Rattle.gh_ast.specs.Questions.{Claim, leaf, denial, every, either, Claims, no_claims, claim_first}
use Rattle.gh_entail.specs.Meaning.{Holds, AllHold, SomeHolds}
use Rattle.gh_entail.specs.Formulas.{question_problem}
use Rattle.gh_entail.specs.Laws.{SectionsShowEntailment, ModelsDecide}
use Rattle.gh_entail.proofs.Improper.{failures_give_models}
use Rattle.gh_entail.proofs.Failing.{models_fail}

mutual
  pub claim_decided : (c : Claim) (s : Store) (h : Heap) → Decided (Holds c s h)
  claim_decided (leaf f) s h = elim (allocated_or h 0) [
    | inr null ↦ meaning_decided f s h null
    | inl a ↦ inr (λ m. let none = met_are_proper f s h m in let there = a.1 in absurd cc)
  ]
  claim_decided (denial c) s h = elim (claim_decided c s h) [ inl yes' ↦ inr (λ no'. no' yes') | inr no' ↦ inl no' ]
  claim_decided (every cs) s h = all_decided cs s h
  claim_decided (either cs) s h = some_decided cs s h

  all_decided : (cs : Claims) (s : Store) (h : Heap) → Decided (AllHold cs s h)
  all_decided no_claims s h = inl tt
  all_decided (claim_first c cs) s h = elim (claim_decided c s h) [
    | inr no' ↦ inr (λ u. no' u.0)
    | inl one ↦ elim (all_decided cs s h) [ inl all ↦ inl (one, all) | inr no' ↦ inr (λ u. no' u.1) ]
  ]

  some_decided : (cs : Claims) (s : Store) (h : Heap) → Decided (SomeHolds cs s h)
  some_decided no_claims s h = inr (λ u. u)
  some_decided (claim_first c cs) s h = elim (claim_decided c s h) [
    | inl one ↦ inl (inl one)
    | inr no' ↦ elim (some_decided cs s h)
        [ inl some ↦ inl (inr some) | inr none ↦ inr (λ u. elim u [ inl a ↦ no' a | inr b ↦ none b ]) ]
  ]

pub sections_show_entailment : SectionsShowEntailment
sections_show_entailment q lines valid s h left = elim (claim_decided q.right s h) [
  | inl right ↦ right
  | inr out ↦
      let found = failures_give_models q s h (record { left = left; right = out }) in
      absurd (refute (question_problem q) lines valid found.0 found.1.congruence found.1.clauses found.1.instances)
]

pub models_decide : ModelsDecide
models_decide q = (
  λ holds m I. let against = models_fail q m I in against.right (holds _ _ against.left),
  λ none s h left. elim (claim_decided q.right s h) [
    | inl right ↦ right
    | inr out ↦ let found = failures_give_models q s h (record { left = left; right = out }) in
        absurd (none found.0 found.1)
  ],
)
