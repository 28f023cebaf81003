-- The formulas of a claim are true exactly where the claim holds in the built heap.
use Rattle.std.specs.Prelude.{◌≡◌, ◌↔◌, ℕ, ◌<◌, List, length, unwrap_or, Bool, not, IsTrue}
use Rattle.std.proofs.Common.{refl, sym, ap, subst, arith}
use Rattle.gh_base.specs.Meaning.{Interpretation}
use Rattle.gh_ast.specs.declared.Occ.{Occ}
use Rattle.gh_ast.specs.Plain.{Assertion}
use Rattle.gh_ast.specs.Programs.{names}
use Rattle.gh_ast.specs.Names.{AssertionIn}
use Rattle.gh_ast.specs.Occurrences.{in_assertion}
use Rattle.gh_ast.proofs.Sites.{member_map, occurrence_of, formula_in}
use Rattle.gh_assert.specs.Meaning.{Store, Meaning}
use Rattle.gh_path.specs.Terms.{Kind, Terms, walked}
use Rattle.gh_grass.specs.Claims.{ground_formulas_of}
use Rattle.gh_grass.specs.Truth.{truth, all_true, some_true}
use Rattle.gh_symb.specs.Formulas.{variables, successor}
use Rattle.gh_model.specs.Structures.{HeapStructure, IsModelOver}
use Rattle.gh_model.specs.BuiltHeaps.{built}
use Rattle.gh_model.specs.Homomorphisms.{IsHomomorphism, HaveTerms, HasNext, AtCells, IsPreserved}
use Rattle.gh_model.specs.Representations.{AgreeOn}
use Rattle.gh_model.specs.Laws.{IsBuilt}
use Rattle.gh_model.proofs.terms.Extension.{Grows, onto}
use Rattle.gh_model.proofs.terms.Denotation.{Sound, before, formula_named}
use Rattle.gh_model.proofs.terms.Callees.{Knows}
use Rattle.gh_model.proofs.heaps.BuiltHeap.{models_are_built}
use Rattle.gh_model.proofs.heaps.Agreement.{assertions_agree}
use Rattle.gh_model.proofs.reading.Assertions.{and_is, or_is, not_is, none_is, formulas_are_preserved}
use Rattle.gh_model.proofs.soundness.Interpretation.{value_at, value_of, within_list, formula_known, cells_known}
use Rattle.gh_ast.specs.Questions.{Claim, leaf, denial, every, either, Claims, no_claims, claim_first}
use Rattle.gh_entail.specs.Meaning.{Holds, AllHold, SomeHolds}
use Rattle.gh_entail.specs.Terms.{claim_walked, claims_walked}
use Rattle.gh_entail.specs.Formulas.{leaf_formula, claim_formula, claim_formulas}
use Rattle.gh_entail.proofs.Walking.{leaf_grows, claims_grow}

-- version 0 of an interpretation says of the terms t what a model says of their values, which are those of a store and
-- its built heap
pub record Says (m : Interpretation) (K : List Kind) (V : List ℕ) (M : HeapStructure) (st : Store)
    (t : Terms) : Type 0 where
  pub count : length V ≡ length K
  pub model : IsModelOver V M
  pub homomorphism : IsHomomorphism m 0 (length K) (value_at V) V M
  pub version : t.version ≡ 0
  pub sound : Sound K V st (built V M) t

leaf_is : (m : Interpretation) (K : List Kind) (V : List ℕ) (M : HeapStructure) (st : Store) (t : Terms)
    → Says m K V M st t → (f : Assertion) (s : Terms) → Grows (walked f s) t
    → IsTrue (truth m (leaf_formula K t.bindings f)) ↔ Meaning f st (built V M)
leaf_is m K V M st t S f s g = (λ e. told.whole.0 (preserved.whole.0 e), λ w. preserved.whole.1 (told.whole.1 w))
  where
    B : IsBuilt V M
    B = models_are_built V M S.model

    terms_have : HaveTerms (variables t.bindings) (length K) (value_at V) st (names (in_assertion f))
    terms_have x c =
        let o = occurrence_of (in_assertion f) x c in
        let k : Knows (walked f s).bindings x =
        subst (λ y. Knows (walked f s).bindings y) o.2 (formula_known f s o.0 o.1) in
        let known = g.bindings x k.0 k.1 in
        let value = S.sound.bound x k.0 known in
        let is : unwrap_or (t.bindings x) 0 ≡ k.0 = ap (λ u. unwrap_or u 0) known in
        subst (λ u. (u < length K) × (value_at V u ≡ st x)) (sym is)
        (omega (arith, within_list V k.0 (st x) value, S.count), value_of V k.0 (st x) value)

    names_in : AssertionIn f (names (in_assertion f))
    names_in = formula_in f (names (in_assertion f)) (λ o c. member_map (λ (q : Occ). q.name) (in_assertion f) o c)

    cells : AtCells (HasNext (variables t.bindings) (successor K t.version) (length K) (value_at V) M) f
    cells = cells_known K V st (built V M) M (length K) f s t S.count B.represents g S.sound

    preserved : IsPreserved m 0 (length K) (value_at V) V M (variables t.bindings) (successor K 0) st f
    preserved =
        formulas_are_preserved m 0 (length K) (value_at V) V M (variables t.bindings) (successor K 0) st
        (names (in_assertion f)) f S.model S.homomorphism names_in terms_have
        (subst (λ j. AtCells (HasNext (variables t.bindings) (successor K j) (length K) (value_at V) M) f) S.version
        cells)

    told : AgreeOn V (built V M) M st f
    told = assertions_agree V (built V M) M st f B.null B.owned B.represents
        (formula_named K V st (built V M) f s (before K V st (built V M) (walked f s) t g S.sound))

mutual
  pub claim_is : (m : Interpretation) (K : List Kind) (V : List ℕ) (M : HeapStructure) (st : Store) (t : Terms)
      → Says m K V M st t → (c : Claim) (n : Bool) (s : Terms) → Grows (claim_walked n c s) t
      → IsTrue (truth m (claim_formula K t.bindings c)) ↔ Holds c st (built V M)
  claim_is m K V M st t S (leaf f) n s g = leaf_is m K V M st t S f s (leaf_grows n (walked f s) t g)
  claim_is m K V M st t S (denial c) n s g =
      not_is (truth m (claim_formula K t.bindings c)) (Holds c st (built V M)) (claim_is m K V M st t S c (not n) s g)
  claim_is m K V M st t S (every cs) n s g = all_are m K V M st t S cs n s g
  claim_is m K V M st t S (either cs) n s g = some_is m K V M st t S cs n s g

  all_are : (m : Interpretation) (K : List Kind) (V : List ℕ) (M : HeapStructure) (st : Store) (t : Terms)
      → Says m K V M st t → (cs : Claims) (n : Bool) (s : Terms) → Grows (claims_walked n cs s) t
      → IsTrue (all_true m (ground_formulas_of (claim_formulas K t.bindings cs))) ↔ AllHold cs st (built V M)
  all_are m K V M st t S no_claims n s g = (λ e. tt, λ u. refl)
  all_are m K V M st t S (claim_first c cs) n s g =
      and_is (truth m (claim_formula K t.bindings c)) (all_true m (ground_formulas_of (claim_formulas K t.bindings cs)))
      (Holds c st (built V M)) (AllHold cs st (built V M))
      (claim_is m K V M st t S c n s (onto (claims_grow cs n (claim_walked n c s)) g))
      (all_are m K V M st t S cs n (claim_walked n c s) g)

  some_is : (m : Interpretation) (K : List Kind) (V : List ℕ) (M : HeapStructure) (st : Store) (t : Terms)
      → Says m K V M st t → (cs : Claims) (n : Bool) (s : Terms) → Grows (claims_walked n cs s) t
      → IsTrue (some_true m (ground_formulas_of (claim_formulas K t.bindings cs))) ↔ SomeHolds cs st (built V M)
  some_is m K V M st t S no_claims n s g = none_is
  some_is m K V M st t S (claim_first c cs) n s g =
      or_is (truth m (claim_formula K t.bindings c)) (some_true m (ground_formulas_of (claim_formulas K t.bindings cs)))
      (Holds c st (built V M)) (SomeHolds cs st (built V M))
      (claim_is m K V M st t S c n s (onto (claims_grow cs n (claim_walked n c s)) g))
      (some_is m K V M st t S cs n (claim_walked n c s) g)
