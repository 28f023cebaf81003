-- Values for the terms of a question, the witnesses among them.
use Rattle.std.specs.Prelude.{◌≡◌, ℕ, zero, suc, List, [], ◌∷◌, ◌++◌, length, slice_get, Some, None, Bool, true, false}
use Rattle.std.specs.Prelude.{not}
use Rattle.std.specs.FinMap.{get}
use Rattle.std.proofs.Common.{refl}
use Rattle.gh_ast.specs.Plain.{Assertion}
use Rattle.gh_assert.specs.Heaps.{Heap}
use Rattle.gh_assert.specs.Meaning.{Store}
use Rattle.gh_path.specs.Terms.{null, next, Terms, walked, no_terms}
use Rattle.gh_model.proofs.terms.Denotation.{listed}
use Rattle.gh_model.proofs.soundness.WalkValues.{More, front_of, last_of, IsValuation, value_more, gives_more}
use Rattle.gh_model.proofs.soundness.WalkValues.{walked_valued}
use Rattle.gh_ast.specs.Questions.{Claim, leaf, denial, every, either, Claims, no_claims, claim_first, Question}
use Rattle.gh_entail.specs.Terms.{witnessed, claim_walked, claims_walked, question_walked}
use Rattle.gh_entail.proofs.Witnesses.{witnesses_exist}
use Rattle.gh_entail.proofs.Moving.{AreShown, AllShown}

-- more values, for the terms of a walk, with what they show
pub record Shown (H : ℕ → Heap) (V : List ℕ) (st : Store) (t : Terms) (Shows : List ℕ → Type 0) : Type 0 where
  pub values : List ℕ
  pub more : More V values
  pub valued : IsValuation H values st t
  pub shows : (W : List ℕ) → More values W → Shows W

leaf_valued : (h : Heap) (st : Store) → get h 0 ≡ None → (n : Bool) (f : Assertion) (V : List ℕ) (s : Terms)
    → IsValuation (λ i. h) V st s → Shown (λ i. h) V st (witnessed n (walked f s)) (λ W. AreShown n (leaf f) W st h)
leaf_valued h st proper true f V s S =
    let E = walked_valued (λ i. h) st f V s S in
    let w = witnesses_exist f st h proper in
    let W : List ℕ = E.values ++ w.0 ∷ [] in
    record {
      values = W;
      more = λ t v e. front_of E.values w.0 t v (E.more t v e);
      valued = record {
        kinds = value_more (λ i. h) E.values (walked f s).kinds w.0 E.valued.kinds;
        gives = gives_more E.values W st (walked f s).bindings (front_of E.values w.0) E.valued.gives;
      };
      shows = λ X m. w.1 X (listed X (length E.values) w.0 (m (length E.values) w.0 (last_of E.values w.0)));
    }
leaf_valued h st proper false f V s S =
    let E = walked_valued (λ i. h) st f V s S in
    record { values = E.values; more = E.more; valued = E.valued; shows = λ X m. tt }

mutual
  pub claim_valued : (h : Heap) (st : Store) → get h 0 ≡ None → (c : Claim) (n : Bool) (V : List ℕ) (s : Terms)
      → IsValuation (λ i. h) V st s → Shown (λ i. h) V st (claim_walked n c s) (λ W. AreShown n c W st h)
  claim_valued h st proper (leaf f) n V s S = leaf_valued h st proper n f V s S
  claim_valued h st proper (denial c) n V s S = claim_valued h st proper c (not n) V s S
  claim_valued h st proper (every cs) n V s S = claims_valued h st proper cs n V s S
  claim_valued h st proper (either cs) n V s S = claims_valued h st proper cs n V s S

  claims_valued : (h : Heap) (st : Store) → get h 0 ≡ None → (cs : Claims) (n : Bool) (V : List ℕ) (s : Terms)
      → IsValuation (λ i. h) V st s → Shown (λ i. h) V st (claims_walked n cs s) (λ W. AllShown n cs W st h)
  claims_valued h st proper no_claims n V s S = record { values = V; more = λ t v e. e; valued = S; shows = λ X m. tt }
  claims_valued h st proper (claim_first c cs) n V s S =
      let A = claim_valued h st proper c n V s S in
      let B = claims_valued h st proper cs n A.values (claim_walked n c s) A.valued in
      record {
        values = B.values;
        more = λ t v e. B.more t v (A.more t v e);
        valued = B.valued;
        shows = λ X m. (A.shows X (λ t v e. m t v (B.more t v e)), B.shows X m);
      }

nothing_valued : (h : Heap) (st : Store) → IsValuation (λ i. h) (0 ∷ []) st no_terms
nothing_valued h st = record {
  kinds = record { count = refl; null = refl; follows = λ t i u e. absurd (no_next t i u e) };
  gives = λ y t e. absurd cc;
}
  where
    no_next : (t i u : ℕ) → slice_get (null ∷ []) t ≡ Some (next i u) → ⊥
    no_next zero i u e = cc
    no_next (suc t) i u e = cc

-- the values of all terms, and what they show of both claims
pub record QuestionValued (q : Question) (h : Heap) (st : Store) : Type 0 where
  pub values : List ℕ
  pub valued : IsValuation (λ i. h) values st (question_walked q)
  pub left : AreShown false q.left values st h
  pub right : AreShown true q.right values st h

pub question_valued : (q : Question) (h : Heap) (st : Store) → get h 0 ≡ None → QuestionValued q h st
question_valued q h st proper =
    let A = claim_valued h st proper q.left false (0 ∷ []) no_terms (nothing_valued h st) in
    let B = claim_valued h st proper q.right true A.values (claim_walked false q.left no_terms) A.valued in
    record {
      values = B.values;
      valued = B.valued;
      left = A.shows B.values B.more;
      right = B.shows B.values (λ t v e. e);
    }
