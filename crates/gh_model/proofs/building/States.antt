-- States of a structure, one after another.
use Rattle.std.specs.Prelude.{◌≡◌, ℕ, zero, suc, ◌+◌, ◌<◌, ◌≤◌, List, [], ◌∷◌, ◌++◌, length, get_or, slice_get, Some}
use Rattle.std.specs.Prelude.{None}
use Rattle.std.proofs.Common.{refl, sym, ◌∙◌, ap, subst, append_assoc, drop, arith}
use Rattle.std.proofs.lemmas.List.{append-nil}
use Rattle.gh_base.specs.Structures.{Tables}
use Rattle.gh_ast.specs.Programs.{Name}
use Rattle.gh_grass.specs.declared.binding.Bond.{Bond}
use Rattle.gh_symb.specs.declared.over_terms.TermStep.{TermStep}
use Rattle.gh_trace.specs.declared.state.State.{State}
use Rattle.gh_model.specs.KeptTraces.{state_in, states_in, after_first, past_first, AreBelow, HasAll}

-- the states so far and those that are left
pub record IsWalk (s : Tables) (xs : List Name) (ps : List TermStep) (bs : List (List Bond)) (done : List State)
    (number version : ℕ) : Type 0 where
  pub is : done ++ states_in s xs version (drop number ps) (drop number bs) ≡ states_in s xs 0 ps bs
  pub all : HasAll s version (drop number ps) (drop number bs)
  pub few : number ≤ length bs

pub starts : (s : Tables) (xs : List Name) (ps : List TermStep) (bs : List (List Bond)) → HasAll s 0 ps bs
    → IsWalk s xs ps bs [] 0 0
starts s xs ps bs A = record { is = refl; all = A; few = omega arith }

-- the first that is left
left_next : {X : Type 0} (xs : List X) (n : ℕ) (x : X) → slice_get xs n ≡ Some x
    → (drop n xs ≡ x ∷ drop (suc n) xs) × (n < length xs)
left_next [] n x e = absurd cc
left_next (y ∷ ys) zero x e = let same : y ≡ x = cc in (ap (λ z. z ∷ ys) same, omega arith)
left_next (y ∷ ys) (suc n) x e = let r = left_next ys n x e in (r.0, omega (arith, r.1))

left_some : {X : Type 0} (xs : List X) (n : ℕ) (x : X) → slice_get xs n ≡ Some x
    → (drop n xs ≡ x ∷ drop (n + 1) xs) × (n < length xs)
left_some xs n x e = let up : suc n ≡ n + 1 = omega arith in
    subst (λ k. (drop n xs ≡ x ∷ drop k xs) × (n < length xs)) up (left_next xs n x e)

left_none : {X : Type 0} (xs : List X) (n : ℕ) → slice_get xs n ≡ None → drop n xs ≡ []
left_none [] zero e = refl
left_none [] (suc n) e = refl
left_none (y ∷ ys) zero e = absurd cc
left_none (y ∷ ys) (suc n) e = left_none ys n e

past_next : (n : ℕ) (ps : List TermStep) → past_first (drop n ps) ≡ drop (suc n) ps
past_next zero [] = refl
past_next zero (p ∷ ps) = refl
past_next (suc n) [] = refl
past_next (suc n) (p ∷ ps) = past_next n ps

past_left : (n : ℕ) (ps : List TermStep) → past_first (drop n ps) ≡ drop (n + 1) ps
past_left n ps = let up : suc n ≡ n + 1 = omega arith in past_next n ps ∙ ap (λ k. drop k ps) up

pub in_bounds : (s : Tables) (xs : List Name) (ps : List TermStep) (bs : List (List Bond)) (done : List State) (n i : ℕ)
    (b : List Bond) → slice_get bs n ≡ Some b → IsWalk s xs ps bs done n i
    → (i < s.sizes.versions) × AreBelow s.sizes.terms b × (n < length bs)
in_bounds s xs ps bs done n i b e W =
    let r = left_some bs n b e in
    let A = subst (HasAll s i (drop n ps)) r.0 W.all in
    (A.0, A.1, r.1)

pub goes_on : (s : Tables) (xs : List Name) (ps : List TermStep) (bs : List (List Bond)) (done done' : List State)
    (n i j : ℕ) (b : List Bond) (x : State) → slice_get bs n ≡ Some b → x ≡ state_in s xs i b → done' ≡ done ++ x ∷ []
    → j ≡ after_first (drop n ps) i → IsWalk s xs ps bs done n i → IsWalk s xs ps bs done' (n + 1) j
goes_on s xs ps bs done done' n i j b x e at put next W =
    let r = left_some bs n b e in
    let p = past_left n ps in
    let A = subst (HasAll s i (drop n ps)) r.0 W.all in
    let k = after_first (drop n ps) i in
    record {
      is = ap (λ ds. ds ++ states_in s xs j (drop (n + 1) ps) (drop (n + 1) bs)) put
          ∙ append_assoc done (x ∷ []) (states_in s xs j (drop (n + 1) ps) (drop (n + 1) bs))
          ∙ ap (λ z. done ++ z ∷ states_in s xs j (drop (n + 1) ps) (drop (n + 1) bs)) at
          ∙ ap (λ v. done ++ state_in s xs i b ∷ states_in s xs v (drop (n + 1) ps) (drop (n + 1) bs)) next
          ∙ ap (λ qs. done ++ state_in s xs i b ∷ states_in s xs k qs (drop (n + 1) bs)) (sym p)
          ∙ ap (λ cs. done ++ states_in s xs i (drop n ps) cs) (sym r.0)
          ∙ W.is;
      all = subst (λ v. HasAll s v (drop (n + 1) ps) (drop (n + 1) bs)) (sym next)
          (subst (λ qs. HasAll s k qs (drop (n + 1) bs)) p A.2);
      few = omega (arith, r.1);
    }

pub ends_here : (s : Tables) (xs : List Name) (ps : List TermStep) (bs : List (List Bond)) (done : List State) (n i : ℕ)
    → slice_get bs n ≡ None → IsWalk s xs ps bs done n i → done ≡ states_in s xs 0 ps bs
ends_here s xs ps bs done n i e W =
    sym (append-nil done) ∙ sym (ap (λ cs. done ++ states_in s xs i (drop n ps) cs) (left_none bs n e)) ∙ W.is

-- the binding of a number that is not passed, and none past them all
pub at_number : (bs : List (List Bond)) (n : ℕ) (b : List Bond) → n < length bs → b ≡ get_or bs n b
    → slice_get bs n ≡ Some b
at_number [] n b within is = absurd (omega (arith, within))
at_number (c ∷ bs) zero b within is = ap Some (sym is)
at_number (c ∷ bs) (suc n) b within is = at_number bs n b (omega (arith, within)) is

pub past_all : (bs : List (List Bond)) (n : ℕ) → length bs ≤ n → slice_get bs n ≡ None
past_all [] n past = refl
past_all (c ∷ bs) zero past = absurd (omega (arith, past))
past_all (c ∷ bs) (suc n) past = past_all bs n (omega (arith, past))
