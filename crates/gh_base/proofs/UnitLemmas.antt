-- Unit propagation.
use Rattle.std.proofs.Common.{◌≡◌, ◌≢◌, ◌⊎◌, inl, inr, suc, Bool, true, false, not, List, [], ◌∷◌, All, map, refl, ◌∙◌}
use Rattle.std.proofs.Common.{ap, arith, get_or}
use Rattle.std.proofs.lemmas.List.Elements.{All-contains, All-cons, All-map}
use Rattle.gh_base.specs.declared.atom.Lit.{Lit}
use Rattle.gh_base.specs.Atoms.{opposite}
use Rattle.gh_base.specs.Meaning.{Interpretation, lit_truth, under, atom_truth, IsLitTrue, IsClauseTrue}
use Rattle.gh_base.specs.Propagation.{Propagated, given, forced, IsLeast, IsSound}

pub least : IsLeast
least clauses assumed set h _ (given l there) = h.given l there
least clauses assumed set h _ (forced c l among there rest) =
    h.forced c l among there (λ m in_c ne. least clauses assumed set h (opposite m) (rest m in_c ne))

pub under_not : (positive truth : Bool) → under (not positive) truth ≡ not (under positive truth)
under_not true true = refl
under_not true false = refl
under_not false true = refl
under_not false false = refl

pub truth_of_opposite : (m : Interpretation) (l : Lit) → lit_truth m (opposite l) ≡ not (lit_truth m l)
truth_of_opposite m l = under_not l.positive (atom_truth m l.atom)

abbrev pub IsLitFalse : Interpretation → Lit → Type 0
IsLitFalse m l = lit_truth m l ≡ false

two_values : (b : Bool) → (b ≡ true) ⊎ (b ≡ false)
two_values true = inl refl
two_values false = inr refl

-- a clause has a true literal, or each is false
pub true_or_false : (m : Interpretation) (clause : List Lit) → IsClauseTrue m clause ⊎ All (IsLitFalse m) clause
true_or_false m [] = inr (λ k d h. absurd (omega arith))
true_or_false m (l ∷ ls) =
    elim (two_values (lit_truth m l)) as (λ _. IsClauseTrue m (l ∷ ls) ⊎ All (IsLitFalse m) (l ∷ ls)) [
      | inl t ↦ inl (0, l, omega arith, refl, t)
      | inr f ↦ elim (true_or_false m ls) as (λ _. IsClauseTrue m (l ∷ ls) ⊎ All (IsLitFalse m) (l ∷ ls)) [
        | inl w ↦ inl (suc w.0, w.1, omega arith, w.3, w.4)
        | inr all ↦ inr (All-cons (IsLitFalse m) l ls f all)
      ]
    ]

-- a literal that propagation gives is true where the clauses and the assumed literals are
pub units_true : (m : Interpretation) (clauses : List (List Lit)) (assumed : List Lit) → All (IsClauseTrue m) clauses
    → All (IsLitTrue m) assumed
    → (l : Lit) → Propagated clauses assumed l → IsLitTrue m l
units_true m clauses assumed all before _ (given l there) = All-contains (IsLitTrue m) assumed l before there
units_true m clauses assumed all before _ (forced c l among there rest) =
    let w = All-contains (IsClauseTrue m) clauses c all among in
    elim (two_values (lit_truth m l)) as (λ _. IsLitTrue m l) [
      | inl t ↦ t
      | inr f ↦
          let apart : w.1 ≢ l = λ e. cc (ap (lit_truth m) e) in
          let turned : lit_truth m (opposite w.1) ≡ true =
          units_true m clauses assumed all before (opposite w.1) (rest w.1 (w.0, w.2, w.3) apart) in
          absurd (cc (turned, truth_of_opposite m w.1, ap not w.4))
    ]

-- no literal is true with its opposite
apart_truths : {X : Type 0} (m : Interpretation) (l : Lit) → IsLitTrue m l → IsLitTrue m (opposite l) → X
apart_truths m l t u = absurd (cc (u, truth_of_opposite m l, ap not t))

pub sound : IsSound
sound clauses clause m all follows =
    elim (true_or_false m clause) as (λ _. IsClauseTrue m clause) [
      | inl t ↦ t
      | inr none ↦
          let before : All (IsLitTrue m) (map opposite clause) =
          All-map (IsLitTrue m) opposite clause
          (λ k d h. truth_of_opposite m (get_or clause k d) ∙ ap not (none k d h)) in
          elim follows as (λ _. IsClauseTrue m clause) [
            | inl w ↦ apart_truths m w.0 (units_true m clauses _ all before w.0 w.1)
                (units_true m clauses _ all before (opposite w.0) w.2)
            | inr w ↦
                let t = All-contains (IsClauseTrue m) clauses w.0 all w.1 in
                let u =
                All-contains (λ x. Propagated clauses (map opposite clause) (opposite x)) w.0 t.1 w.2
                (t.0, t.2, t.3) in
                apart_truths m t.1 t.4 (units_true m clauses _ all before (opposite t.1) u)
          ]
    ]
