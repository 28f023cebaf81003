-- Clauses with one positive literal, as implications.
use Rattle.std.proofs.Common.{◌≡◌, inl, inr, Bool, true, false, not, List, [], ◌∷◌, ap}
use Rattle.std.proofs.lemmas.Bool.{cases_Bool}
use Rattle.gh_base.specs.declared.atom.Atom.{Atom}
use Rattle.gh_base.specs.declared.atom.Lit.{Lit}
use Rattle.gh_base.specs.Meaning.{Interpretation, atom_truth, IsLitTrue, IsClauseTrue}
use Rattle.gh_base.specs.Atoms.{positive, negative}
use Rattle.gh_small.proofs.EachLemmas.{any_here, any_later, any_cases, any_none}

abbrev pub Holds : Interpretation → Atom → Type 0
Holds m a = atom_truth m a ≡ true

both : {X : Type 0} (b : Bool) → b ≡ true → not b ≡ true → X
both true e f = absurd (cc)
both false e f = absurd (cc)

-- a literal that is false is passed over
pub next_lit : (m : Interpretation) (b : Atom) (ls : List Lit) → Holds m b → IsClauseTrue m (negative b ∷ ls)
    → IsClauseTrue m ls
next_lit m b ls t w =
    elim (any_cases (IsLitTrue m) (negative b) ls w) as (λ _. IsClauseTrue m ls)
    [ inl f ↦ both (atom_truth m b) t f | inr v ↦ v ]

pub two_give : (m : Interpretation) (a b : Atom) → IsClauseTrue m (positive a ∷ negative b ∷ []) → Holds m b → Holds m a
two_give m a b w t =
    elim (any_cases (IsLitTrue m) (positive a) (negative b ∷ []) w) as (λ _. Holds m a)
    [ inl p ↦ p | inr v ↦ any_none (IsLitTrue m) (next_lit m b [] t v) ]

pub three_give : (m : Interpretation) (a b c : Atom) → IsClauseTrue m (positive a ∷ negative b ∷ negative c ∷ [])
    → Holds m b → Holds m c → Holds m a
three_give m a b c w t u =
    elim (any_cases (IsLitTrue m) (positive a) (negative b ∷ negative c ∷ []) w) as (λ _. Holds m a) [
      | inl p ↦ p
      | inr v ↦ any_none (IsLitTrue m) (next_lit m c [] u (next_lit m b (negative c ∷ []) t v))
    ]

-- a clause whose negative literal is a premise of the rest
pub premise : (m : Interpretation) (b : Atom) (ls : List Lit) → (Holds m b → IsClauseTrue m ls)
    → IsClauseTrue m (negative b ∷ ls)
premise m b ls f = elim (cases_Bool (atom_truth m b)) as (λ _. IsClauseTrue m (negative b ∷ ls)) [
  | inl t ↦ any_later (IsLitTrue m) (negative b) ls (f t)
  | inr off ↦ any_here (IsLitTrue m) (negative b) ls (ap not off)
]

-- the positive literal holds, or the rest of the clause does
pub unless : (m : Interpretation) (a : Atom) (ls : List Lit) → ((Holds m a → ⊥) → IsClauseTrue m ls)
    → IsClauseTrue m (positive a ∷ ls)
unless m a ls f = elim (cases_Bool (atom_truth m a)) as (λ _. IsClauseTrue m (positive a ∷ ls)) [
  | inl t ↦ any_here (IsLitTrue m) (positive a) ls t
  | inr off ↦ any_later (IsLitTrue m) (positive a) ls (f (λ t. absurd (cc)))
]

pub two : (m : Interpretation) (a b : Atom) → (Holds m b → Holds m a) → IsClauseTrue m (positive a ∷ negative b ∷ [])
two m a b f = unless m a (negative b ∷ []) (λ off. premise m b [] (λ t. absurd (off (f t))))

pub three : (m : Interpretation) (a b c : Atom) → (Holds m b → Holds m c → Holds m a)
    → IsClauseTrue m (positive a ∷ negative b ∷ negative c ∷ [])
three m a b c f =
    unless m a (negative b ∷ negative c ∷ [])
    (λ off. premise m b (negative c ∷ []) (λ t. premise m c [] (λ u. absurd (off (f t u)))))
