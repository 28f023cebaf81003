-- Clauses that are pushed, one after the other.
use Rattle.std.proofs.Common.{◌≡◌, ℕ, zero, suc, ◌+◌, ◌-◌, ◌<◌, ◌≤◌, List, ◌∷◌, [], ◌++◌, length, sym, ap, ◌∙◌, arith}
use Rattle.std.proofs.Common.{append_assoc, length-append}
use Rattle.std.proofs.Math.Numerals.{add-one}
use Rattle.std.proofs.lemmas.List.{append-nil}
use Rattle.std.proofs.lemmas.Bool.{cases_eq}
use Rattle.std.proofs.Common.{inl, inr}
use Rattle.gh_base.specs.declared.atom.Lit.{Lit}
use Rattle.gh_base.specs.Grounds.{Problem}
use Rattle.gh_small.specs.Fewer.{each, begins, raises, keeps, counter_clauses}
use Rattle.gh_reduce.specs.Growth.{with_clauses}
use Rattle.gh_small.proofs.NumberLemmas.{at_begin, at_later}

pub more_twice : (p : Problem) (xs ys : List (List Lit))
    → with_clauses (with_clauses p xs) ys ≡ with_clauses p (xs ++ ys)
more_twice p xs ys =
    ap (λ (cs : List (List Lit)). let q : Problem = record { sizes = p.sizes; clauses = cs } in q)
    (append_assoc p.clauses xs ys)

pub more_none : (p : Problem) → p ≡ with_clauses p []
more_none p =
    ap (λ (cs : List (List Lit)). let q : Problem = record { sizes = p.sizes; clauses = cs } in q)
    (sym (append-nil p.clauses))

two_pushed : (p q r : Problem) (x y : List Lit) → q ≡ with_clauses p (x ∷ []) → r ≡ with_clauses q (y ∷ [])
    → r ≡ with_clauses p (x ∷ y ∷ [])
two_pushed p q r x y e f = f ∙ ap (λ (z : Problem). with_clauses z (y ∷ [])) e ∙ more_twice p (x ∷ []) (y ∷ [])

pub pushed_begin : (p q r : Problem) (x y : List Lit) (n d k t j : ℕ) → q ≡ with_clauses p (x ∷ [])
    → r ≡ with_clauses q (y ∷ []) → x ≡ begins n d k t → y ≡ keeps n d k (t - 1) 0 → 1 ≤ t → j ≡ 0
    → r ≡ with_clauses p (counter_clauses n d k t j)
pushed_begin p q r x y n d k t j e f ex ey some none =
    two_pushed p q r x y e f ∙ ap (λ (z : List Lit). with_clauses p (z ∷ y ∷ [])) ex
    ∙ ap (λ (z : List Lit). with_clauses p (begins n d k t ∷ z ∷ [])) ey
    ∙ ap (with_clauses p) (sym (at_begin n d k t some) ∙ ap (counter_clauses n d k t) (sym none))

pub pushed_later : (p q r : Problem) (x y : List Lit) (n d k t j : ℕ) → q ≡ with_clauses p (x ∷ [])
    → r ≡ with_clauses q (y ∷ []) → x ≡ raises n d k (t - 1) (j - 1) → y ≡ keeps n d k (t - 1) j → 1 ≤ t → 1 ≤ j
    → r ≡ with_clauses p (counter_clauses n d k t j)
pushed_later p q r x y n d k t j e f ex ey some one =
    two_pushed p q r x y e f ∙ ap (λ (z : List Lit). with_clauses p (z ∷ y ∷ [])) ex
    ∙ ap (λ (z : List Lit). with_clauses p (raises n d k (t - 1) (j - 1) ∷ z ∷ [])) ey
    ∙ ap (with_clauses p) (sym (at_later n d k t j some one))

-- a turn of a loop that pushes what belongs to each number
pub each_more : {A : Type 0} (n : ℕ) (f : ℕ → List A) → each (n + 1) f ≡ each n f ++ f n
each_more n f = ap (λ u. each u f) (add-one n)

pub pushed_each : (p q r : Problem) (n : ℕ) (f : ℕ → List (List Lit)) → q ≡ with_clauses p (each n f)
    → r ≡ with_clauses q (f n) → r ≡ with_clauses p (each (n + 1) f)
pushed_each p q r n f e g =
    g ∙ ap (λ (z : Problem). with_clauses z (f n)) e ∙ more_twice p (each n f) (f n)
    ∙ ap (with_clauses p) (sym (each_more n f))

-- what comes before a number fits into the whole
pub each_fits : {A : Type 0} (n : ℕ) (f : ℕ → List A) (t : ℕ) → t < n
    → length (each t f) + length (f t) ≤ length (each n f)
each_fits zero f t lt = absurd (omega arith)
each_fits (suc n) f t lt = elim (cases_eq t n) as (λ _. length (each t f) + length (f t) ≤ length (each (suc n) f)) [
  | inl e ↦ omega (arith, length-append (each n f) (f n), ap (λ u. length (each u f)) e, ap (λ u. length (f u)) e)
  | inr ne ↦ omega (arith, length-append (each n f) (f n), each_fits n f t (omega arith))
]

-- there is room for the next ones
pub each_room : (p q : Problem) (n : ℕ) (f : ℕ → List (List Lit)) (t : ℕ) → t < n
    → length p.clauses + length (each n f) ≤ 4294967294 → q ≡ with_clauses p (each t f)
    → length q.clauses + length (f t) ≤ 4294967294
each_room p q n f t lt room e =
    omega (arith, each_fits n f t lt, ap (λ (z : Problem). length z.clauses) e, length-append p.clauses (each t f))
