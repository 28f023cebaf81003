-- Leaders against lists of values: pigeonholes.
use Rattle.std.proofs.Common.{◌≡◌, ◌≢◌, inl, inr, ℕ, zero, suc, ◌+◌, ◌<◌, ◌≤◌, true, cond, eqb, List, [], ◌∷◌, length}
use Rattle.std.proofs.Common.{refl, sym, ap, ◌∙◌, subst, arith, length-append}
use Rattle.std.specs.Prelude.{Any, Contains, AllPairs}
use Rattle.std.proofs.lemmas.Bool.{cases_Bool, cases_eq, eq-eqb, ne_eqb, cond-true, cond-false}
use Rattle.gh_base.specs.Meaning.{Interpretation}
use Rattle.gh_small.specs.Fewer.{each}
use Rattle.gh_small.specs.Leaders.{leads, allocated_classes}
use Rattle.gh_small.proofs.EachLemmas.{any_here, any_later, any_cases, any_none, each_any}
use Rattle.gh_small.proofs.CounterLemmas.{one_more, none_more}
use Rattle.gh_small.proofs.LeaderLemmas.{meets, leads_first}

abbrev pub Has : List ℕ → ℕ → Type 0
Has xs x = Any (λ y. y ≡ x) xs

pub has : (xs : List ℕ) (x : ℕ) → Contains xs x → Has xs x
has xs x w = (w.0, x, w.1, w.2, refl)

-- the list without one x
abbrev without : ℕ → List ℕ → List ℕ
without x [] = []
without x (y ∷ ys) = cond (eqb y x) ys (y ∷ without x ys)

shorter : (x : ℕ) (ys : List ℕ) → Has ys x → length (without x ys) + 1 ≡ length ys
shorter x [] w = any_none (λ y. y ≡ x) w
shorter x (y ∷ ys) w = elim (cases_eq y x) as (λ _. length (without x (y ∷ ys)) + 1 ≡ suc (length ys)) [
  | inl e ↦ omega (arith, ap length (cond-true (eqb y x) ys (y ∷ without x ys) (eq-eqb y x e)))
  | inr ne ↦ elim (any_cases (λ y. y ≡ x) y ys w) as (λ _. length (without x (y ∷ ys)) + 1 ≡ suc (length ys)) [
    | inl e ↦ absurd (ne e)
    | inr v ↦ omega (arith, ap length (cond-false (eqb y x) ys (y ∷ without x ys) (ne_eqb y x ne)), shorter x ys v)
  ]
]

stays : (x z : ℕ) (ys : List ℕ) → Has ys z → z ≢ x → Has (without x ys) z
stays x z [] w other = w
stays x z (y ∷ ys) w other = elim (cases_eq y x) as (λ _. Has (without x (y ∷ ys)) z) [
  | inl e ↦ subst (λ (l : List ℕ). Has l z) (sym (cond-true (eqb y x) ys (y ∷ without x ys) (eq-eqb y x e)))
      (elim (any_cases (λ y. y ≡ z) y ys w) as (λ _. Has ys z) [ inl f ↦ absurd (other (sym f ∙ e)) | inr v ↦ v ])
  | inr ne ↦ subst (λ (l : List ℕ). Has l z) (sym (cond-false (eqb y x) ys (y ∷ without x ys) (ne_eqb y x ne)))
      (elim (any_cases (λ y. y ≡ z) y ys w) as (λ _. Has (y ∷ without x ys) z) [
        | inl f ↦ any_here (λ y. y ≡ z) y (without x ys) f
        | inr v ↦ any_later (λ y. y ≡ z) y (without x ys) (stays x z ys v other)
      ])
]

-- leaders before t are of other classes
apart : (m : Interpretation) (t u : ℕ) → leads m t ≡ true → u < t → m.class u ≢ m.class t
apart m t u h lt e = absurd (cc (meets m t t u lt e, leads_first m t h))

-- there are no more leaders than values, where each one has a value and terms of one value are of one class
pub few_leaders : (m : Interpretation) (at : ℕ → ℕ) (n : ℕ) (values : List ℕ)
    → ((t u : ℕ) → t < n → u < n → at t ≡ at u → m.class t ≡ m.class u)
    → ((t : ℕ) → t < n → leads m t ≡ true → Has values (at t)) → allocated_classes m n ≤ length values
few_leaders m at zero values one h = omega arith
few_leaders m at (suc n) values one h =
    elim (cases_Bool (leads m n)) as (λ _. allocated_classes m (suc n) ≤ length values) [
      | inl on ↦
          let rest = few_leaders m at n (without (at n) values) (λ t u lt le. one t u (omega arith) (omega arith))
          (λ t lt is. stays (at n) (at t) values (h t (omega arith) is)
          (λ e. apart m n t on lt (one t n (omega arith) (omega arith) e))) in
          omega (arith, one_more (leads m) n on, shorter (at n) values (h n (omega arith) on))
      | inr off ↦
          let rest =
          few_leaders m at n values (λ t u lt le. one t u (omega arith) (omega arith))
          (λ t lt is. h t (omega arith) is) in
          omega (arith, none_more (leads m) n off)
    ]

-- the classes of the leaders
leader_class : Interpretation → ℕ → List ℕ
leader_class m t = cond (leads m t) (m.class t ∷ []) []

as_many : (m : Interpretation) (n : ℕ) → length (each n (leader_class m)) ≡ allocated_classes m n
unfolding leader_class
as_many m zero = refl
as_many m (suc n) =
    elim (cases_Bool (leads m n)) as (λ _. length (each (suc n) (leader_class m)) ≡ allocated_classes m (suc n)) [
      | inl on ↦ omega (
        arith,
        as_many m n,
        length-append (each n (leader_class m)) (leader_class m n),
        one_more (leads m) n on,
        ap length (cond-true (leads m n) (m.class n ∷ []) [] on),
      )
      | inr off ↦ omega (
        arith,
        as_many m n,
        length-append (each n (leader_class m)) (leader_class m n),
        none_more (leads m) n off,
        ap length (cond-false (leads m n) (m.class n ∷ []) [] off),
      )
    ]

listed : (m : Interpretation) (n t : ℕ) → t < n → leads m t ≡ true → Has (each n (leader_class m)) (m.class t)
unfolding leader_class
listed m n t lt is =
    each_any (λ y. y ≡ m.class t) n (leader_class m) t lt
    (subst (λ (l : List ℕ). Has l (m.class t)) (sym (cond-true (leads m t) (m.class t ∷ []) [] is))
    (any_here (λ y. y ≡ m.class t) (m.class t) [] refl))

-- values that are apart, each of which is in a list, are no more than that list has
pigeons : (xs ys : List ℕ) → AllPairs (λ a b. a ≢ b) xs → ((x : ℕ) → Contains xs x → Has ys x) → length xs ≤ length ys
pigeons [] ys apart h = omega arith
pigeons (x ∷ xs) ys apart h =
    let rest : length xs ≤ length (without x ys) =
    pigeons xs (without x ys) (λ i j d lt le. apart (suc i) (suc j) d (omega arith) (omega arith))
    (λ z w. stays x z ys (h z (suc w.0, omega (arith, w.1), w.2))
    (λ e. apart 0 (suc w.0) z (omega arith) (omega (arith, w.1)) (sym e ∙ sym w.2))) in
    omega (arith, shorter x ys (h x (0, omega arith, refl)))

pub many_leaders : (m : Interpretation) (n : ℕ) (values : List ℕ) → AllPairs (λ a b. a ≢ b) values
    → ((v : ℕ) → Contains values v → (t : ℕ) × (t < n) × (leads m t ≡ true) × (m.class t ≡ v))
    → length values ≤ allocated_classes m n
many_leaders m n values apart h =
    omega (
      arith,
      as_many m n,
      pigeons values (each n (leader_class m)) apart
          (λ v w. let t = h v w in subst (Has (each n (leader_class m))) t.3 (listed m n t.0 t.1 t.2)),
    )
