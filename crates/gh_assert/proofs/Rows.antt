-- The facts of betweenness: the distances to what is between add up.
use Rattle.std.specs.Prelude.{◌≡◌, ◌⊎◌, ℕ, ◌+◌, ◌-◌, ◌≤◌}
use Rattle.std.proofs.lemmas.Bool.{cases_lt}
use Rattle.std.proofs.Common.{refl, sym, ◌∙◌, ap, subst, inl, inr, arith}
use Rattle.gh_assert.specs.Walks.{steps, IsDistance, IsBetween, Leads}
use Rattle.gh_assert.specs.Laws.{Rows}
use Rattle.gh_assert.proofs.Steps.{steps_add, distance_zero, distance_from, distance_unique, triangle, distance_front}
use Rattle.gh_assert.proofs.Steps.{distance_rest}

-- the distances from x to y and from y to z add up to that from x to z
pub record Adds (f : ℕ → ℕ) (x y z : ℕ) : Type 0 where
  pub first : ℕ
  pub second : ℕ
  pub to : IsDistance f x y first
  pub on : IsDistance f y z second
  pub all : IsDistance f x z (first + second)

pub adds_from : {f : ℕ → ℕ} {x y z : ℕ} → IsBetween f x y z → Adds f x y z
adds_from {f = f} {x = x} {y = y} {z = z} b =
    let sums : b.at + (b.end - b.at) ≡ b.end = let w : b.at ≤ b.end = b.within in omega arith in
    record {
      first = b.at;
      second = b.end - b.at;
      to = subst (λ v. IsDistance f x v b.at) b.passes (distance_front b.distance b.at (b.end - b.at) sums);
      on = subst (λ v. IsDistance f v z (b.end - b.at)) b.passes (distance_rest b.distance b.at (b.end - b.at) sums);
      all = subst (IsDistance f x z) (sym sums) b.distance;
    }

pub between_by : {f : ℕ → ℕ} {x y z m k : ℕ} → IsDistance f x y m → IsDistance f x z k → m ≤ k → IsBetween f x y z
between_by {m = m} {k = k} d e l = record { end = k; distance = e; at = m; within = l; passes = d.arrives }

-- what leads to y is B(x,y,y)
pub between_itself : {f : ℕ → ℕ} {x y n : ℕ} → IsDistance f x y n → IsBetween f x y y
between_itself d = between_by d d (omega arith)

pub between_from : {f : ℕ → ℕ} {x y : ℕ} → Leads f x y → IsBetween f x y y
between_from {f = f} {x = x} {y = y} (n, e) = between_itself (distance_from f n x y e).1

further : {f : ℕ → ℕ} {x y z m n : ℕ} → IsDistance f x y m → IsDistance f y z n → (k : ℕ) × IsDistance f x z k
further {f = f} {x = x} {z = z} {m = m} {n = n} d e =
    distance_from f (m + n) x z (steps_add f (m + n) m n x refl ∙ ap (steps f n) d.arrives ∙ e.arrives)

closed : {f : ℕ → ℕ} {x y : ℕ} → IsBetween f x y x → x ≡ y
closed {f = f} {x = x} {y = y} b =
    let none : b.at ≡ 0 = omega (arith, b.within, distance_unique b.distance (distance_zero f x x refl)) in
    subst (λ i. steps f i x ≡ y) none b.passes

ordered : {f : ℕ → ℕ} {x y z : ℕ} → IsBetween f x y y → IsBetween f x z z → IsBetween f x y z ⊎ IsBetween f x z y
ordered a b = elim (cases_lt a.end b.end) [
  | inl l ↦ inl (between_by a.distance b.distance (omega arith))
  | inr l ↦ inr (between_by b.distance a.distance l)
]

nearer_end : {f : ℕ → ℕ} {x y u z : ℕ} → Adds f x y z → Adds f y u z → IsBetween f x y u
nearer_end p q =
    let r = further p.to q.to in
    between_by p.to r.1 (omega (arith, triangle r.1 q.on p.all, distance_unique p.on q.all))

inner : {f : ℕ → ℕ} {x y u z : ℕ} → Adds f x y z → Adds f y u z → IsBetween f x u z
inner p q =
    let r = further p.to q.to in
    between_by r.1 p.all (omega (arith, triangle p.to q.to r.1, distance_unique p.on q.all))

earlier : {f : ℕ → ℕ} {x y u z : ℕ} → Adds f x y z → Adds f x u y → IsBetween f x u z
earlier p q = between_by q.to p.all (omega (arith, distance_unique p.to q.all))

later_start : {f : ℕ → ℕ} {x y u z : ℕ} → Adds f x y z → Adds f x u y → IsBetween f u y z
later_start p q =
    let r = further q.on p.on in
    between_by q.on r.1 (omega (arith, triangle q.to r.1 p.all, distance_unique p.to q.all))

pub rows : (f : ℕ → ℕ) → Rows (IsBetween f)
rows f = record {
  row_1 = λ x. between_itself (distance_zero f x x refl);
  row_2 = λ x y. closed;
  row_3 = λ x y z. ordered;
  row_4 = λ x y z b. between_itself (adds_from b).to;
  row_5 = λ x y z b. between_itself (adds_from b).on;
  row_6 = λ x y z a b. between_itself (further a.distance b.distance).1;
  row_7 = λ x y u z a b. nearer_end (adds_from a) (adds_from b);
  row_8 = λ x y u z a b. inner (adds_from a) (adds_from b);
  row_9 = λ x y u z a b. earlier (adds_from a) (adds_from b);
  row_10 = λ x y u z a b. later_start (adds_from a) (adds_from b);
}
