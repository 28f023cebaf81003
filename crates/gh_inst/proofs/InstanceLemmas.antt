-- The instance at each place.
use Rattle.std.proofs.Common.{◌≡◌, ℕ, zero, suc, ◌+◌, ◌-◌, ◌*◌, ◌/◌, ◌%◌, ◌^◌, ◌<◌, ◌≤◌, List, [], ◌∷◌, map, length}
use Rattle.std.proofs.Common.{Some, None, option_map, refl, sym, ap, subst, ◌∙◌, arith, length-append, zero-add, drop}
use Rattle.std.proofs.Common.{get_or}
use Rattle.std.specs.Prelude.{slice_get, All}
use Rattle.std.specs.List.{flat_map, range_with_len}
use Rattle.std.proofs.Math.Nat.{mod-lt, mul-le-mul}
use Rattle.std.proofs.lemmas.Nat.{div-add-mod'}
use Rattle.std.proofs.lemmas.List.{length-map, get_or_default}
use Rattle.gh_inst.specs.Table.{AxiomRow, row, table, row_with}
use Rattle.gh_inst.specs.Tuples.{tuples}
use Rattle.gh_inst.specs.Instances.{name_of, row_instances, instances}
use Rattle.gh_inst.proofs.TupleLemmas.{get_left, get_right, blocks_length, block_at, range_length, range_at}
use Rattle.gh_inst.proofs.TupleLemmas.{tuples_length, positive, quotient_below, pow_small}

-- a row stands at its number
pub record IsRowAt (k : ℕ) (r : AxiomRow) : Type 0 where
  pub drops : drop k table ≡ r ∷ drop (k + 1) table
  pub found : row_with (k + 1) table ≡ Some r
  pub number : r.number ≡ k + 1
  pub some : 1 ≤ r.variables
  pub few : r.variables ≤ 4

abbrev pub row_at : ℕ → AxiomRow
row_at k = get_or table k (row 0 1 [])

pub row_there : (k : ℕ) → k < 15 → IsRowAt k (row_at k)
row_there zero h = record { drops = refl; found = refl; number = refl; some = omega arith; few = omega arith }
row_there (suc zero) h = record { drops = refl; found = refl; number = refl; some = omega arith; few = omega arith }
row_there (suc (suc zero)) h =
    record { drops = refl; found = refl; number = refl; some = omega arith; few = omega arith }
row_there (suc (suc (suc zero))) h =
    record { drops = refl; found = refl; number = refl; some = omega arith; few = omega arith }
row_there (suc (suc (suc (suc zero)))) h =
    record { drops = refl; found = refl; number = refl; some = omega arith; few = omega arith }
row_there (suc (suc (suc (suc (suc zero))))) h =
    record { drops = refl; found = refl; number = refl; some = omega arith; few = omega arith }
row_there (suc (suc (suc (suc (suc (suc zero)))))) h =
    record { drops = refl; found = refl; number = refl; some = omega arith; few = omega arith }
row_there (suc (suc (suc (suc (suc (suc (suc zero))))))) h =
    record { drops = refl; found = refl; number = refl; some = omega arith; few = omega arith }
row_there (suc (suc (suc (suc (suc (suc (suc (suc zero)))))))) h =
    record { drops = refl; found = refl; number = refl; some = omega arith; few = omega arith }
row_there (suc (suc (suc (suc (suc (suc (suc (suc (suc zero))))))))) h =
    record { drops = refl; found = refl; number = refl; some = omega arith; few = omega arith }
row_there (suc (suc (suc (suc (suc (suc (suc (suc (suc (suc zero)))))))))) h =
    record { drops = refl; found = refl; number = refl; some = omega arith; few = omega arith }
row_there (suc (suc (suc (suc (suc (suc (suc (suc (suc (suc (suc zero))))))))))) h =
    record { drops = refl; found = refl; number = refl; some = omega arith; few = omega arith }
row_there (suc (suc (suc (suc (suc (suc (suc (suc (suc (suc (suc (suc zero)))))))))))) h =
    record { drops = refl; found = refl; number = refl; some = omega arith; few = omega arith }
row_there (suc (suc (suc (suc (suc (suc (suc (suc (suc (suc (suc (suc (suc zero))))))))))))) h =
    record { drops = refl; found = refl; number = refl; some = omega arith; few = omega arith }
row_there (suc (suc (suc (suc (suc (suc (suc (suc (suc (suc (suc (suc (suc (suc zero)))))))))))))) h =
    record { drops = refl; found = refl; number = refl; some = omega arith; few = omega arith }
row_there (suc (suc (suc (suc (suc (suc (suc (suc (suc (suc (suc (suc (suc (suc (suc k))))))))))))))) h =
    absurd (omega arith)

one_version : (n : ℕ) (r : AxiomRow) (version : ℕ)
    → length (map (name_of r.number version) (tuples r.variables n)) ≡ n ^ r.variables
one_version n r version = length-map (tuples r.variables n) (name_of r.number version) ∙ tuples_length r.variables n

pub row_length : (n versions : ℕ) (r : AxiomRow) → length (row_instances n versions r) ≡ versions * n ^ r.variables
row_length n versions r =
    blocks_length (λ version. map (name_of r.number version) (tuples r.variables n)) (n ^ r.variables) (one_version n r)
    (range_with_len 0 versions)
    ∙ ap (λ k. k * n ^ r.variables) (range_length 0 versions)

-- the instance of a row at a place: by its version, then by its tuple
pub row_place : (n versions : ℕ) (r : AxiomRow) (count place : ℕ) → count ≡ n ^ r.variables → place < versions * count
    → slice_get (row_instances n versions r) place
    ≡ slice_get (map (name_of r.number (place / count)) (tuples r.variables n)) (place % count)
row_place n versions r count place e h =
    let some : 0 < count = positive place count versions (omega (arith, h)) in
    let below = quotient_below place count versions (omega (arith, h)) in
    block_at (λ version. map (name_of r.number version) (tuples r.variables n)) count
    (λ version. one_version n r version ∙ sym e) (range_with_len 0 versions)
    (place / count) (place % count) place (place / count) (sym (div-add-mod' place count)) (mod-lt place some)
    (range_at 0 versions (place / count) below ∙ ap Some (zero-add (place / count)))

pub version_below : (place count versions : ℕ) → place < versions * count
    → (place / count < versions) × (place % count < count) × (0 < count)
version_below place count versions h =
    let some : 0 < count = positive place count versions (omega (arith, h)) in
    (quotient_below place count versions (omega (arith, h)), mod-lt place some, some)

-- the row of one turn of the walk over the table
pub record IsTurn (number variables : ℕ) (r : AxiomRow) : Type 0 where
  pub drops : drop (number - 1) table ≡ r ∷ drop number table
  pub number_is : r.number ≡ number
  pub variables_are : r.variables ≡ variables
  pub some : 1 ≤ variables
  pub few : variables ≤ 4

pub some_same : {X : Type 0} (a b : X) → Some a ≡ Some b → a ≡ b
some_same a b e = cc

pub turn : (number variables : ℕ) → 1 ≤ number → number < 16
    → Some variables ≡ option_map (λ r. r.variables) (row_with number table)
    → (r : AxiomRow) × IsTurn number variables r
turn number variables a b e =
    let k = number - 1 in
    let one_more : k + 1 ≡ number = omega arith in
    let t = row_there k (omega arith) in
    let r = row_at k in
    let found : row_with number table ≡ Some r = subst (λ j. row_with j table ≡ Some r) one_more t.found in
    let drops : drop k table ≡ r ∷ drop number table = subst (λ j. drop k table ≡ r ∷ drop j table) one_more t.drops in
    let same : r.variables ≡ variables =
    some_same r.variables variables (sym (e ∙ ap (option_map (λ r. r.variables)) found)) in
    let some = t.some in
    let few = t.few in (
      r,
      record {
        drops = drops;
        number_is = t.number ∙ one_more;
        variables_are = same;
        some = omega (arith, some, same);
        few = omega (arith, few, same);
      },
    )

-- what is at a place within the row, and past it
pub within_row : (n versions number variables count rest : ℕ) (r : AxiomRow) → IsTurn number variables r
    → count ≡ n ^ variables → rest < versions * count
    → slice_get (flat_map (row_instances n versions) (drop (number - 1) table)) rest
    ≡ slice_get (row_instances n versions r) rest
within_row n versions number variables count rest r t e h =
    let size : length (row_instances n versions r) ≡ versions * count =
    row_length n versions r ∙ ap (λ v. versions * n ^ v) t.variables_are ∙ ap (λ c. versions * c) (sym e) in
    ap (λ rs. slice_get (flat_map (row_instances n versions) rs) rest) t.drops
    ∙ get_left (row_instances n versions r) (flat_map (row_instances n versions) (drop number table)) rest
    (omega (arith, size, h))

pub past_row : (n versions number variables count rest : ℕ) (r : AxiomRow) → IsTurn number variables r
    → count ≡ n ^ variables → versions * count ≤ rest
    → slice_get (flat_map (row_instances n versions) (drop (number - 1) table)) rest
    ≡ slice_get (flat_map (row_instances n versions) (drop number table)) (rest - versions * count)
past_row n versions number variables count rest r t e h =
    let size : length (row_instances n versions r) ≡ versions * count =
    row_length n versions r ∙ ap (λ v. versions * n ^ v) t.variables_are ∙ ap (λ c. versions * c) (sym e) in
    ap (λ rs. slice_get (flat_map (row_instances n versions) rs) rest) t.drops
    ∙ get_right (row_instances n versions r) (flat_map (row_instances n versions) (drop number table)) rest
    (rest - versions * count) (omega (arith, size, h))

pub drop_next : {X : Type 0} (xs : List X) (k : ℕ) (x : X) → slice_get xs k ≡ Some x → drop k xs ≡ x ∷ drop (k + 1) xs
drop_next [] k x e = cc
drop_next (y ∷ ys) zero x e = let same : y ≡ x = cc in ap (λ z. z ∷ ys) same
drop_next (y ∷ ys) (suc k) x e = let s : suc k + 1 ≡ suc (k + 1) = omega arith in rw s (drop_next ys k x e)

pub drop_none : {X : Type 0} (xs : List X) (k : ℕ) → slice_get xs k ≡ None → drop k xs ≡ []
drop_none [] zero e = refl
drop_none [] (suc k) e = refl
drop_none (y ∷ ys) zero e = cc
drop_none (y ∷ ys) (suc k) e = drop_none ys k e

pub there : {X : Type 0} (xs : List X) (k : ℕ) (x : X) → slice_get xs k ≡ Some x → k < length xs
there [] k x e = cc
there (y ∷ ys) zero x e = omega arith
there (y ∷ ys) (suc k) x e = let h = there ys k x e in omega (arith, h)

-- how many instances there may be
product_small : (a b : ℕ) → a < 256 → b < 2 ^ 32 → a * b ≤ 256 * 2 ^ 32
product_small a b h k = mul-le-mul {n₂ = 256} {m₂ = 2 ^ 32} (omega arith) (omega arith)

rows_few : (n versions : ℕ) → n < 256 → versions < 256 → (rs : List AxiomRow) → All (λ r. r.variables ≤ 4) rs
    → length (flat_map (row_instances n versions) rs) ≤ length rs * (256 * 2 ^ 32)
rows_few n versions a b [] h = omega arith
rows_few n versions a b (r ∷ rs) h =
    let first : r.variables ≤ 4 = h zero r (omega arith) in
    let size = row_length n versions r in
    let power = pow_small n r.variables a first in
    let rest = rows_few n versions a b rs (λ k d l. h (suc k) d (omega (arith, l))) in
    let product : versions * n ^ r.variables ≤ 256 * 2 ^ 32 = product_small versions (n ^ r.variables) b power in
    omega (
      arith,
      length-append (row_instances n versions r) (flat_map (row_instances n versions) rs),
      size,
      product,
      rest,
    )

pub few_instances : (n versions : ℕ) → n < 256 → versions < 256 → length (instances n versions) < 2 ^ 63
few_instances n versions a b =
    let each : All (λ r. r.variables ≤ 4) table =
    λ k d l. subst (λ r. r.variables ≤ 4) (get_or_default table k (row 0 1 []) d l) (row_there k l).few in
    let all = rows_few n versions a b table each in omega (arith, all)
