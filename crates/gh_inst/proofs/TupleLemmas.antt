-- The tuple at each place.
use Rattle.std.proofs.Common.{◌≡◌, ℕ, zero, suc, ◌+◌, ◌-◌, ◌*◌, ◌/◌, ◌%◌, ◌^◌, ◌<◌, ◌≤◌, List, [], ◌∷◌, ◌++◌, map}
use Rattle.std.proofs.Common.{length, Some, option_map, refl, sym, ap, subst, ◌∙◌, arith, length-append, take, set}
use Rattle.std.proofs.Common.{zero-add, append_assoc}
use Rattle.std.specs.Prelude.{slice_get}
use Rattle.std.specs.List.{flat_map, range_with_len}
use Rattle.std.proofs.Math.Nat.{pow-suc, mul-div_cancel, pow-zero, mul-div-le, lt_of_mul-lt-mul_left, mod-lt}
use Rattle.std.proofs.Math.Nat.{pow-le-pow_left}
use Rattle.std.proofs.lemmas.Nat.{div-add-mod'}
use Rattle.std.proofs.lemmas.List.{take_more_set, length-map}
use Rattle.std.proofs.lemmas.Option.{slice_get-map}
use Rattle.gh_base.specs.declared.atom.Term.{Term}
use Rattle.gh_base.specs.Atoms.{term, terms_below}
use Rattle.gh_inst.specs.Tuples.{tuples}

pub get_left : {X : Type 0} (xs ys : List X) (k : ℕ) → k < length xs → slice_get (xs ++ ys) k ≡ slice_get xs k
get_left [] ys k h = absurd (omega arith)
get_left (x ∷ xs) ys zero h = refl
get_left (x ∷ xs) ys (suc k) h = get_left xs ys k (omega arith)

pub get_right : {X : Type 0} (xs ys : List X) (k j : ℕ) → k ≡ length xs + j → slice_get (xs ++ ys) k ≡ slice_get ys j
get_right [] ys k j e = let s : k ≡ j = omega arith in ap (slice_get ys) s
get_right (x ∷ xs) ys zero j e = absurd (omega arith)
get_right (x ∷ xs) ys (suc k) j e = get_right xs ys k j (omega arith)

-- blocks of one length joined end to end
pub blocks_length : {X Y : Type 0} (f : X → List Y) (b : ℕ) → ((x : X) → length (f x) ≡ b) → (xs : List X)
    → length (flat_map f xs) ≡ length xs * b
blocks_length f b h [] = omega arith
blocks_length f b h (x ∷ xs) = omega (arith, length-append (f x) (flat_map f xs), h x, blocks_length f b h xs)

pub block_at : {X Y : Type 0} (f : X → List Y) (b : ℕ) → ((x : X) → length (f x) ≡ b)
    → (xs : List X) (q r k : ℕ) (x : X) → k ≡ q * b + r → r < b → slice_get xs q ≡ Some x
    → slice_get (flat_map f xs) k ≡ slice_get (f x) r
block_at f b h [] q r k x e l g = cc
block_at f b h (y ∷ ys) zero r k x e l g =
    let size = h y in
    let s : k ≡ r = omega arith in
    let same : y ≡ x = cc in
    get_left (f y) (flat_map f ys) k (omega (arith, size)) ∙ ap (slice_get (f y)) s ∙ ap (λ z. slice_get (f z) r) same
block_at f b h (y ∷ ys) (suc q) r k x e l g =
    let size = h y in
    get_right (f y) (flat_map f ys) k (q * b + r) (omega (arith, size)) ∙ block_at f b h ys q r (q * b + r) x refl l g

pub range_length : (a n : ℕ) → length (range_with_len a n) ≡ n
range_length a zero = refl
range_length a (suc n) = ap suc (range_length (a + 1) n)

pub range_at : (a n q : ℕ) → q < n → slice_get (range_with_len a n) q ≡ Some (a + q)
range_at a zero q h = absurd (omega arith)
range_at a (suc n) zero h = let e : a ≡ a + 0 = omega arith in ap Some e
range_at a (suc n) (suc q) h = let e : a + 1 + q ≡ a + suc q = omega arith in
    range_at (a + 1) n q (omega arith) ∙ ap Some e

pub terms_length : (n : ℕ) → length (terms_below n) ≡ n
terms_length n = length-map (range_with_len 0 n) term ∙ range_length 0 n

pub term_there : (n q : ℕ) → q < n → slice_get (terms_below n) q ≡ Some (term q)
term_there n q h =
    slice_get-map term (range_with_len 0 n) q ∙ ap (option_map term) (range_at 0 n q h)
    ∙ ap (λ k. Some (term k)) (zero-add q)

pub tuples_length : (v n : ℕ) → length (tuples v n) ≡ n ^ v
tuples_length zero n = sym (pow-zero n)
tuples_length (suc v) n =
    blocks_length (λ t. map (λ rest. t ∷ rest) (tuples v n)) (n ^ v)
    (λ t. length-map (tuples v n) (λ rest. t ∷ rest) ∙ tuples_length v n) (terms_below n)
    ∙ rw (terms_length n) (omega (arith, pow-suc n v))

-- the digits of a place
abbrev pub digits : ℕ → ℕ → ℕ → List Term
digits zero n k = []
digits (suc v) n k = term (k / n ^ v) ∷ digits v n (k % n ^ v)

-- a quotient is below what the product is below
pub quotient_below : (k l n : ℕ) → k < l * n → k / l < n
quotient_below k l n h = let m = mul-div-le k l in lt_of_mul-lt-mul_left l (omega (arith, m))

pub positive : (k l n : ℕ) → k < l * n → 0 < l
positive k zero n h = absurd (omega arith)
positive k (suc l) n h = omega arith

pub digits_at : (v n k : ℕ) → k < n ^ v → slice_get (tuples v n) k ≡ Some (digits v n k)
digits_at zero n zero h = refl
digits_at zero n (suc k) h = let p = pow-zero n in absurd (omega arith)
digits_at (suc v) n k h =
    let l = n ^ v in
    let h' : k < l * n = omega (arith, pow-suc n v) in
    let here : k % l < l = mod-lt k (positive k l n h') in
    let sum : k ≡ k / l * l + k % l = sym (div-add-mod' k l) in
    let q = quotient_below k l n h' in
    let inner = digits_at v n (k % l) here in
    let led : Term → List (List Term) = λ t. map (λ rest. t ∷ rest) (tuples v n) in
    block_at led l (λ t. length-map (tuples v n) (λ rest. t ∷ rest) ∙ tuples_length v n) (terms_below n) (k / l) (k % l)
    k (term (k / l)) sum here (term_there n (k / l) q)
    ∙ slice_get-map (λ rest. term (k / l) ∷ rest) (tuples v n) (k % l)
    ∙ ap (option_map (λ rest. term (k / l) ∷ rest)) inner

positive_right : (k l n : ℕ) → k < l * n → 0 < n
positive_right k l zero h = absurd (omega arith)
positive_right k l (suc n) h = omega arith

pub block_less : (v i n block rest : ℕ) → i < v → block ≡ n ^ (v - i) → rest < block
    → (block / n ≡ n ^ (v - (i + 1))) × (0 < n) × (0 < block / n) × (rest < block / n * n)
block_less v i n block rest a e h =
    let m = v - (i + 1) in
    let s : v - i ≡ suc m = omega arith in
    let whole : block ≡ n ^ m * n = e ∙ ap (λ j. n ^ j) s ∙ pow-suc n m in
    let small : rest < n ^ m * n = subst (λ b. rest < b) whole h in
    let some = positive_right rest (n ^ m) n small in
    let part : block / n ≡ n ^ m = ap (λ b. b / n) whole ∙ mul-div_cancel (n ^ m) some in
    (part, some, rw part (positive rest (n ^ m) n small), rw part small)

-- one digit more, where m digits are left after it
pub digit_more : (tuple : List Term) (v i n block rest k : ℕ) (x : Term) → i < v → v ≤ length tuple
    → block ≡ n ^ (v - i) → rest < block
    → x ≡ term (rest / (block / n)) → take i tuple ++ digits (v - i) n rest ≡ digits v n k
    → take (i + 1) (set tuple i x) ++ digits (v - (i + 1)) n (rest % (block / n)) ≡ digits v n k
digit_more tuple v i n block rest k x a b e h ex f =
    let m = v - (i + 1) in
    let s : v - i ≡ suc m = omega arith in
    let part = (block_less v i n block rest a e h).0 in
    let now : take i tuple ++ digits (suc m) n rest ≡ digits v n k =
    subst (λ j. take i tuple ++ digits j n rest ≡ digits v n k) s f in
    rw (take_more_set tuple i x (omega arith), append_assoc, ex, part) now

pow_bound : (k : ℕ) → k ≤ 4 → 255 ^ k < 2 ^ 32
pow_bound zero h = omega arith
pow_bound (suc zero) h = omega arith
pow_bound (suc (suc zero)) h = omega arith
pow_bound (suc (suc (suc zero))) h = omega arith
pow_bound (suc (suc (suc (suc zero)))) h = omega arith
pow_bound (suc (suc (suc (suc (suc k))))) h = absurd (omega arith)

pub pow_small : (n k : ℕ) → n < 256 → k ≤ 4 → n ^ k < 2 ^ 32
pow_small n k a b = let p : n ^ k ≤ 255 ^ k = pow-le-pow_left (omega arith) k in let q = pow_bound k b in
    omega (arith, p, q)
