-- Each name is in the list of all instances once, and how many there are.
use Rattle.std.proofs.Common.{◌≡◌, ◌≢◌, ℕ, zero, suc, ◌+◌, ◌*◌, ◌^◌, ◌<◌, List, [], ◌∷◌, ◌++◌, map, length, refl, sym}
use Rattle.std.proofs.Common.{ap, ◌∙◌, arith, get_or, All, length-append}
use Rattle.std.specs.List.{flat_map, range_with_len, AllPairs}
use Rattle.std.proofs.Math.Nat.{pow-suc, pow-zero}
use Rattle.std.proofs.lemmas.List.{get_or_default}
use Rattle.std.proofs.lemmas.List.Elements.{All-append, All-nil, All-cons, All-map, All-weaker, All-head, All-tail}
use Rattle.gh_base.specs.declared.atom.Term.{Term}
use Rattle.gh_base.specs.Atoms.{term, terms_below}
use Rattle.gh_inst.specs.Table.{AxiomRow, row, table}
use Rattle.gh_inst.specs.Tuples.{tuples}
use Rattle.gh_inst.specs.Instances.{name_of, row_instances, tuple_of}
use Rattle.gh_inst.specs.Laws.{AreDistinct, AreCounted}
use Rattle.gh_inst.proofs.InstanceLemmas.{row_there, row_length}
use Rattle.gh_inst.proofs.SearchLemmas.{all_joined}
use Rattle.gh_inst.proofs.ListedLemmas.{tuple_back}

pairs_nil : {X : Type 0} (R : X → X → Type 0) → AllPairs R []
pairs_nil R i j d h below = absurd (omega (arith, h, below))

pairs_cons : {X : Type 0} (R : X → X → Type 0) (x : X) (xs : List X) → All (R x) xs → AllPairs R xs
    → AllPairs R (x ∷ xs)
pairs_cons R x xs first rest zero zero d h below = absurd (omega (arith, h))
pairs_cons R x xs first rest zero (suc j) d h below = first j d (omega (arith, below))
pairs_cons R x xs first rest (suc i) zero d h below = absurd (omega (arith, h))
pairs_cons R x xs first rest (suc i) (suc j) d h below = rest i j d (omega (arith, h)) (omega (arith, below))

pairs_head : {X : Type 0} (R : X → X → Type 0) (x : X) (xs : List X) → AllPairs R (x ∷ xs) → All (R x) xs
pairs_head R x xs p = λ j d below. p 0 (suc j) d (omega arith) (omega (arith, below))

pairs_tail : {X : Type 0} (R : X → X → Type 0) (x : X) (xs : List X) → AllPairs R (x ∷ xs) → AllPairs R xs
pairs_tail R x xs p = λ i j d h below. p (suc i) (suc j) d (omega (arith, h)) (omega (arith, below))

pairs_append : {X : Type 0} (R : X → X → Type 0) (xs ys : List X) → AllPairs R xs → AllPairs R ys
    → All (λ x. All (R x) ys) xs → AllPairs R (xs ++ ys)
pairs_append R [] ys p q cross = q
pairs_append R (x ∷ xs) ys p q cross =
    pairs_cons R x (xs ++ ys) (All-append (R x) xs ys (pairs_head R x xs p) (All-head (λ z. All (R z) ys) x xs cross))
    (pairs_append R xs ys (pairs_tail R x xs p) q (All-tail (λ z. All (R z) ys) x xs cross))

pairs_map : {X Y : Type 0} (R : Y → Y → Type 0) (f : X → Y) (xs : List X) → AllPairs (λ a b. R (f a) (f b)) xs
    → AllPairs R (map f xs)
pairs_map R f [] p = pairs_nil R
pairs_map R f (x ∷ xs) p =
    pairs_cons R (f x) (map f xs) (All-map (R (f x)) f xs (pairs_head (λ a b. R (f a) (f b)) x xs p))
    (pairs_map R f xs (pairs_tail (λ a b. R (f a) (f b)) x xs p))

pairs_weaker : {X : Type 0} (R S : X → X → Type 0) → ((a b : X) → R a b → S a b) → (xs : List X) → AllPairs R xs
    → AllPairs S xs
pairs_weaker R S h xs p = λ i j d l below. h (get_or xs i d) (get_or xs j d) (p i j d l below)

abbrev Differ : {X : Type 0} → List X → Type 0
Differ xs = AllPairs (λ a b. a ≢ b) xs

-- blocks that are told apart by a key
blocks_differ : {X Y : Type 0} (f : X → List Y) (g : X → ℕ) (key : Y → ℕ) → ((x : X) → All (λ y. key y ≡ g x) (f x))
    → ((x : X) → Differ (f x))
    → (xs : List X) → AllPairs (λ a b. g a ≢ g b) xs → Differ (flat_map f xs)
blocks_differ f g key keys each [] p = pairs_nil (λ a b. a ≢ b)
blocks_differ f g key keys each (x ∷ xs) p =
    let others : All (λ z. g x ≢ key z) (flat_map f xs) =
    all_joined (λ z. g x ≢ key z) f xs
    (All-weaker (λ w. g x ≢ g w) (λ w. All (λ z. g x ≢ key z) (f w))
    (λ w h. All-weaker (λ z. key z ≡ g w) (λ z. g x ≢ key z) (λ z e q. h (q ∙ e)) (f w) (keys w)) xs
    (pairs_head (λ a b. g a ≢ g b) x xs p)) in
    let cross : All (λ y. All (λ z. y ≢ z) (flat_map f xs)) (f x) =
    All-weaker (λ y. key y ≡ g x) (λ y. All (λ z. y ≢ z) (flat_map f xs))
    (λ y e. All-weaker (λ z. g x ≢ key z) (λ z. y ≢ z) (λ z h q. h (sym e ∙ ap key q)) (flat_map f xs) others) (f x)
    (keys x) in
    pairs_append (λ a b. a ≢ b) (f x) (flat_map f xs) (each x)
    (blocks_differ f g key keys each xs (pairs_tail (λ a b. g a ≢ g b) x xs p)) cross

range_above : (a b n : ℕ) → a < b → All (λ k. a ≢ k) (range_with_len b n)
range_above a b zero h = All-nil (λ k. a ≢ k)
range_above a b (suc n) h =
    All-cons (λ k. a ≢ k) b (range_with_len (b + 1) n) (λ e. absurd (omega (arith, h, e)))
    (range_above a (b + 1) n (omega (arith, h)))

numbers_differ : (a n : ℕ) → Differ (range_with_len a n)
numbers_differ a zero = pairs_nil (λ a b. a ≢ b)
numbers_differ a (suc n) =
    pairs_cons (λ a b. a ≢ b) a (range_with_len (a + 1) n) (range_above a (a + 1) n (omega arith))
    (numbers_differ (a + 1) n)

same_rest : {X : Type 0} (t : X) (a b : List X) → t ∷ a ≡ t ∷ b → a ≡ b
same_rest t a b e = cc

abbrev first_number : List Term → ℕ
first_number [] = 0
first_number (t ∷ ts) = t.0

tuples_differ : (v n : ℕ) → Differ (tuples v n)
tuples_differ zero n = pairs_cons (λ a b. a ≢ b) [] [] (All-nil (λ b. [] ≢ b)) (pairs_nil (λ a b. a ≢ b))
tuples_differ (suc v) n =
    blocks_differ (λ t. map (λ rest. t ∷ rest) (tuples v n)) (λ t. t.0) first_number
    (λ t. All-map (λ y. first_number y ≡ t.0) (λ rest. t ∷ rest) (tuples v n) (λ k d l. refl))
    (λ t. pairs_map (λ a b. a ≢ b) (λ rest. t ∷ rest) (tuples v n)
    (pairs_weaker (λ a b. a ≢ b) (λ a b. (t ∷ a) ≢ (t ∷ b)) (λ a b h e. h (same_rest t a b e)) (tuples v n)
    (tuples_differ v n)))
    (terms_below n) (pairs_map (λ a b. a.0 ≢ b.0) term (range_with_len 0 n) (numbers_differ 0 n))

version_differs : (number version variables n : ℕ) → Differ (map (name_of number version) (tuples variables n))
version_differs number version variables n =
    pairs_map (λ a b. a ≢ b) (name_of number version) (tuples variables n)
    (pairs_weaker (λ a b. a ≢ b) (λ a b. name_of number version a ≢ name_of number version b)
    (λ a b h e. h (sym (tuple_back number version a) ∙ ap tuple_of e ∙ tuple_back number version b))
    (tuples variables n) (tuples_differ variables n))

row_differs : (n versions : ℕ) (r : AxiomRow) → Differ (row_instances n versions r)
row_differs n versions r =
    blocks_differ (λ version. map (name_of r.number version) (tuples r.variables n)) (λ version. version)
    (λ name. name.version)
    (λ version. All-map (λ name. name.version ≡ version) (name_of r.number version) (tuples r.variables n)
    (λ k d l. refl))
    (λ version. version_differs r.number version r.variables n) (range_with_len 0 versions) (numbers_differ 0 versions)

row_numbers : (n versions : ℕ) (r : AxiomRow) → All (λ name. name.row ≡ r.number) (row_instances n versions r)
row_numbers n versions r =
    all_joined (λ name. name.row ≡ r.number) (λ version. map (name_of r.number version) (tuples r.variables n))
    (range_with_len 0 versions)
    (λ k d l. All-map (λ name. name.row ≡ r.number) (name_of r.number (get_or (range_with_len 0 versions) k d))
    (tuples r.variables n) (λ j e b. refl))

number_at : (k : ℕ) (d : AxiomRow) → k < 15 → (get_or table k d).number ≡ k + 1
number_at k d h = ap (λ r. r.number) (get_or_default table k d (row 0 1 []) h) ∙ (row_there k h).number

rows_differ : AllPairs (λ a b. a.number ≢ b.number) table
rows_differ i j d h below = λ e.
    let a = number_at i d (omega (arith, h, below)) in
    let b = number_at j d below in
    absurd (omega (arith, h, sym a ∙ e ∙ b))

pub instances_differ : AreDistinct
instances_differ n versions =
    blocks_differ (row_instances n versions) (λ r. r.number) (λ name. name.row) (row_numbers n versions)
    (row_differs n versions) table rows_differ

-- how many there are
abbrev total : ℕ → ℕ → List AxiomRow → ℕ
total n versions [] = 0
total n versions (r ∷ rs) = versions * n ^ r.variables + total n versions rs

rows_length : (n versions : ℕ) (rs : List AxiomRow)
    → length (flat_map (row_instances n versions) rs) ≡ total n versions rs
rows_length n versions [] = refl
rows_length n versions (r ∷ rs) =
    omega (
      arith,
      length-append (row_instances n versions r) (flat_map (row_instances n versions) rs),
      row_length n versions r,
      rows_length n versions rs,
    )

sums : (a b c d v : ℕ) → v * a
    + (v * b + (v * c + (v * c
    + (v * c + (v * c + (v * d
    + (v * d + (v * d + (v * d + (v * b + (v * c + (v * b + (v * b + (v * b + 0))))))))))))))
    ≡ v * (a + 5 * b + 5 * c + 4 * d)
sums a b c d v = omega arith

first_power : (n : ℕ) → n ^ 1 ≡ n
first_power n = let s : n ^ 1 ≡ n ^ 0 * n = pow-suc n 0 in s ∙ ap (λ k. k * n) (pow-zero n) ∙ omega arith

pub instances_counted : AreCounted
instances_counted n versions =
    rows_length n versions table ∙ sums (n ^ 1) (n ^ 2) (n ^ 3) (n ^ 4) versions
    ∙ ap (λ k. versions * (k + 5 * n ^ 2 + 5 * n ^ 3 + 4 * n ^ 4)) (first_power n)
