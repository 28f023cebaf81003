-- The heap of a structure, cell by cell.
use Rattle.std.specs.Prelude.{◌≡◌, ◌≢◌, ℕ, zero, suc, ◌+◌, ◌≤◌, ◌<◌, Bool, true, false, not, ◌&&◌, ◌==◌, cond}
use Rattle.std.specs.FinMap.{insert}
use Rattle.std.proofs.Common.{refl, sym, ◌∙◌, ap, inl, inr, arith}
use Rattle.std.proofs.lemmas.Bool.{cases_Bool, cases_eq, eqb-true, eq-eqb, false≢true}
use Rattle.gh_base.specs.Meaning.{Interpretation}
use Rattle.gh_base.specs.Structures.{Tables, AreTables, class_at, interpretation_of}
use Rattle.gh_assert.specs.Heaps.{Heap}
use Rattle.gh_model.specs.BuiltHeaps.{first}
use Rattle.gh_model.specs.Classes.{numbers, class_of}
use Rattle.gh_model.specs.Versions.{equal_in, version_of}
use Rattle.gh_model.specs.BuiltTraces.{stands_at, content_at, cells_below}

-- the least number that passes a test
first_least : (p : ℕ → Bool) (k n c : ℕ) → k ≤ c → c < k + n → p c ≡ true → ((v : ℕ) → v < c → p v ≡ true → ⊥)
    → first p (numbers k n) ≡ c
first_least p k zero c a b e out = absurd (omega arith)
first_least p k (suc n) c a b e out = elim (cases_eq k c) [
  | inl same ↦ ap (λ t. cond t k (first p (numbers (suc k) n))) (ap p same ∙ e) ∙ same
  | inr other ↦ elim (cases_Bool (p k)) [
    | inl on ↦ absurd (out k (omega arith) on)
    | inr off ↦ ap (λ t. cond t k (first p (numbers (suc k) n))) off
        ∙ first_least p (suc k) n c (omega arith) (omega arith) e out
  ]
]

first_none : (p : ℕ → Bool) (k n : ℕ) → ((v : ℕ) → v < k + n → p v ≡ false) → first p (numbers k n) ≡ 0
first_none p k zero out = refl
first_none p k (suc n) out =
    ap (λ t. cond t k (first p (numbers (suc k) n))) (out k (omega arith))
    ∙ first_none p (suc k) n (λ v l. out v (omega (arith, l)))

-- a class of a structure is its least term
pub class_is : (s : Tables) → AreTables s → (t : ℕ) → t < s.sizes.terms
    → class_of (equal_in (interpretation_of s)) s.sizes.terms t ≡ class_at s.classes t
class_is s A t l =
    let c = class_at s.classes t in
    let least : c ≤ t = A.classes.least t (omega (arith, A.terms)) in
    let own : class_at s.classes c ≡ c = A.classes.own t (omega (arith, A.terms)) in
    first_least (equal_in (interpretation_of s) t) 0 s.sizes.terms c (omega arith) (omega arith)
    (eq-eqb c (class_at s.classes c) (sym own)) (λ v lv e.
    let same : c ≡ class_at s.classes v = eqb-true c (class_at s.classes v) e in
    absurd (omega (arith, A.classes.least v (omega (arith, A.terms)))))

pub stands_is : (s : Tables) → AreTables s → (i x : ℕ) → x < s.sizes.terms
    → stands_at (interpretation_of s) s.sizes.terms i x
    ≡ (not (x == 0) && ((class_at s.classes x == x) && (version_of (interpretation_of s) i).alloc x))
stands_is s A i x l =
    ap (λ c. not (x == 0) && ((c == x) && (version_of (interpretation_of s) i).alloc x)) (class_is s A x l)

pub content_found : (s : Tables) → AreTables s → (i x y : ℕ) → y < s.sizes.terms
    → (version_of (interpretation_of s) i).hop x y ≡ true
    → ((v : ℕ) → v < y → (version_of (interpretation_of s) i).hop x v ≡ false)
    → content_at (interpretation_of s) s.sizes.terms i x ≡ class_at s.classes y
content_found s A i x y l e out =
    ap (class_of (equal_in (interpretation_of s)) s.sizes.terms)
    (first_least ((version_of (interpretation_of s) i).hop x) 0 s.sizes.terms y (omega arith) (omega arith) e
    (λ v lv on. false≢true (sym (out v lv) ∙ on)))
    ∙ class_is s A y l

pub content_none : (s : Tables) → AreTables s → (i x : ℕ)
    → ((v : ℕ) → v < s.sizes.terms → (version_of (interpretation_of s) i).hop x v ≡ false)
    → content_at (interpretation_of s) s.sizes.terms i x ≡ 0
content_none s A i x out =
    let least : class_at s.classes 0 ≤ 0 = A.classes.least 0 (omega (arith, A.terms, A.some)) in
    let null : class_at s.classes 0 ≡ 0 = omega arith in
    ap (class_of (equal_in (interpretation_of s)) s.sizes.terms)
    (first_none ((version_of (interpretation_of s) i).hop x) 0 s.sizes.terms (λ v l. out v (omega (arith, l))))
    ∙ class_is s A 0 (omega (arith, A.some)) ∙ null

-- one more number
pub cells_more : (stands : ℕ → Bool) (to : ℕ → ℕ) (h k : Heap) (x v : ℕ) → stands x ≡ true → h ≡ cells_below stands to x
    → v ≡ to x → k ≡ insert h x v → k ≡ cells_below stands to (x + 1)
cells_more stands to h k x v on here is put =
    let up : x + 1 ≡ suc x = omega arith in
    put ∙ ap (λ u. insert h x u) is ∙ ap (λ g. insert g x (to x)) here
    ∙ sym (ap (cells_below stands to) up
    ∙ ap (λ b. cond b (insert (cells_below stands to x) x (to x)) (cells_below stands to x)) on)

pub cells_same : (stands : ℕ → Bool) (to : ℕ → ℕ) (h : Heap) (x : ℕ) → stands x ≡ false → h ≡ cells_below stands to x
    → h ≡ cells_below stands to (x + 1)
cells_same stands to h x off here =
    let up : x + 1 ≡ suc x = omega arith in
    here ∙ sym (ap (cells_below stands to) up
    ∙ ap (λ b. cond b (insert (cells_below stands to x) x (to x)) (cells_below stands to x)) off)

pub stands_apart : (m : Interpretation) (n i x : ℕ) → stands_at m n i x ≡ true → x ≢ 0
stands_apart m n i x e z =
    let same : (x == 0) ≡ true = eq-eqb x 0 z in
    false≢true (sym (ap (λ b. not b && ((class_of (equal_in m) n x == x) && (version_of m i).alloc x)) same) ∙ e)

-- no cell at null, nor at a term that isn't its class
pub null_not : (m : Interpretation) (n i x : ℕ) → x ≡ 0 → false ≡ stands_at m n i x
null_not m n i x z = sym (ap (λ b. not b && ((class_of (equal_in m) n x == x) && (version_of m i).alloc x))
    (eq-eqb x 0 z))

pub other_not : (s : Tables) → AreTables s → (i x : ℕ) → x < s.sizes.terms → class_at s.classes x ≢ x
    → false ≡ stands_at (interpretation_of s) s.sizes.terms i x
other_not s A i x l away = elim (cases_Bool (class_at s.classes x == x)) [
  | inl on ↦ absurd (away (eqb-true (class_at s.classes x) x on))
  | inr off ↦ sym (stands_is s A i x l
      ∙ ap (λ c. not (x == 0) && (c && (version_of (interpretation_of s) i).alloc x)) off ∙ none (not (x == 0)))
]
  where
    none : (a : Bool) → (a && false) ≡ false
    none true = refl
    none false = refl

pub alloc_stands : (s : Tables) → AreTables s → (i x : ℕ) → x < s.sizes.terms → x ≢ 0 → class_at s.classes x ≡ x
    → (version_of (interpretation_of s) i).alloc x ≡ stands_at (interpretation_of s) s.sizes.terms i x
alloc_stands s A i x l some own = elim (cases_Bool (x == 0)) [
  | inl on ↦ absurd (some (eqb-true x 0 on))
  | inr off ↦ sym (stands_is s A i x l
      ∙ ap (λ b. not b && ((class_at s.classes x == x) && (version_of (interpretation_of s) i).alloc x)) off
      ∙ ap (λ c. c && (version_of (interpretation_of s) i).alloc x) (eq-eqb (class_at s.classes x) x own))
]
