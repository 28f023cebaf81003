-- The truth of literals in the interpretations of scripts and in those of clauses.
use Rattle.std.proofs.Common.{◌≡◌, ℕ, zero, suc, List, [], ◌∷◌, Bool, true, false, nat_eq, ◌&&◌, ◌||◌, refl, ◌∙◌, ap}
use Rattle.std.proofs.Common.{arith, eq-eqb, eqb-true, inl, inr}
use Rattle.std.specs.Prelude.{Any, Contains}
use Rattle.std.proofs.lemmas.Bool.{false≢true}
use Rattle.gh_base.proofs.ListLemmas.{either_holds}
use Rattle.gh_base.specs.declared.atom.Atom.{Atom}
use Rattle.gh_base.specs.declared.atom.Atom.TheVariants.{Eq, Btwn, Hop, Alloc, Def}
use Rattle.gh_base.specs.declared.atom.Lit.{Lit}
use Rattle.gh_base.specs.declared.sizes.Sizes.{Sizes}
use Rattle.gh_base.specs.Meaning as ground
use Rattle.gh_base.specs.Meaning.{Interpretation, IsCongruence, atom_truth, under}
use Rattle.gh_smt.specs.Meaning.{SmtModel, IsAtomTrue, Signed, IsLitTrue, IsAssertionTrue}

-- a test is true exactly where a fact holds
pub record Says (b : Bool) (P : Type 0) : Type 0 where
  pub true_is : b ≡ true → P
  pub is_true : P → b ≡ true

-- whether a list has an element
has : {X : Type 0} → (X → X → Bool) → List X → X → Bool
has same [] x = false
has same (y ∷ ys) x = same y x || has same ys x

right : (a b : Bool) → b ≡ true → (a || b) ≡ true
right true b h = refl
right false b h = h

contained : {X : Type 0} (same : X → X → Bool) → ((x y : X) → same x y ≡ true → x ≡ y) → (xs : List X) (x : X)
    → has same xs x ≡ true → Contains xs x
unfolding has
contained same one [] x h = absurd (false≢true h)
contained {X} same one (y ∷ ys) x h =
    let put : Contains ys x → Contains (y ∷ ys) x = λ k. (suc k.0, omega (arith, k.1), k.2) in
    elim (either_holds (same y x) (has same ys x) h)
    [ inl e ↦ (zero, omega arith, one y x e) | inr e ↦ put (contained same one ys x e) ]

found : {X : Type 0} (same : X → X → Bool) → ((x : X) → same x x ≡ true) → (xs : List X) (x : X) → Contains xs x
    → has same xs x ≡ true
unfolding has
found same itself [] x h = absurd (omega (arith, h.1))
found same itself (y ∷ ys) x (zero, h, e) =
    ap (λ z. same z x || has same ys x) e ∙ ap (λ b. b || has same ys x) (itself x)
found same itself (y ∷ ys) x (suc k, h, e) =
    right (same y x) (has same ys x) (found same itself ys x (k, omega (arith, h), e))

has_says : {X : Type 0} (same : X → X → Bool) → ((x y : X) → same x y ≡ true → x ≡ y) → ((x : X) → same x x ≡ true)
    → (xs : List X) (x : X) → Says (has same xs x) (Contains xs x)
has_says same one itself xs x = record { true_is = contained same one xs x; is_true = found same itself xs x }

-- tests of numbers, pairs and triples
same_number : (x y : ℕ) → nat_eq x y ≡ true → x ≡ y
same_number x y h = eqb-true x y h

itself_number : (x : ℕ) → nat_eq x x ≡ true
itself_number x = eq-eqb x x refl

both : (a b : Bool) → (a && b) ≡ true → (a ≡ true) × (b ≡ true)
both true b h = (refl, h)
both false b h = absurd (false≢true h)

and_true : (a b : Bool) → a ≡ true → b ≡ true → (a && b) ≡ true
and_true a b p q = ap (λ x. x && b) p ∙ q

abbrev pair_test : ℕ × ℕ → ℕ × ℕ → Bool
pair_test x y = nat_eq x.0 y.0 && nat_eq x.1 y.1

abbrev triple_test : ℕ × ℕ × ℕ → ℕ × ℕ × ℕ → Bool
triple_test x y = nat_eq x.0 y.0 && (nat_eq x.1 y.1 && nat_eq x.2 y.2)

same_pair : (x y : ℕ × ℕ) → pair_test x y ≡ true → x ≡ y
same_pair x y h =
    let t = both (nat_eq x.0 y.0) (nat_eq x.1 y.1) h in
    let a = same_number x.0 y.0 t.0 in let b = same_number x.1 y.1 t.1 in
    λ i. (a i, b i)

same_triple : (x y : ℕ × ℕ × ℕ) → triple_test x y ≡ true → x ≡ y
same_triple x y h =
    let t = both (nat_eq x.0 y.0) (nat_eq x.1 y.1 && nat_eq x.2 y.2) h in
    let u = both (nat_eq x.1 y.1) (nat_eq x.2 y.2) t.1 in
    let a = same_number x.0 y.0 t.0 in let b = same_number x.1 y.1 u.0 in let c = same_number x.2 y.2 u.1 in
    λ i. (a i, b i, c i)

itself_pair : (x : ℕ × ℕ) → pair_test x x ≡ true
itself_pair x = and_true (nat_eq x.0 x.0) (nat_eq x.1 x.1) (itself_number x.0) (itself_number x.1)

itself_triple : (x : ℕ × ℕ × ℕ) → triple_test x x ≡ true
itself_triple x =
    and_true (nat_eq x.0 x.0) (nat_eq x.1 x.1 && nat_eq x.2 x.2) (itself_number x.0)
    (and_true (nat_eq x.1 x.1) (nat_eq x.2 x.2) (itself_number x.1) (itself_number x.2))

-- the structure of an interpretation: terms are of one class where their numbers are one
smt_table : SmtModel → Atom → Bool
smt_table m (Eq a b) = false
smt_table m (Btwn v x y z) = has triple_test (m.between v) (m.location x.0, m.location y.0, m.location z.0)
smt_table m (Hop v x y) = has pair_test (m.hop v) (m.location x.0, m.location y.0)
smt_table m (Alloc v x) = has nat_eq (m.alloc v) (m.location x.0)
smt_table m (Def number) = m.def number

pub structure_of : SmtModel → Interpretation
structure_of m = record { class = m.location; table = smt_table m }

pub is_congruence : (s : Sizes) (m : SmtModel) → IsCongruence s (structure_of m)
unfolding structure_of smt_table
is_congruence s m =
    record {
      btwn = λ v x y z x' y' z' h h' e f g. λ i. has triple_test (m.between v) (e i, f i, g i);
      hop = λ v x y x' y' h h' e f. λ i. has pair_test (m.hop v) (e i, f i);
      alloc = λ v x x' h h' e. λ i. has nat_eq (m.alloc v) (e i);
    }

atom_says : (m : SmtModel) (a : Atom) → Says (atom_truth (structure_of m) a) (IsAtomTrue m a)
unfolding structure_of smt_table
atom_says m (Eq a b) = record {
  true_is = same_number (m.location a.0) (m.location b.0);
  is_true = eq-eqb (m.location a.0) (m.location b.0);
}
atom_says m (Btwn v x y z) =
    has_says triple_test same_triple itself_triple (m.between v) (m.location x.0, m.location y.0, m.location z.0)
atom_says m (Hop v x y) = has_says pair_test same_pair itself_pair (m.hop v) (m.location x.0, m.location y.0)
atom_says m (Alloc v x) = has_says nat_eq same_number itself_number (m.alloc v) (m.location x.0)
atom_says m (Def number) = record { true_is = λ h. h; is_true = λ h. h }

pub signed_says : (positive b : Bool) (P : Type 0) → Says b P → Says (under positive b) (Signed positive P)
signed_says true b P s = s
signed_says false true P s = record { true_is = λ h. absurd (false≢true h); is_true = λ h. absurd (h (s.true_is refl)) }
signed_says false false P s = record { true_is = λ h holds. false≢true (s.is_true holds); is_true = λ h. refl }

pub any_weaker : {X : Type 0} (P Q : X → Type 0) (xs : List X) → ((x : X) → Contains xs x → P x → Q x) → Any P xs
    → Any Q xs
any_weaker P Q xs f (k, x, h, e, holds) = (k, x, h, e, f x (k, h, e) holds)

pub structure_clause : (m : SmtModel) (clause : List Lit) → IsAssertionTrue m clause
    → ground.IsClauseTrue (structure_of m) clause
structure_clause m clause h =
    any_weaker (IsLitTrue m) (ground.IsLitTrue (structure_of m)) clause
    (λ l c p. (signed_says l.positive (atom_truth (structure_of m) l.atom) (IsAtomTrue m l.atom)
    (atom_says m l.atom)).is_true p) h
