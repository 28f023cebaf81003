-- The interpretation of a script that a structure gives, where its equality is a congruence.
use Rattle.std.proofs.Common.{◌≡◌, ℕ, zero, suc, ◌<◌, List, [], ◌∷◌, ◌++◌, Bool, true, false, refl, sym, ◌∙◌, ap, subst}
use Rattle.std.proofs.Common.{arith, eq-eqb, eqb-true, inl, inr, ◌⊎◌}
use Rattle.std.specs.Prelude.{Contains}
use Rattle.std.proofs.lemmas.Bool.{false≢true, cases_lt}
use Rattle.std.proofs.lemmas.List.Elements.{Contains-append_left, Contains-append_right, Contains-append_cases}
use Rattle.std.proofs.lemmas.List.Elements.{All-contains}
use Rattle.gh_base.specs.declared.atom.Atom.{Atom}
use Rattle.gh_base.specs.declared.atom.Atom.TheVariants.{Eq, Btwn, Hop, Alloc, Def}
use Rattle.gh_base.specs.declared.atom.Lit.{Lit}
use Rattle.gh_base.specs.declared.sizes.Sizes.{Sizes}
use Rattle.gh_base.specs.Atoms.{IsInRange, AreInRange, term}
use Rattle.gh_base.specs.Meaning as ground
use Rattle.gh_base.specs.Meaning.{Interpretation, IsCongruence, atom_truth}
use Rattle.gh_smt.specs.Meaning.{SmtModel, IsAtomTrue, IsLitTrue, IsAssertionTrue}
use Rattle.gh_smt.proofs.MeaningLemmas.{Says, signed_says, any_weaker}

-- an element where a test is true
chosen : {X : Type 0} → Bool → X → List X
chosen true x = x ∷ []
chosen false x = []

chosen_there : {X : Type 0} (b : Bool) (x : X) → b ≡ true → Contains (chosen b x) x
unfolding chosen
chosen_there true x h = (zero, omega arith, refl)
chosen_there false x h = absurd (false≢true h)

chosen_from : {X : Type 0} (b : Bool) (x y : X) → Contains (chosen b x) y → (b ≡ true) × (x ≡ y)
unfolding chosen
chosen_from true x y (zero, h, e) = (refl, e)
chosen_from true x y (suc k, h, e) = absurd (omega (arith, h))
chosen_from false x y (k, h, e) = absurd (omega (arith, h))

-- the lists of the numbers below n
collected : {X : Type 0} → (ℕ → List X) → ℕ → List X
collected f zero = []
collected f (suc k) = f k ++ collected f k

at_last : (k n : ℕ) → k < suc n → (k ≡ n) ⊎ (k < n)
at_last k n h = elim (cases_lt k n) [ inl l ↦ inr l | inr l ↦ inl (omega arith) ]

collected_there : {X : Type 0} (f : ℕ → List X) (n k : ℕ) (x : X) → k < n → Contains (f k) x
    → Contains (collected f n) x
unfolding collected
collected_there f zero k x h c = absurd (omega arith)
collected_there {X} f (suc n) k x h c =
    elim (at_last k n h) [
      | inl e ↦ Contains-append_left (f n) (collected f n) x (subst (λ i. Contains (f i) x) e c)
      | inr l ↦ Contains-append_right (f n) (collected f n) x (collected_there f n k x l c)
    ]

collected_from : {X : Type 0} (f : ℕ → List X) (n : ℕ) (x : X) → Contains (collected f n) x
    → (k : ℕ) × (k < n) × Contains (f k) x
unfolding collected
collected_from f zero x (k, h, e) = absurd (omega (arith, h))
collected_from {X} f (suc n) x c =
    let later : (k : ℕ) × (k < n) × Contains (f k) x → (k : ℕ) × (k < suc n) × Contains (f k) x =
    λ w. (w.0, omega (arith, w.1), w.2) in
    elim (Contains-append_cases (f n) (collected f n) x c)
    [ inl h ↦ (n, omega arith, h) | inr h ↦ later (collected_from f n x h) ]

abbrev triples_at : ℕ → (ℕ → ℕ → ℕ → Bool) → (ℕ → ℕ) → ℕ → ℕ → List (ℕ × ℕ × ℕ)
triples_at n test class x y = collected (λ z. chosen (test x y z) (class x, class y, class z)) n

-- the classes of the triples of terms that pass a test
triples : ℕ → (ℕ → ℕ → ℕ → Bool) → (ℕ → ℕ) → List (ℕ × ℕ × ℕ)
triples n test class = collected (λ x. collected (triples_at n test class x) n) n

pairs : ℕ → (ℕ → ℕ → Bool) → (ℕ → ℕ) → List (ℕ × ℕ)
pairs n test class = collected (λ x. collected (λ y. chosen (test x y) (class x, class y)) n) n

singles : ℕ → (ℕ → Bool) → (ℕ → ℕ) → List ℕ
singles n test class = collected (λ x. chosen (test x) (class x)) n

triples_there : (n : ℕ) (test : ℕ → ℕ → ℕ → Bool) (class : ℕ → ℕ) (x y z : ℕ) → x < n → y < n → z < n
    → test x y z ≡ true
    → Contains (triples n test class) (class x, class y, class z)
unfolding triples
triples_there n test class x y z h k l t =
    collected_there (λ x. collected (triples_at n test class x) n) n x _ h
    (collected_there (triples_at n test class x) n y _ k
    (collected_there (λ z. chosen (test x y z) (class x, class y, class z)) n z _ l (chosen_there (test x y z) _ t)))

pairs_there : (n : ℕ) (test : ℕ → ℕ → Bool) (class : ℕ → ℕ) (x y : ℕ) → x < n → y < n → test x y ≡ true
    → Contains (pairs n test class) (class x, class y)
unfolding pairs
pairs_there n test class x y h k t =
    collected_there (λ x. collected (λ y. chosen (test x y) (class x, class y)) n) n x _ h
    (collected_there (λ y. chosen (test x y) (class x, class y)) n y _ k (chosen_there (test x y) _ t))

singles_there : (n : ℕ) (test : ℕ → Bool) (class : ℕ → ℕ) (x : ℕ) → x < n → test x ≡ true
    → Contains (singles n test class) (class x)
unfolding singles
singles_there n test class x h t = collected_there (λ x. chosen (test x) (class x)) n x _ h (chosen_there (test x) _ t)

-- where a triple comes from
record ComesFrom (n : ℕ) (test : ℕ → ℕ → ℕ → Bool) (class : ℕ → ℕ) (a b c : ℕ) : Type 0 where
  x : ℕ
  y : ℕ
  z : ℕ
  x_below : x < n
  y_below : y < n
  z_below : z < n
  passes : test x y z ≡ true
  x_is : class x ≡ a
  y_is : class y ≡ b
  z_is : class z ≡ c

triples_from : (n : ℕ) (test : ℕ → ℕ → ℕ → Bool) (class : ℕ → ℕ) (a b c : ℕ) → Contains (triples n test class) (a, b, c)
    → ComesFrom n test class a b c
unfolding triples
triples_from n test class a b c h =
    let u = collected_from (λ x. collected (triples_at n test class x) n) n (a, b, c) h in
    let v = collected_from (triples_at n test class u.0) n (a, b, c) u.2 in
    let w = collected_from (λ z. chosen (test u.0 v.0 z) (class u.0, class v.0, class z)) n (a, b, c) v.2 in
    let e = chosen_from (test u.0 v.0 w.0) (class u.0, class v.0, class w.0) (a, b, c) w.2 in
    record {
      x = u.0;
      y = v.0;
      z = w.0;
      x_below = u.1;
      y_below = v.1;
      z_below = w.1;
      passes = e.0;
      x_is = ap (λ (t : ℕ × ℕ × ℕ). t.0) e.1;
      y_is = ap (λ (t : ℕ × ℕ × ℕ). t.1) e.1;
      z_is = ap (λ (t : ℕ × ℕ × ℕ). t.2) e.1;
    }

pairs_from : (n : ℕ) (test : ℕ → ℕ → Bool) (class : ℕ → ℕ) (a b : ℕ) → Contains (pairs n test class) (a, b)
    → (x : ℕ) × (y : ℕ) × (x < n) × (y < n) × (test x y ≡ true) × (class x ≡ a) × (class y ≡ b)
unfolding pairs
pairs_from n test class a b h =
    let u = collected_from (λ x. collected (λ y. chosen (test x y) (class x, class y)) n) n (a, b) h in
    let v = collected_from (λ y. chosen (test u.0 y) (class u.0, class y)) n (a, b) u.2 in
    let e = chosen_from (test u.0 v.0) (class u.0, class v.0) (a, b) v.2 in
    (u.0, v.0, u.1, v.1, e.0, ap (λ (t : ℕ × ℕ). t.0) e.1, ap (λ (t : ℕ × ℕ). t.1) e.1)

singles_from : (n : ℕ) (test : ℕ → Bool) (class : ℕ → ℕ) (a : ℕ) → Contains (singles n test class) a
    → (x : ℕ) × (x < n) × (test x ≡ true) × (class x ≡ a)
unfolding singles
singles_from n test class a h =
    let u = collected_from (λ x. chosen (test x) (class x)) n a h in
    let e = chosen_from (test u.0) (class u.0) a u.2 in
    (u.0, u.1, e.0, e.1)

-- the interpretation of a structure
pub model_of : Sizes → Interpretation → SmtModel
model_of s m =
    record {
      location = m.class;
      between = λ v. triples s.terms (λ x y z. m.table (Btwn v (term x) (term y) (term z))) m.class;
      hop = λ v. pairs s.terms (λ x y. m.table (Hop v (term x) (term y))) m.class;
      alloc = λ v. singles s.terms (λ x. m.table (Alloc v (term x))) m.class;
      def = λ n. m.table (Def n);
    }

model_says : (s : Sizes) (m : Interpretation) → IsCongruence s m → (a : Atom) → IsInRange s a
    → Says (atom_truth m a) (IsAtomTrue (model_of s m) a)
unfolding model_of
model_says s m g (Eq a b) r =
    record { true_is = eqb-true (m.class a.0) (m.class b.0); is_true = eq-eqb (m.class a.0) (m.class b.0) }
model_says s m g (Btwn v x y z) r =
    record {
      true_is =
          triples_there s.terms (λ x y z. m.table (Btwn v (term x) (term y) (term z))) m.class x.0 y.0 z.0 r.1 r.2 r.3;
      is_true = λ c.
          let f =
          triples_from s.terms (λ x y z. m.table (Btwn v (term x) (term y) (term z))) m.class (m.class x.0)
          (m.class y.0) (m.class z.0) c in
          sym (g.btwn v (term f.x) (term f.y) (term f.z) x y z (r.0, f.x_below, f.y_below, f.z_below) r f.x_is f.y_is
          f.z_is) ∙ f.passes;
    }
model_says s m g (Hop v x y) r =
    record {
      true_is = pairs_there s.terms (λ x y. m.table (Hop v (term x) (term y))) m.class x.0 y.0 r.1 r.2;
      is_true = λ c.
          let f = pairs_from s.terms (λ x y. m.table (Hop v (term x) (term y))) m.class (m.class x.0) (m.class y.0) c in
          sym (g.hop v (term f.0) (term f.1) x y (r.0, f.2, f.3) r f.5 f.6) ∙ f.4;
    }
model_says s m g (Alloc v x) r =
    record {
      true_is = singles_there s.terms (λ x. m.table (Alloc v (term x))) m.class x.0 r.1;
      is_true = λ c.
          let f = singles_from s.terms (λ x. m.table (Alloc v (term x))) m.class (m.class x.0) c in
          sym (g.alloc v (term f.0) x (r.0, f.1) r f.3) ∙ f.2;
    }
model_says s m g (Def number) r = record { true_is = λ h. h; is_true = λ h. h }

pub model_clause : (s : Sizes) (m : Interpretation) → IsCongruence s m → (clause : List Lit) → AreInRange s clause
    → ground.IsClauseTrue m clause → IsAssertionTrue (model_of s m) clause
model_clause s m g clause r h =
    any_weaker (ground.IsLitTrue m) (IsLitTrue (model_of s m)) clause
    (λ l c p. (signed_says l.positive (atom_truth m l.atom) (IsAtomTrue (model_of s m) l.atom)
    (model_says s m g l.atom (All-contains (λ k. IsInRange s k.atom) clause l r c))).true_is p) h
