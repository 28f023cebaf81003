-- The structure of asserted literals.
use Rattle.std.proofs.Common.{◌≡◌, ◌≢◌, ◌⊎◌, inl, inr, ℕ, suc, ◌<◌, Bool, true, false, not, List, [], ◌∷◌, All, get_or}
use Rattle.std.proofs.Common.{refl, sym, ap, ◌∙◌, subst, arith}
use Rattle.std.specs.Prelude.{Contains, nat_eq}
use Rattle.std.proofs.lemmas.Bool.{eq-eqb, ne_eqb, eqb-true}
use Rattle.std.proofs.lemmas.List.Elements.{All-contains, Contains-get_or}
use Rattle.gh_base.specs.declared.atom.Term.{Term}
use Rattle.gh_base.specs.declared.atom.Atom.{Atom}
use Rattle.gh_base.specs.declared.atom.Atom.TheVariants.{Eq, Btwn, Hop, Alloc, Def}
use Rattle.gh_base.specs.declared.atom.Lit.{Lit}
use Rattle.gh_base.specs.declared.sizes.Sizes.{Sizes}
use Rattle.gh_base.specs.Atoms.{opposite, IsInRange, AreInRange, number_of}
use Rattle.gh_base.specs.Meaning.{Interpretation, IsCongruence, IsLitTrue, atom_truth, lit_truth, under}
use Rattle.gh_cc.specs.Asserted.{EqualitiesHold, IsConsistent, equality}
use Rattle.gh_cc.specs.Kept.{at, normal, IsRelation}
use Rattle.gh_cc.proofs.RefuteLemmas.{btwn_parts, hop_parts}
use Rattle.gh_cc.specs.Partials.{IsGiven, IsStructureOf}
use Rattle.gh_cc.specs.Laws.{AreCongruences, AreAssertedTrue, AreAlike, AreLeastEnough}

pub two_values : (b : Bool) → (b ≡ true) ⊎ (b ≡ false)
two_values true = inl refl
two_values false = inr refl

pub not_both : (b : Bool) → b ≡ true → b ≡ false → ⊥
not_both true e f = cc
not_both false e f = cc

pub bool_same : (a b : Bool) → (a ≡ true → b ≡ true) → (b ≡ true → a ≡ true) → a ≡ b
bool_same true b f g = sym (f refl)
bool_same false true f g = g refl
bool_same false false f g = refl

-- what is given depends on classes alone
given_same : (m : Interpretation) (lits : List Lit) (a b : Atom) → normal m.class a ≡ normal m.class b
    → IsGiven m lits a → IsGiven m lits b
given_same m lits a b e g = record { lit = g.lit; there = g.there; positive = g.positive; same = g.same ∙ e }

table_same : (s : Sizes) (lits : List Lit) (m : Interpretation) (a b : Atom) → IsStructureOf s lits m → IsRelation a
    → IsRelation b → IsInRange s a → IsInRange s b → normal m.class a ≡ normal m.class b → m.table a ≡ m.table b
table_same s lits m a b st r q h k e =
    bool_same (m.table a) (m.table b)
    (λ w. (st.holds b q k).1 (given_same m lits a b e ((st.holds a r h).0 w)))
    (λ w. (st.holds a r h).1 (given_same m lits b a (sym e) ((st.holds b q k).0 w)))

pub are_congruences : AreCongruences
are_congruences s lits m st = record {
  btwn = λ v x y z p q t h k e f g.
      let n : normal m.class (Btwn v x y z) ≡ normal m.class (Btwn v p q t) =
      λ i. Btwn v (record { 0 = e i }) (record { 0 = f i }) (record { 0 = g i }) in
      table_same s lits m (Btwn v x y z) (Btwn v p q t) st tt tt h k n;
  hop = λ v x y p q h k e f.
      let n : normal m.class (Hop v x y) ≡ normal m.class (Hop v p q) =
      λ i. Hop v (record { 0 = e i }) (record { 0 = f i }) in
      table_same s lits m (Hop v x y) (Hop v p q) st tt tt h k n;
  alloc = λ v x p h k e.
      let n : normal m.class (Alloc v x) ≡ normal m.class (Alloc v p) = λ i. Alloc v (record { 0 = e i }) in
      table_same s lits m (Alloc v x) (Alloc v p) st tt tt h k n;
}

equalities_hold : (m : Interpretation) (lits : List Lit) → All (IsLitTrue m) lits → EqualitiesHold m lits
equalities_hold m lits all a b there =
    eqb-true (m.class a.0) (m.class b.0) (All-contains (IsLitTrue m) lits (equality a b) all there)

alloc_parts : (r : ℕ → ℕ) (v w : ℕ) (x p : Term) → normal r (Alloc v x) ≡ normal r (Alloc w p)
    → (v ≡ w) × (r x.0 ≡ r p.0)
alloc_parts r v w x p e = let f : Alloc v (at r x) ≡ Alloc w (at r p) = e in
    (cc f, ap (λ (u : Term). u.0) (let g : at r x ≡ at r p = cc f in g))

-- classes of the structure are those of any interpretation in which the asserted equalities are true
module _ (s : Sizes) (lits : List Lit) (m n : Interpretation) (st : IsStructureOf s lits m)
    (congruence : IsCongruence s n) (equalities : EqualitiesHold n lits) where
  pub class_same : (a b : Term) → a.0 < s.terms → b.0 < s.terms → m.class a.0 ≡ m.class b.0 → n.class a.0 ≡ n.class b.0
  class_same a b h k e = (st.equal a b h k).0 e n congruence equalities

  pub truth_same : (a b : Atom) → IsInRange s a → IsInRange s b → normal m.class a ≡ normal m.class b
      → atom_truth n a ≡ atom_truth n b
  truth_same (Eq x y) (Eq p q) h k e = ap (atom_truth n) e
  truth_same (Btwn v x y z) (Btwn w p q t) h k e =
      let f = btwn_parts m.class v w x y z p q t e in
      let k' : IsInRange s (Btwn v p q t) = (h.0, k.1, k.2, k.3) in
      congruence.btwn v x y z p q t h k' (class_same x p h.1 k.1 f.1) (class_same y q h.2 k.2 f.2)
      (class_same z t h.3 k.3 f.3) ∙ ap (λ u. n.table (Btwn u p q t)) f.0
  truth_same (Hop v x y) (Hop w p q) h k e =
      let f = hop_parts m.class v w x y p q e in
      let k' : IsInRange s (Hop v p q) = (h.0, k.1, k.2) in
      congruence.hop v x y p q h k' (class_same x p h.1 k.1 f.1) (class_same y q h.2 k.2 f.2)
      ∙ ap (λ u. n.table (Hop u p q)) f.0
  truth_same (Alloc v x) (Alloc w p) h k e =
      let f = alloc_parts m.class v w x p e in
      let k' : IsInRange s (Alloc v p) = (h.0, k.1) in
      congruence.alloc v x p h k' (class_same x p h.1 k.1 f.1) ∙ ap (λ u. n.table (Alloc u p)) f.0
  truth_same (Def i) (Def j) h k e = ap (atom_truth n) e
  truth_same a b h k e = cc

-- a positive literal of an atom of any kind but equality
given_true : (s : Sizes) (lits : List Lit) (m : Interpretation) (a : Atom) → IsStructureOf s lits m → IsRelation a
    → IsInRange s a → Contains lits (record { atom = a; positive = true }) → m.table a ≡ true
given_true s lits m a st r h there =
    (st.holds a r h).1
    (record { lit = record { atom = a; positive = true }; there = there; positive = refl; same = refl })

module _ (s : Sizes) (lits : List Lit) (m : Interpretation) (st : IsStructureOf s lits m) (range : AreInRange s lits)
    (known : IsConsistent s lits) where
  within : (l : Lit) → Contains lits l → IsInRange s l.atom
  within l there = All-contains (λ (k : Lit). IsInRange s k.atom) lits l range there

  equalities : EqualitiesHold known.0 lits
  equalities = equalities_hold known.0 lits known.2

  stands : (l : Lit) → Contains lits l → lit_truth known.0 l ≡ true
  stands l there = All-contains (IsLitTrue known.0) lits l known.2 there

  signed : (b p : Bool) → p ≡ true → under p b ≡ true → b ≡ true
  signed b p e t = ap (λ (q : Bool). under q b) (sym e) ∙ t

  -- a negated one isn't given: its truth would be that of a positive one
  not_given : (a : Atom) → Contains lits (record { atom = a; positive = false }) → atom_truth known.0 a ≡ true → ⊥
  not_given a there e = let f : not (atom_truth known.0 a) ≡ true =
      stands (record { atom = a; positive = false }) there in not_both (not (atom_truth known.0 a)) f (ap not e)

  given_false : (a : Atom) → IsRelation a → Contains lits (record { atom = a; positive = false })
      → not (m.table a) ≡ true
  given_false a r there = elim (two_values (m.table a)) as (λ _. not (m.table a) ≡ true) [
    | inl holds ↦
        let h = within (record { atom = a; positive = false }) there in
        let g = (st.holds a r h).0 holds in
        let same = truth_same s lits m known.0 st known.1 equalities g.lit.atom a (within g.lit g.there) h g.same in
        absurd (not_given a there
        (sym same ∙ signed (atom_truth known.0 g.lit.atom) g.lit.positive g.positive (stands g.lit g.there)))
    | inr fails ↦ ap not fails
  ]

  lit_true : (a : Atom) (p : Bool) → Contains lits (record { atom = a; positive = p }) → under p (atom_truth m a) ≡ true
  lit_true (Eq a b) true there =
      let h = within (record { atom = Eq a b; positive = true }) there in
      let le = h.0 in
      let lt = h.1 in
      eq-eqb (m.class a.0) (m.class b.0) ((st.equal a b (omega arith) lt).1 (λ n _ e. e a b there))
  lit_true (Eq a b) false there =
      let h = within (record { atom = Eq a b; positive = false }) there in
      let le = h.0 in
      let lt = h.1 in
      ap not (ne_eqb (m.class a.0) (m.class b.0) (λ e.
      not_given (Eq a b) there
      (eq-eqb (known.0.class a.0) (known.0.class b.0)
      (class_same s lits m known.0 st known.1 equalities a b (omega arith) lt e))))
  lit_true (Btwn v x y z) true there =
      given_true s lits m (Btwn v x y z) st tt (within (record { atom = Btwn v x y z; positive = true }) there) there
  lit_true (Btwn v x y z) false there = given_false (Btwn v x y z) tt there
  lit_true (Hop v x y) true there =
      given_true s lits m (Hop v x y) st tt (within (record { atom = Hop v x y; positive = true }) there) there
  lit_true (Hop v x y) false there = given_false (Hop v x y) tt there
  lit_true (Alloc v x) true there =
      given_true s lits m (Alloc v x) st tt (within (record { atom = Alloc v x; positive = true }) there) there
  lit_true (Alloc v x) false there = given_false (Alloc v x) tt there
  lit_true (Def k) true there =
      given_true s lits m (Def k) st tt (within (record { atom = Def k; positive = true }) there) there
  lit_true (Def k) false there = given_false (Def k) tt there

pub are_asserted_true : AreAssertedTrue
are_asserted_true s lits m st range known k d lt = let l : Lit = get_or lits k d in
    lit_true s lits m st range known l.atom l.positive (Contains-get_or lits k d lt)

-- all structures have the same classes, and so the same atoms are given
module _ (s : Sizes) (lits : List Lit) (m n : Interpretation) (st : IsStructureOf s lits m)
    (st' : IsStructureOf s lits n) where
  class_too : (a b : Term) → a.0 < s.terms → b.0 < s.terms → m.class a.0 ≡ m.class b.0 → n.class a.0 ≡ n.class b.0
  class_too a b h k e = (st'.equal a b h k).1 ((st.equal a b h k).0 e)

  normal_too : (a b : Atom) → IsInRange s a → IsInRange s b → normal m.class a ≡ normal m.class b
      → normal n.class a ≡ normal n.class b
  normal_too (Eq x y) (Eq p q) h k e = e
  normal_too (Btwn v x y z) (Btwn w p q t) h k e =
      let f = btwn_parts m.class v w x y z p q t e in
      let of_version = f.0 in
      let of_first = class_too x p h.1 k.1 f.1 in
      let of_second = class_too y q h.2 k.2 f.2 in
      let of_third = class_too z t h.3 k.3 f.3 in
      λ i. Btwn (of_version i) (record { 0 = of_first i }) (record { 0 = of_second i }) (record { 0 = of_third i })
  normal_too (Hop v x y) (Hop w p q) h k e =
      let f = hop_parts m.class v w x y p q e in
      let of_version = f.0 in
      let of_first = class_too x p h.1 k.1 f.1 in
      let of_second = class_too y q h.2 k.2 f.2 in
      λ i. Hop (of_version i) (record { 0 = of_first i }) (record { 0 = of_second i })
  normal_too (Alloc v x) (Alloc w p) h k e =
      let f = alloc_parts m.class v w x p e in
      let of_version = f.0 in
      let of_first = class_too x p h.1 k.1 f.1 in
      λ i. Alloc (of_version i) (record { 0 = of_first i })
  normal_too (Def i) (Def j) h k e = e
  normal_too a b h k e = cc

  given_too : AreInRange s lits → (a : Atom) → IsInRange s a → IsGiven m lits a → IsGiven n lits a
  given_too range a h g =
      let inside = All-contains (λ (k : Lit). IsInRange s k.atom) lits g.lit range g.there in
      record { lit = g.lit; there = g.there; positive = g.positive; same = normal_too g.lit.atom a inside h g.same }

  holds_too : AreInRange s lits → (a : Atom) → IsRelation a → IsInRange s a → m.table a ≡ true → n.table a ≡ true
  holds_too range a r h w = (st'.holds a r h).1 (given_too range a h ((st.holds a r h).0 w))

  equal_too : (a b : Term) → a.0 < s.terms → b.0 < s.terms → nat_eq (m.class a.0) (m.class b.0) ≡ true
      → nat_eq (n.class a.0) (n.class b.0) ≡ true
  equal_too a b h k w = eq-eqb (n.class a.0) (n.class b.0) (class_too a b h k (eqb-true (m.class a.0) (m.class b.0) w))

table_alike : (s : Sizes) (lits : List Lit) (m n : Interpretation) → AreInRange s lits → IsStructureOf s lits m
    → IsStructureOf s lits n → (a : Atom) → IsRelation a → IsInRange s a → m.table a ≡ n.table a
table_alike s lits m n range st st' a r h = bool_same (m.table a) (n.table a) (holds_too s lits m n st st' range a r h)
    (holds_too s lits n m st' st range a r h)

pub are_alike : AreAlike
are_alike s lits m n range st st' (Eq a b) h =
    let le = h.0 in
    let lt = h.1 in
    let lt' : a.0 < s.terms = omega arith in
    bool_same (nat_eq (m.class a.0) (m.class b.0)) (nat_eq (n.class a.0) (n.class b.0))
    (equal_too s lits m n st st' a b lt' lt) (equal_too s lits n m st' st a b lt' lt)
are_alike s lits m n range st st' (Btwn v x y z) h = table_alike s lits m n range st st' (Btwn v x y z) tt h
are_alike s lits m n range st st' (Hop v x y) h = table_alike s lits m n range st st' (Hop v x y) tt h
are_alike s lits m n range st st' (Alloc v x) h = table_alike s lits m n range st st' (Alloc v x) tt h
are_alike s lits m n range st st' (Def k) h = table_alike s lits m n range st st' (Def k) tt h

pub are_least_enough : AreLeastEnough
are_least_enough s m r congruence h (Eq a b) inside relation = absurd relation
are_least_enough s m r congruence h (Btwn v x y z) inside relation =
    let p = h x.0 inside.1 in
    let q = h y.0 inside.2 in
    let t = h z.0 inside.3 in
    congruence.btwn v (at r x) (at r y) (at r z) x y z (inside.0, p.0, q.0, t.0) inside p.1 q.1 t.1
are_least_enough s m r congruence h (Hop v x y) inside relation =
    let p = h x.0 inside.1 in
    let q = h y.0 inside.2 in
    congruence.hop v (at r x) (at r y) x y (inside.0, p.0, q.0) inside p.1 q.1
are_least_enough s m r congruence h (Alloc v x) inside relation =
    let p = h x.0 inside.1 in
    congruence.alloc v (at r x) x (inside.0, p.0) inside p.1
are_least_enough s m r congruence h (Def k) inside relation = refl
