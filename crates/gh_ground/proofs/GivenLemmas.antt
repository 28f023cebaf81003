-- Tables of the atoms that literals give.
use Rattle.std.proofs.Common.{◌≡◌, ◌≢◌, ◌⊎◌, inl, inr, ℕ, ◌+◌, true, false, List, [], ◌∷◌, ◌++◌, All, length, refl, sym}
use Rattle.std.proofs.Common.{ap, ◌∙◌, subst, arith}
use Rattle.std.specs.Prelude.{◌↔◌}
use Rattle.std.proofs.lemmas.Bool.{cases_eq, cases_lt}
use Rattle.std.proofs.lemmas.List.{get_or_past, length_push}
use Rattle.std.proofs.lemmas.List.Elements.{Contains-push_cases, Contains-append_left}
use Rattle.gh_base.specs.declared.atom.Term.{Term}
use Rattle.gh_base.specs.declared.atom.Atom.{Atom}
use Rattle.gh_base.specs.declared.atom.Atom.TheVariants.{Eq, Btwn, Hop, Alloc, Def}
use Rattle.gh_base.specs.declared.atom.Lit.{Lit}
use Rattle.gh_base.specs.declared.sizes.Sizes.{Sizes}
use Rattle.gh_base.specs.Atoms.{IsInRange, number_of}
use Rattle.gh_base.specs.Meaning.{atom_truth}
use Rattle.gh_base.specs.Structures.{Tables, class_at, interpretation_of, IsEquality, ChangesTruth}
use Rattle.gh_base.proofs.NumberLemmas.{apart}
use Rattle.gh_cc.specs.Kept.{normal, IsRelation}
use Rattle.gh_cc.specs.Partials.{IsGiven, IsStructureOf}
use Rattle.gh_cc.proofs.PartialLemmas.{not_both}
use Rattle.gh_cc.proofs.RefuteLemmas.{btwn_parts, hop_parts}
use Rattle.gh_ground.specs.Making.{AreClassesOf, truth_in, Sort, IsAtom, IsOfFirst, IsOfClass, IsLike, MakesTrue}
use Rattle.gh_ground.specs.Making.{AreGiven}
use Rattle.gh_ground.proofs.ClassLemmas.{equal_is, get_end}

table_is : (t : Tables) (a : Atom) → IsRelation a → atom_truth (interpretation_of t) a ≡ truth_in t a
table_is t (Eq p q) h = absurd h
table_is t (Btwn v x y z) h = refl
table_is t (Hop v x y) h = refl
table_is t (Alloc v x) h = refl
table_is t (Def k) h = refl

pub relation_of : (a : Atom) → (IsEquality a → ⊥) → IsRelation a
relation_of (Eq p q) h = absurd (h tt)
relation_of (Btwn v x y z) h = tt
relation_of (Hop v x y) h = tt
relation_of (Alloc v x) h = tt
relation_of (Def k) h = tt

pub equality_not : (a : Atom) → IsRelation a → IsEquality a → ⊥
equality_not (Eq p q) h e = h
equality_not (Btwn v x y z) h e = e
equality_not (Hop v x y) h e = e
equality_not (Alloc v x) h e = e
equality_not (Def k) h e = e

-- one atom is set
pub give_one : (old new : Tables) (b : Atom) → IsRelation b → IsInRange old.sizes b → ChangesTruth old new b true
    → MakesTrue (IsAtom b) old new
give_one old new b r' inside c = record {
  sizes = c.sizes;
  classes = c.classes;
  truths =
      λ a r h. elim (cases_eq (number_of old.sizes a) (number_of old.sizes b)) as
      (λ _. (truth_in new a ≡ true) ↔ ((truth_in old a ≡ true) ⊎ IsAtom b old.sizes old.classes a)) [
        | inl same ↦
            let e : a ≡ b = apart old.sizes a b h inside same in
            (λ _. inr e, λ _. ap (truth_in new) e ∙ sym (table_is new b r') ∙ c.changed)
        | inr differ ↦
            let ne : a ≢ b = λ e. differ (ap (number_of old.sizes) e) in
            let keeps : truth_in new a ≡ truth_in old a = sym (table_is new a r) ∙ c.others a h ne ∙ table_is old a r in (
              λ w. inl (sym keeps ∙ w),
              λ w. elim w as (λ _. truth_in new a ≡ true) [ inl was ↦ keeps ∙ was | inr e ↦ absurd (ne e) ],
            )
      ];
}

-- a loop over the terms: at its begin, a turn, and at its end
pub up_to_none : (x : Term) (P : Term → Sort) (t : Tables) → MakesTrue (IsOfFirst 0 x P) t t
up_to_none x P t = record {
  sizes = refl;
  classes = refl;
  truths = λ a r h. (
    λ w. inl w,
    λ w. elim w as (λ _. truth_in t a ≡ true) [ inl was ↦ was | inr u ↦ let lt = u.below in absurd (omega arith) ],
  );
}

up_more : (i : ℕ) (x : Term) (P : Term → Sort) (s : Sizes) (cs : List Term) (a : Atom) → IsOfFirst i x P s cs a
    → IsOfFirst (i + 1) x P s cs a
up_more i x P s cs a u = record { term = u.term; below = let lt = u.below in omega arith; same = u.same; is = u.is }

pub up_to_other : (i : ℕ) (x : Term) (P : Term → Sort) (old t : Tables)
    → (class_at t.classes i ≡ class_at t.classes x.0 → ⊥) → MakesTrue (IsOfFirst i x P) old t
    → MakesTrue (IsOfFirst (i + 1) x P) old t
up_to_other i x P old t ne g = record {
  sizes = g.sizes;
  classes = g.classes;
  truths = λ a r h. let w = g.truths a r h in (
    λ e. elim (w.0 e) as (λ _. (truth_in old a ≡ true) ⊎ IsOfFirst (i + 1) x P old.sizes old.classes a)
        [ inl was ↦ inl was | inr u ↦ inr (up_more i x P old.sizes old.classes a u) ],
    λ e. elim e as (λ _. truth_in t a ≡ true) [
      | inl was ↦ w.1 (inl was)
      | inr u ↦ elim (cases_lt u.term.0 i) as (λ _. truth_in t a ≡ true) [
        | inl lt ↦ w.1 (inr (record { term = u.term; below = lt; same = u.same; is = u.is }))
        | inr ge ↦
            let lt = u.below in
            let last : u.term.0 ≡ i = omega arith in
            let f : class_at t.classes ≡ class_at old.classes = ap class_at g.classes in
            absurd (ne (ap (class_at t.classes) (sym last) ∙ ap (λ (k : ℕ → ℕ). k u.term.0) f ∙ u.same
            ∙ ap (λ (k : ℕ → ℕ). k x.0) (sym f)))
      ]
    ],
  );
}

pub up_to_one : (i : ℕ) (x y : Term) (P : Term → Sort) (old t new : Tables) → y.0 ≡ i
    → class_at t.classes y.0 ≡ class_at t.classes x.0 → MakesTrue (P y) t new → MakesTrue (IsOfFirst i x P) old t
    → MakesTrue (IsOfFirst (i + 1) x P) old new
up_to_one i x y P old t new at same step g = record {
  sizes = step.sizes ∙ g.sizes;
  classes = step.classes ∙ g.classes;
  truths = λ a r h.
      let w = g.truths a r h in
      let here : IsInRange t.sizes a = subst (λ (z : Sizes). IsInRange z a) (sym g.sizes) h in
      let v = step.truths a r here in
      let f : class_at t.classes ≡ class_at old.classes = ap class_at g.classes in
      let same' : class_at old.classes y.0 ≡ class_at old.classes x.0 =
      ap (λ (k : ℕ → ℕ). k y.0) (sym f) ∙ same ∙ ap (λ (k : ℕ → ℕ). k x.0) f in
      let moved : P y t.sizes t.classes a ≡ P y old.sizes old.classes a = λ j. P y (g.sizes j) (g.classes j) a in (
        λ e. elim (v.0 e) as (λ _. (truth_in old a ≡ true) ⊎ IsOfFirst (i + 1) x P old.sizes old.classes a) [
          | inl was ↦ elim (w.0 was) as (λ _. (truth_in old a ≡ true) ⊎ IsOfFirst (i + 1) x P old.sizes old.classes a) [
            | inl first ↦ inl first
            | inr u ↦ inr (up_more i x P old.sizes old.classes a u)
          ]
          | inr holds ↦ inr (record {
            term = y;
            below = omega arith;
            same = same';
            is = subst (λ (z : Sizes). P y z old.classes a) g.sizes
                (subst (λ (cs : List Term). P y t.sizes cs a) g.classes holds);
          })
        ],
        λ e. elim e as (λ _. truth_in new a ≡ true) [
          | inl first ↦ v.1 (inl (w.1 (inl first)))
          | inr u ↦ elim (cases_lt u.term.0 i) as (λ _. truth_in new a ≡ true) [
            | inl lt ↦ v.1 (inl (w.1 (inr (record { term = u.term; below = lt; same = u.same; is = u.is }))))
            | inr ge ↦
                let lt = u.below in
                let last : u.term.0 ≡ y.0 = omega arith in
                let one : u.term ≡ y = λ j. record { 0 = last j } in
                let holds : P y old.sizes old.classes a = subst (λ (z : Term). P z old.sizes old.classes a) one u.is in
                v.1 (inr (subst (λ (z : Sizes). P y z t.classes a) (sym g.sizes)
                (subst (λ (cs : List Term). P y old.sizes cs a) (sym g.classes) holds)))
          ]
        ],
      );
}

pub up_to_all : (n : ℕ) (x : Term) (P : Term → Sort) (old new : Tables) → n ≡ old.sizes.terms
    → MakesTrue (IsOfFirst n x P) old new → MakesTrue (IsOfClass x P) old new
up_to_all n x P old new e g = record {
  sizes = g.sizes;
  classes = g.classes;
  truths = λ a r h. subst (λ (k : ℕ). (truth_in new a ≡ true)
      ↔ ((truth_in old a ≡ true) ⊎ IsOfFirst k x P old.sizes old.classes a)) e (g.truths a r h);
}

-- all atoms over terms of the same classes
exchanged : (P Q : Sort) (old new : Tables) → MakesTrue P old new
    → ((a : Atom) → IsRelation a → IsInRange old.sizes a → P old.sizes old.classes a ↔ Q old.sizes old.classes a)
    → MakesTrue Q old new
exchanged P Q old new g f = record {
  sizes = g.sizes;
  classes = g.classes;
  truths = λ a r h.
      let w = g.truths a r h in
      let both = f a r h in (
        λ e. elim (w.0 e) as (λ _. (truth_in old a ≡ true) ⊎ Q old.sizes old.classes a)
            [ inl was ↦ inl was | inr holds ↦ inr (both.0 holds) ],
        λ e. elim e as (λ _. truth_in new a ≡ true) [ inl was ↦ w.1 (inl was) | inr holds ↦ w.1 (inr (both.1 holds)) ],
      );
}

abbrev pub AllocOver : ℕ → Term → Sort
AllocOver v x = IsOfClass x (λ t. IsAtom (Alloc v t))

abbrev pub HopOver : ℕ → Term → Term → Sort
HopOver v x y = IsOfClass x (λ t. IsOfClass y (λ u. IsAtom (Hop v t u)))

abbrev pub BtwnOver : ℕ → Term → Term → Term → Sort
BtwnOver v x y z = IsOfClass x (λ t. IsOfClass y (λ u. IsOfClass z (λ w. IsAtom (Btwn v t u w))))

alloc_like : (s : Sizes) (cs : List Term) (v : ℕ) (x : Term) (a : Atom) → AllocOver v x s cs a
    → IsLike (Alloc v x) s cs a
alloc_like s cs v x a w =
    let e = w.same in
    subst (λ (b : Atom). IsLike (Alloc v x) s cs b) (sym w.is) (λ i. Alloc v (record { 0 = sym e i }))

hop_like : (s : Sizes) (cs : List Term) (v : ℕ) (x y : Term) (a : Atom) → HopOver v x y s cs a
    → IsLike (Hop v x y) s cs a
hop_like s cs v x y a w =
    let e = sym w.same in
    let f = sym w.is.same in
    subst (λ (b : Atom). IsLike (Hop v x y) s cs b) (sym w.is.is) (λ i. Hop v (record { 0 = e i }) (record { 0 = f i }))

btwn_like : (s : Sizes) (cs : List Term) (v : ℕ) (x y z : Term) (a : Atom) → BtwnOver v x y z s cs a
    → IsLike (Btwn v x y z) s cs a
btwn_like s cs v x y z a w =
    let e = sym w.same in
    let f = sym w.is.same in
    let g = sym w.is.is.same in
    subst (λ (b : Atom). IsLike (Btwn v x y z) s cs b) (sym w.is.is.is)
    (λ i. Btwn v (record { 0 = e i }) (record { 0 = f i }) (record { 0 = g i }))

alloc_parts : (r : ℕ → ℕ) (v w : ℕ) (x p : Term) → normal r (Alloc v x) ≡ normal r (Alloc w p)
    → (v ≡ w) × (r x.0 ≡ r p.0)
alloc_parts r v w x p e = let f : Alloc v (record { 0 = r x.0 }) ≡ Alloc w (record { 0 = r p.0 }) = e in (
  cc f,
  ap (λ (u : Term). u.0)
      (let g : (let t : Term = record { 0 = r x.0 } in t) ≡ record { 0 = r p.0 } = cc f in g),
)

alloc_back : (s : Sizes) (cs : List Term) (v : ℕ) (x : Term) (a : Atom) → IsInRange s a → IsLike (Alloc v x) s cs a
    → AllocOver v x s cs a
alloc_back s cs v x (Alloc w p) h e =
    let f = alloc_parts (class_at cs) v w x p e in
    record { term = p; below = h.1; same = sym f.1; is = ap (λ (u : ℕ). Alloc u p) (sym f.0) }
alloc_back s cs v x a h e = cc

hop_back : (s : Sizes) (cs : List Term) (v : ℕ) (x y : Term) (a : Atom) → IsInRange s a → IsLike (Hop v x y) s cs a
    → HopOver v x y s cs a
hop_back s cs v x y (Hop w p q) h e =
    let f = hop_parts (class_at cs) v w x y p q e in
    record {
      term = p;
      below = h.1;
      same = sym f.1;
      is = record { term = q; below = h.2; same = sym f.2; is = ap (λ (u : ℕ). Hop u p q) (sym f.0) };
    }
hop_back s cs v x y a h e = cc

btwn_back : (s : Sizes) (cs : List Term) (v : ℕ) (x y z : Term) (a : Atom) → IsInRange s a
    → IsLike (Btwn v x y z) s cs a → BtwnOver v x y z s cs a
btwn_back s cs v x y z (Btwn w p q t) h e =
    let f = btwn_parts (class_at cs) v w x y z p q t e in
    record {
      term = p;
      below = h.1;
      same = sym f.1;
      is = record {
        term = q;
        below = h.2;
        same = sym f.2;
        is = record { term = t; below = h.3; same = sym f.3; is = ap (λ (u : ℕ). Btwn u p q t) (sym f.0) };
      };
    }
btwn_back s cs v x y z a h e = cc

def_back : (s : Sizes) (cs : List Term) (k : ℕ) (a : Atom) → IsLike (Def k) s cs a → a ≡ Def k
def_back s cs k (Def j) e = sym e
def_back s cs k a e = cc

pub like_alloc : (v : ℕ) (x : Term) (old new : Tables) → MakesTrue (AllocOver v x) old new
    → MakesTrue (IsLike (Alloc v x)) old new
like_alloc v x old new g =
    exchanged (AllocOver v x) (IsLike (Alloc v x)) old new g
    (λ a r h. (alloc_like old.sizes old.classes v x a, alloc_back old.sizes old.classes v x a h))

pub like_hop : (v : ℕ) (x y : Term) (old new : Tables) → MakesTrue (HopOver v x y) old new
    → MakesTrue (IsLike (Hop v x y)) old new
like_hop v x y old new g =
    exchanged (HopOver v x y) (IsLike (Hop v x y)) old new g
    (λ a r h. (hop_like old.sizes old.classes v x y a, hop_back old.sizes old.classes v x y a h))

pub like_btwn : (v : ℕ) (x y z : Term) (old new : Tables) → MakesTrue (BtwnOver v x y z) old new
    → MakesTrue (IsLike (Btwn v x y z)) old new
like_btwn v x y z old new g =
    exchanged (BtwnOver v x y z) (IsLike (Btwn v x y z)) old new g
    (λ a r h. (btwn_like old.sizes old.classes v x y z a, btwn_back old.sizes old.classes v x y z a h))

pub like_def : (k : ℕ) (old new : Tables) → MakesTrue (IsAtom (Def k)) old new → MakesTrue (IsLike (Def k)) old new
like_def k old new g =
    exchanged (IsAtom (Def k)) (IsLike (Def k)) old new g
    (λ a r h. (λ e. ap (normal (class_at old.classes)) (sym e), def_back old.sizes old.classes k a))

-- a literal more
given_before : (t : Tables) (lits : List Lit) (l : Lit) (a : Atom) → IsGiven (interpretation_of t) lits a
    → IsGiven (interpretation_of t) (lits ++ l ∷ []) a
given_before t lits l a w =
    record {
      lit = w.lit;
      there = Contains-append_left lits (l ∷ []) w.lit w.there;
      positive = w.positive;
      same = w.same;
    }

given_last : (t : Tables) (lits : List Lit) (l : Lit) (a : Atom) → IsGiven (interpretation_of t) (lits ++ l ∷ []) a
    → IsGiven (interpretation_of t) lits a
    ⊎ ((l.positive ≡ true) × (normal (class_at t.classes) l.atom ≡ normal (class_at t.classes) a))
given_last t lits l a w =
    elim (Contains-push_cases lits l w.lit w.there) as
    (λ _. IsGiven (interpretation_of t) lits a
    ⊎ ((l.positive ≡ true) × (normal (class_at t.classes) l.atom ≡ normal (class_at t.classes) a))) [
      | inl before ↦ inl (record { lit = w.lit; there = before; positive = w.positive; same = w.same })
      | inr last ↦ inr (
        ap (λ (k : Lit). k.positive) last ∙ w.positive,
        ap (λ (k : Lit). normal (class_at t.classes) k.atom) last ∙ w.same,
      )
    ]

relation_back : (r : ℕ → ℕ) (a b : Atom) → IsRelation b → normal r a ≡ normal r b → IsRelation a
relation_back r (Eq p q) (Eq x y) h e = h
relation_back r (Eq p q) b h e = cc
relation_back r (Btwn v x y z) b h e = tt
relation_back r (Hop v x y) b h e = tt
relation_back r (Alloc v x) b h e = tt
relation_back r (Def k) b h e = tt

-- one that gives nothing more
given_nothing : (lits : List Lit) (l : Lit) (t : Tables)
    → (l.positive ≡ true → IsRelation l.atom → (a : Atom) → IsRelation a → IsInRange t.sizes a
    → normal (class_at t.classes) l.atom ≡ normal (class_at t.classes) a → truth_in t a ≡ true)
    → AreGiven lits t → AreGiven (lits ++ l ∷ []) t
given_nothing lits l t none h a r inside = (
  λ w. given_before t lits l a ((h a r inside).0 w),
  λ w. elim (given_last t lits l a w) as (λ _. truth_in t a ≡ true) [
    | inl old ↦ (h a r inside).1 old
    | inr last ↦ none last.0 (relation_back (class_at t.classes) l.atom a r last.1) a r inside last.1
  ],
)

pub given_negative : (lits : List Lit) (l : Lit) (t : Tables) → l.positive ≡ false → AreGiven lits t
    → AreGiven (lits ++ l ∷ []) t
given_negative lits l t e h = given_nothing lits l t (λ f _. absurd (not_both l.positive f e)) h

pub given_equality : (lits : List Lit) (l : Lit) (t : Tables) → (IsRelation l.atom → ⊥) → AreGiven lits t
    → AreGiven (lits ++ l ∷ []) t
given_equality lits l t e h = given_nothing lits l t (λ _ f. absurd (e f)) h

pub given_already : (lits : List Lit) (l : Lit) (t : Tables) → IsInRange t.sizes l.atom
    → atom_truth (interpretation_of t) l.atom ≡ true → AreGiven lits t → AreGiven (lits ++ l ∷ []) t
given_already lits l t within e h = given_nothing lits l t (λ _ r a r' inside same.
    let g = (h l.atom r within).0 (sym (table_is t l.atom r) ∙ e) in
    (h a r' inside).1 (record { lit = g.lit; there = g.there; positive = g.positive; same = g.same ∙ same })) h

given_moved : (s t : Tables) (lits : List Lit) (a : Atom) → class_at s.classes ≡ class_at t.classes
    → IsGiven (interpretation_of s) lits a → IsGiven (interpretation_of t) lits a
given_moved s t lits a e g =
    record {
      lit = g.lit;
      there = g.there;
      positive = g.positive;
      same = subst (λ (k : ℕ → ℕ). normal k g.lit.atom ≡ normal k a) e g.same;
    }

pub given_more : (lits : List Lit) (l : Lit) (old new : Tables) → l.positive ≡ true → MakesTrue (IsLike l.atom) old new
    → AreGiven lits old → AreGiven (lits ++ l ∷ []) new
given_more lits l old new positive g h a r inside =
    let here : IsInRange old.sizes a = subst (λ (z : Sizes). IsInRange z a) g.sizes inside in
    let w = g.truths a r here in
    let v = h a r here in
    let f : class_at new.classes ≡ class_at old.classes = ap class_at g.classes in (
      λ e. given_moved old new (lits ++ l ∷ []) a (sym f)
          (elim (w.0 e) as (λ _. IsGiven (interpretation_of old) (lits ++ l ∷ []) a) [
            | inl was ↦ given_before old lits l a (v.0 was)
            | inr like ↦ record {
              lit = l;
              there = (length lits, omega (arith, length_push lits l), get_end lits l l);
              positive = positive;
              same = like;
            }
          ]),
      λ e. elim (given_last old lits l a (given_moved new old (lits ++ l ∷ []) a f e)) as (λ _. truth_in new a ≡ true) [
        | inl before ↦ w.1 (inl (v.1 before))
        | inr last ↦ w.1 (inr last.1)
      ],
    )

pub given_first : (t : Tables) → All (λ truth. truth ≡ false) t.table → AreGiven [] t
given_first t none a r inside = (
  λ w. absurd (elim (cases_lt (number_of t.sizes a) (length t.table)) as (λ _. ⊥) [
    | inl lt ↦ not_both (truth_in t a) w (none (number_of t.sizes a) false lt)
    | inr ge ↦ not_both (truth_in t a) w (get_or_past t.table (number_of t.sizes a) false ge)
  ]),
  λ w. let lt = w.there.1 in absurd (omega arith),
)

-- all parts together
pub structure_is : (s : Sizes) (lits : List Lit) (t : Tables) → t.sizes ≡ s → AreClassesOf s.terms lits t.classes
    → AreGiven lits t → IsStructureOf s lits (interpretation_of t)
structure_is s lits t sizes classes given = record {
  equal = λ a b _ _. equal_is s lits t.classes a b classes;
  holds = λ a r h. given a r (subst (λ (z : Sizes). IsInRange z a) (sym sizes) h);
}

-- the numbers of a structure that was made of classes
pub sizes_are : (s made : Sizes) (n : ℕ) → made ≡ (record { terms = n; versions = s.versions; defs = s.defs })
    → n ≡ s.terms → made ≡ s
sizes_are s made n e long = e ∙ (λ i. record { terms = long i; versions = s.versions; defs = s.defs })
