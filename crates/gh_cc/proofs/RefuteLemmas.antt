-- Clauses against clashes.
use Rattle.std.proofs.Common.{◌≡◌, ◌≢◌, inl, inr, ℕ, Bool, true, false, not, eqb, List, [], ◌∷◌, ◌++◌, All, refl, sym}
use Rattle.std.proofs.Common.{ap, ◌∙◌, subst, arith, append_assoc}
use Rattle.std.specs.Prelude.{Contains}
use Rattle.std.proofs.lemmas.Bool.{eq-eqb}
use Rattle.std.proofs.lemmas.List.Elements.{All-append, All-cons, All-contains, All-weaker}
use Rattle.gh_base.specs.declared.atom.Term.{Term}
use Rattle.gh_base.specs.declared.atom.Atom.TheVariants.{Eq, Btwn, Hop}
use Rattle.gh_base.specs.declared.atom.Lit.{Lit}
use Rattle.gh_base.specs.declared.sizes.Sizes.{Sizes}
use Rattle.gh_base.specs.Atoms.{opposite, IsInRange}
use Rattle.gh_base.specs.Meaning.{Interpretation, IsCongruence, IsClauseTrue, atom_truth, under}
use Rattle.gh_base.proofs.UnitLemmas.{true_or_false, truth_of_opposite}
use Rattle.gh_cc.specs.declared.partition.Link.{Link}
use Rattle.gh_cc.specs.Partitions.{Merged, equality_of, ExplainsMore}
use Rattle.gh_cc.specs.Asserted.{equality, IsConflict}
use Rattle.gh_cc.specs.Kept.{at, normal, AreLinked, ExplainsAtoms}
use Rattle.gh_cc.proofs.ExplainLemmas.{IsLitFalse, IsLinkNegated, All-front, All-back}

pub btwn_parts : (r : ℕ → ℕ) (v w : ℕ) (x y z p q t : Term) → normal r (Btwn v x y z) ≡ normal r (Btwn w p q t)
    → (v ≡ w) × (r x.0 ≡ r p.0) × (r y.0 ≡ r q.0) × (r z.0 ≡ r t.0)
btwn_parts r v w x y z p q t e =
    let f : Btwn v (at r x) (at r y) (at r z) ≡ Btwn w (at r p) (at r q) (at r t) = e in (
      cc f,
      ap (λ (u : Term). u.0) (let g : at r x ≡ at r p = cc f in g),
      ap (λ (u : Term). u.0) (let g : at r y ≡ at r q = cc f in g),
      ap (λ (u : Term). u.0) (let g : at r z ≡ at r t = cc f in g),
    )

pub hop_parts : (r : ℕ → ℕ) (v w : ℕ) (x y p q : Term) → normal r (Hop v x y) ≡ normal r (Hop w p q)
    → (v ≡ w) × (r x.0 ≡ r p.0) × (r y.0 ≡ r q.0)
hop_parts r v w x y p q e =
    let f : Hop v (at r x) (at r y) ≡ Hop w (at r p) (at r q) = e in (
      cc f,
      ap (λ (u : Term). u.0) (let g : at r x ≡ at r p = cc f in g),
      ap (λ (u : Term). u.0) (let g : at r y ≡ at r q = cc f in g),
    )

pub explains_hop : (s : Sizes) (links : List Link) (v : ℕ) (x y p q : Term) (old mid new : List Lit)
    → IsInRange s (Hop v x y) → IsInRange s (Hop v p q)
    → ExplainsMore links x p old mid → ExplainsMore links y q mid new
    → ExplainsAtoms s links (Hop v x y) (Hop v p q) old new
explains_hop s links v x y p q old mid new a b f g = record {
  added = f.added ++ g.added;
  more = g.more ∙ ap (λ (c : List Lit). c ++ g.added) f.more ∙ append_assoc old f.added g.added;
  negated = All-append (IsLinkNegated links) f.added g.added f.explains.negated g.explains.negated;
  agrees = λ m congruence all.
      congruence.hop v x y p q a b (f.explains.joins m (All-front (IsLitFalse m) f.added g.added all))
      (g.explains.joins m (All-back (IsLitFalse m) f.added g.added all));
}

pub explains_btwn : (s : Sizes) (links : List Link) (v : ℕ) (x y z p q t : Term) (old one two new : List Lit)
    → IsInRange s (Btwn v x y z) → IsInRange s (Btwn v p q t)
    → ExplainsMore links x p old one → ExplainsMore links y q one two → ExplainsMore links z t two new
    → ExplainsAtoms s links (Btwn v x y z) (Btwn v p q t) old new
explains_btwn s links v x y z p q t old one two new a b f g h = record {
  added = (f.added ++ g.added) ++ h.added;
  more = h.more ∙ ap (λ (c : List Lit). c ++ h.added) (g.more ∙ ap (λ (c : List Lit). c ++ g.added) f.more
      ∙ append_assoc old f.added g.added) ∙ append_assoc old (f.added ++ g.added) h.added;
  negated = All-append (IsLinkNegated links) (f.added ++ g.added) h.added
      (All-append (IsLinkNegated links) f.added g.added f.explains.negated g.explains.negated) h.explains.negated;
  agrees = λ m congruence all.
      let front = All-front (IsLitFalse m) (f.added ++ g.added) h.added all in
      congruence.btwn v x y z p q t a b
      (f.explains.joins m (All-front (IsLitFalse m) f.added g.added front))
      (g.explains.joins m (All-back (IsLitFalse m) f.added g.added front))
      (h.explains.joins m (All-back (IsLitFalse m) (f.added ++ g.added) h.added all));
}

not_not : (b : Bool) → not (not b) ≡ b
not_not true = refl
not_not false = refl

pub opposite_twice : (l : Lit) → opposite (opposite l) ≡ l
opposite_twice l = ap (λ (b : Bool). let k : Lit = record { atom = l.atom; positive = b } in k) (not_not l.positive)

-- negated equalities of links are in range, and negate asserted literals
abbrev Serves : Sizes → List Lit → Lit → Type 0
Serves s lits l = IsInRange s l.atom × Contains lits (opposite l)

pub negated_serves : (s : Sizes) (lits : List Lit) (p : Merged) (l : Lit) → AreLinked s lits p → IsLinkNegated p.links l
    → Serves s lits l
negated_serves s lits p l t w =
    let there = t.linked w.0 w.1 in
    let inside : IsInRange s (equality_of w.0).atom =
    All-contains (λ (k : Lit). IsInRange s k.atom) lits (equality_of w.0) t.in_range there in
    subst (Serves s lits) (sym w.2) (inside, there)

-- what refutes each interpretation in which its literals are false follows
conflict_from : (s : Sizes) (lits clause : List Lit) → All (Serves s lits) clause
    → ((m : Interpretation) → IsCongruence s m → All (IsLitFalse m) clause → ⊥)
    → IsConflict (record { sizes = s; lits = lits }) clause
conflict_from s lits clause serves refutes = record {
  follows = record {
    in_range = λ k d h. (serves k d h).0;
    follows = λ m congruence. elim (true_or_false m clause) as (λ _. IsClauseTrue m clause) [
      | inl t ↦ t
      | inr none ↦
          absurd (refutes m congruence none)
    ];
  };
  refuted = λ k d h. (serves k d h).1;
}

pub unequal_conflict : (s : Sizes) (lits : List Lit) (p : Merged) (a b : Term) (start clause : List Lit)
    → AreLinked s lits p → Contains lits (record { atom = Eq a b; positive = false })
    → start ≡ equality a b ∷ [] → ExplainsMore p.links a b start clause
    → IsConflict (record { sizes = s; lits = lits }) clause
unequal_conflict s lits p a b start clause t there begun f =
    let l = equality a b in
    let whole : clause ≡ l ∷ f.added = f.more ∙ ap (λ (c : List Lit). c ++ f.added) begun in
    let inside : IsInRange s (Eq a b) =
    All-contains (λ (k : Lit). IsInRange s k.atom) lits (record { atom = Eq a b; positive = false }) t.in_range there in
    let serves : All (Serves s lits) (l ∷ f.added) =
    All-cons (Serves s lits) l f.added (inside, there)
    (All-weaker (IsLinkNegated p.links) (Serves s lits)
    (λ k. negated_serves s lits p k t) f.added f.explains.negated) in
    subst (λ (c : List Lit). IsConflict (record { sizes = s; lits = lits }) c) (sym whole)
    (conflict_from s lits (l ∷ f.added) serves (λ m congruence none.
    let head : eqb (m.class a.0) (m.class b.0) ≡ false = none 0 l (omega arith) in
    let same : m.class a.0 ≡ m.class b.0 = f.explains.joins m (All-back (IsLitFalse m) (l ∷ []) f.added none) in
    let yes_equal = eq-eqb (m.class a.0) (m.class b.0) same in cc))

signs_same : (p q t : Bool) → not (under p t) ≡ false → not (under q t) ≡ false → p ≡ q
signs_same true true t e f = refl
signs_same false false t e f = refl
signs_same true false true e f = cc
signs_same true false false e f = cc
signs_same false true true e f = cc
signs_same false true false e f = cc

pub opposite_conflict : (s : Sizes) (lits : List Lit) (p : Merged) (l k : Lit) (start clause : List Lit)
    → AreLinked s lits p → Contains lits l → Contains lits k
    → l.positive ≢ k.positive → start ≡ opposite l ∷ opposite k ∷ []
    → ExplainsAtoms s p.links l.atom k.atom start clause → IsConflict (record { sizes = s; lits = lits }) clause
opposite_conflict s lits p l k start clause t there there' differ begun f =
    let whole : clause ≡ opposite l ∷ opposite k ∷ f.added = f.more ∙ ap (λ (c : List Lit). c ++ f.added) begun in
    let range : (x : Lit) → Contains lits x → IsInRange s x.atom =
    λ x w. All-contains (λ (y : Lit). IsInRange s y.atom) lits x t.in_range w in
    let one : Serves s lits (opposite l) = (range l there, subst (Contains lits) (sym (opposite_twice l)) there) in
    let other : Serves s lits (opposite k) = (range k there', subst (Contains lits) (sym (opposite_twice k)) there') in
    let serves : All (Serves s lits) (opposite l ∷ opposite k ∷ f.added) =
    All-cons (Serves s lits) (opposite l) (opposite k ∷ f.added) one
    (All-cons (Serves s lits) (opposite k) f.added other
    (All-weaker (IsLinkNegated p.links) (Serves s lits) (λ j. negated_serves s lits p j t) f.added f.negated)) in
    subst (λ (c : List Lit). IsConflict (record { sizes = s; lits = lits }) c) (sym whole)
    (conflict_from s lits (opposite l ∷ opposite k ∷ f.added) serves (λ m congruence none.
    let same : atom_truth m l.atom ≡ atom_truth m k.atom =
    f.agrees m congruence (All-back (IsLitFalse m) (opposite l ∷ opposite k ∷ []) f.added none) in
    let first : not (under l.positive (atom_truth m l.atom)) ≡ false = sym (truth_of_opposite m l)
    ∙ none 0 (opposite l) (omega arith) in
    let second : not (under k.positive (atom_truth m k.atom)) ≡ false = sym (truth_of_opposite m k)
    ∙ none 1 (opposite k) (omega arith) in
    differ (signs_same l.positive k.positive (atom_truth m l.atom) first
    (ap (λ (b : Bool). not (under k.positive b)) same ∙ second))))
