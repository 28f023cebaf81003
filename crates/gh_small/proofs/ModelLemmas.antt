-- Models of the bounded clauses.
use Rattle.std.proofs.Common.{◌≡◌, ℕ, List, All, nat_eq, refl, sym, ap, ◌∙◌, arith, get_or}
use Rattle.std.proofs.lemmas.List.Elements.{All-contains, All-append, All-weaker}
use Rattle.gh_base.specs.declared.atom.Atom.{Atom}
use Rattle.gh_base.specs.declared.atom.Atom.TheVariants.{Eq, Btwn, Hop, Alloc, Def}
use Rattle.gh_base.specs.declared.atom.Lit.{Lit}
use Rattle.gh_base.specs.declared.sizes.Sizes.{Sizes}
use Rattle.gh_base.specs.Atoms.{IsInRange}
use Rattle.gh_base.specs.Meaning.{Interpretation, atom_truth, under, IsClauseTrue, IsCongruence}
use Rattle.gh_small.specs.Fewer.{fewer}
use Rattle.gh_inst.specs.Instances.{instances}
use Rattle.gh_inst.specs.Violations.{IsInstanceTrue}
use Rattle.gh_grass.specs.Truth.{IsEarlier, IsOneBefore}
use Rattle.gh_model.proofs.soundness.ClauseModels.{instance_stays}
use Rattle.gh_small.specs.Laws.{BoundedIsSound, BoundedIsPossible}
use Rattle.gh_small.proofs.EachLemmas.{all_left, all_right}
use Rattle.gh_small.proofs.SoundLemmas.{sound}
use Rattle.gh_small.proofs.PossibleLemmas.{possible}

module _ (d : ℕ) (m w : Interpretation) (e : IsOneBefore d m w) where
  same_truth : (a : Atom) → IsEarlier d a → atom_truth w a ≡ atom_truth m a
  same_truth (Eq a b) h = ap (λ (f : ℕ → ℕ). nat_eq (f a.0) (f b.0)) e.class
  same_truth (Btwn v x y z) h = e.table (Btwn v x y z) h
  same_truth (Hop v x y) h = e.table (Hop v x y) h
  same_truth (Alloc v x) h = e.table (Alloc v x) h
  same_truth (Def number) h = e.table (Def number) h

  -- a clause without new definitions keeps its truth
  pub clause_kept : (c : List Lit) → All (λ l. IsEarlier d l.atom) c → IsClauseTrue m c → IsClauseTrue w c
  clause_kept c old t = (
    t.0,
    t.1,
    t.2,
    t.3,
    ap (under t.1.positive) (same_truth t.1.atom
        (All-contains (λ (l : Lit). IsEarlier d l.atom) c t.1 old (t.0, t.2, t.3))) ∙ t.4,
  )

  -- and so does a congruence
  pub congruence_kept : (s r : Sizes) → r.terms ≡ s.terms → r.versions ≡ s.versions → IsCongruence s m
      → IsCongruence r w
  congruence_kept s r terms versions c = record {
    btwn = λ v x y z p q t h k a b g.
        e.table (Btwn v x y z) tt
        ∙ c.btwn v x y z p q t (omega (arith, h.0), omega (arith, h.1), omega (arith, h.2), omega (arith, h.3))
        (omega (arith, k.0), omega (arith, k.1), omega (arith, k.2), omega (arith, k.3)) (old x.0 p.0 a)
        (old y.0 q.0 b) (old z.0 t.0 g)
        ∙ sym (e.table (Btwn v p q t) tt);
    hop = λ v x y p q h k a b.
        e.table (Hop v x y) tt
        ∙ c.hop v x y p q (omega (arith, h.0), omega (arith, h.1), omega (arith, h.2))
        (omega (arith, k.0), omega (arith, k.1), omega (arith, k.2)) (old x.0 p.0 a) (old y.0 q.0 b)
        ∙ sym (e.table (Hop v p q) tt);
    alloc =
        λ v x p h k a. e.table (Alloc v x) tt
        ∙ c.alloc v x p (omega (arith, h.0), omega (arith, h.1)) (omega (arith, k.0), omega (arith, k.1))
        (old x.0 p.0 a) ∙ sym (e.table (Alloc v p) tt);
  }
    where
      old : (x y : ℕ) → w.class x ≡ w.class y → m.class x ≡ m.class y
      old x y h = sym (ap (λ (f : ℕ → ℕ). f x) e.class) ∙ h ∙ ap (λ (f : ℕ → ℕ). f y) e.class

-- what is in range has no new definition
before : (s : Sizes) (a : Atom) → IsInRange s a → IsEarlier s.defs a
before s (Eq a b) h = tt
before s (Btwn v x y z) h = tt
before s (Hop v x y) h = tt
before s (Alloc v x) h = tt
before s (Def number) h = h

itself : (d : ℕ) (m : Interpretation) → IsOneBefore d m m
itself d m = record { class = refl; table = λ a h. refl }

-- what is before the first definition is before each
early : (d : ℕ) (a : Atom) → IsEarlier 0 a → IsEarlier d a
early d (Eq a b) h = tt
early d (Btwn v x y z) h = tt
early d (Hop v x y) h = tt
early d (Alloc v x) h = tt
early d (Def number) h = absurd (omega (arith, h))

from_first : (d : ℕ) (m w : Interpretation) → IsOneBefore d m w → IsOneBefore 0 m w
from_first d m w e = record { class = e.class; table = λ a h. e.table a (early d a h) }

pub bounded_sound : BoundedIsSound
bounded_sound p k m is some h = (
  record {
    congruence = congruence_kept 0 m m (itself 0 m) _ p.sizes refl refl h.congruence;
    instances = h.instances;
    clauses = all_left (IsClauseTrue m) p.clauses (fewer p.sizes.terms p.sizes.defs k) h.clauses;
  },
  sound m p.sizes.terms p.sizes.defs k is.terms some
      (all_right (IsClauseTrue m) p.clauses (fewer p.sizes.terms p.sizes.defs k) h.clauses),
)

pub bounded_possible : BoundedIsPossible
bounded_possible p k m is some h few =
    let w = possible m p.sizes.terms p.sizes.defs k is.terms some few in (
      w.0,
      w.1,
      record {
        congruence = congruence_kept p.sizes.defs m w.0 w.1 p.sizes _ refl refl h.congruence;
        instances =
            All-weaker (IsInstanceTrue m) (IsInstanceTrue w.0)
            (instance_stays m w.0 (from_first p.sizes.defs m w.0 w.1)) (instances p.sizes.terms p.sizes.versions)
            h.instances;
        clauses = All-append (IsClauseTrue w.0) p.clauses (fewer p.sizes.terms p.sizes.defs k)
            (λ i c lt. clause_kept p.sizes.defs m w.0 w.1 (get_or p.clauses i c)
            (λ j l le. before p.sizes (get_or (get_or p.clauses i c) j l).atom (is.in_range i c lt j l le))
            (h.clauses i c lt))
            w.2;
      },
    )
