-- How the structure of asserted literals is made.
use Rattle.std.specs.Prelude.{ℕ, ◌≡◌, ◌<◌, ◌⊎◌, ◌↔◌, ◌∷◌, ◌++◌, [], Bool, true, List, Contains, length}
use Rattle.gh_base.specs.declared.atom.Term.{Term}
use Rattle.gh_base.specs.declared.atom.Atom.{Atom}
use Rattle.gh_base.specs.declared.atom.Atom.TheVariants.{Btwn}
use Rattle.gh_base.specs.declared.atom.Lit.{Lit}
use Rattle.gh_base.specs.declared.sizes.Sizes.{Sizes}
use Rattle.gh_base.specs.Atoms.{IsInRange}
use Rattle.gh_base.specs.Meaning.{Interpretation}
use Rattle.gh_base.specs.Structures.{Tables, AreClasses, class_at, interpretation_of}
use Rattle.gh_cc.specs.Asserted.{EqualitiesHold, equality}
use Rattle.gh_cc.specs.Kept.{normal, IsRelation}
use Rattle.gh_cc.specs.Partials.{IsGiven}

-- the classes are least terms, and those of the asserted equalities
pub record AreClassesOf (terms : ℕ) (lits : List Lit) (cs : List Term) : Type 0 where
  pub long : length cs ≡ terms
  pub classes : AreClasses cs
  pub sound : (m : Interpretation) → EqualitiesHold m lits → (t : ℕ) → m.class (class_at cs t) ≡ m.class t
  pub joined : (a b : Term) → Contains lits (equality a b) → class_at cs a.0 ≡ class_at cs b.0

-- after any asserted literals the classes are those with one more
abbrev pub TakesIn : Lit → List Term → List Term → Type 0
TakesIn lit old new =
    (terms : ℕ) (lits : List Lit) → AreClassesOf terms lits old → AreClassesOf terms (lits ++ lit ∷ []) new

-- the truth of an atom in tables
abbrev pub truth_in : Tables → Atom → Bool
truth_in t a = (interpretation_of t).table a

-- atoms of which something holds, whatever the terms and their classes
abbrev pub Sort : Type 1
Sort = Sizes → List Term → Atom → Type 0

-- one atom
abbrev pub IsAtom : Atom → Sort
IsAtom b s cs a = a ≡ b

-- those that are of a kind for one of the first terms that is of the same class as x
pub record IsOfFirst (n : ℕ) (x : Term) (P : Term → Sort) (s : Sizes) (cs : List Term) (a : Atom) : Type 0 where
  pub term : Term
  pub below : term.0 < n
  pub same : class_at cs term.0 ≡ class_at cs x.0
  pub is : P term s cs a

-- .. for a term of the class of x
abbrev pub IsOfClass : Term → (Term → Sort) → Sort
IsOfClass x P s cs a = IsOfFirst s.terms x P s cs a

-- the atoms `Btwn` over the terms of the class of the third, of the second and the third, and of all three
abbrev pub IsThird : ℕ → Term → Term → Term → Sort
IsThird version x y z = IsOfClass z (λ t. IsAtom (Btwn version x y t))

abbrev pub IsSecond : ℕ → Term → Term → Term → Sort
IsSecond version x y z = IsOfClass y (λ t. IsThird version x t z)

abbrev pub IsTriple : ℕ → Term → Term → Term → Sort
IsTriple version x y z = IsOfClass x (λ t. IsSecond version t y z)

-- those over terms of the same classes
abbrev pub IsLike : Atom → Sort
IsLike b s cs a = normal (class_at cs) b ≡ normal (class_at cs) a

-- the atoms of a kind became true, and no other truth was changed
pub record MakesTrue (P : Sort) (old new : Tables) : Type 0 where
  pub sizes : new.sizes ≡ old.sizes
  pub classes : new.classes ≡ old.classes
  pub truths : (a : Atom) → IsRelation a → IsInRange old.sizes a
      → (truth_in new a ≡ true) ↔ ((truth_in old a ≡ true) ⊎ P old.sizes old.classes a)

-- just those atoms are true that the literals give
abbrev pub AreGiven : List Lit → Tables → Type 0
AreGiven lits t =
    (a : Atom) → IsRelation a → IsInRange t.sizes a → (truth_in t a ≡ true) ↔ IsGiven (interpretation_of t) lits a

-- only truths were written
pub record KeepsClasses (old new : Tables) : Type 0 where
  pub sizes : new.sizes ≡ old.sizes
  pub classes : new.classes ≡ old.classes
