-- Terms, atoms and literals: which are in range, their opposites, and the dense numbers of atoms.
use Rattle.std.specs.Prelude.{ℕ, ◌+◌, ◌*◌, ◌/◌, ◌<◌, ◌≤◌, ◌≡◌, List, map, min, max, All, true, false, not}
use Rattle.std.specs.List.{range_with_len}
use Rattle.gh_base.specs.declared.atom.Term.{Term}
use Rattle.gh_base.specs.declared.atom.Atom.{Atom}
use Rattle.gh_base.specs.declared.atom.Atom.TheVariants.{Eq, Btwn, Hop, Alloc, Def}
use Rattle.gh_base.specs.declared.atom.Lit.{Lit}
use Rattle.gh_base.specs.declared.sizes.Sizes.{Sizes}

-- the term of a number
abbrev pub term : ℕ → Term
term n = record { 0 = n }

-- the first n terms
abbrev pub terms_below : ℕ → List Term
terms_below n = map term (range_with_len 0 n)

-- the atom that two terms are equal, with the smaller one first
abbrev pub equation : Term → Term → Atom
equation a b = Eq (term (min a.0 b.0)) (term (max a.0 b.0))

-- the literal that an atom is true
abbrev pub positive : Atom → Lit
positive a = record { atom = a; positive = true }

-- the literal that an atom is false
abbrev pub negative : Atom → Lit
negative a = record { atom = a; positive = false }

abbrev pub opposite : Lit → Lit
opposite l = record { atom = l.atom; positive = not l.positive }

-- the terms, the version and the definition are there, and an equality has its smaller term first
abbrev pub IsInRange : Sizes → Atom → Type 0
IsInRange s (Eq a b) = (a.0 ≤ b.0) × (b.0 < s.terms)
IsInRange s (Btwn v x y z) = (v < s.versions) × (x.0 < s.terms) × (y.0 < s.terms) × (z.0 < s.terms)
IsInRange s (Hop v x y) = (v < s.versions) × (x.0 < s.terms) × (y.0 < s.terms)
IsInRange s (Alloc v x) = (v < s.versions) × (x.0 < s.terms)
IsInRange s (Def number) = number < s.defs

abbrev pub AreInRange : Sizes → List Lit → Type 0
AreInRange s clause = All (λ l. IsInRange s l.atom) clause

-- how many pairs of numbers have their greater one below b, pairs of equal numbers included
abbrev pub pairs_below : ℕ → ℕ
pairs_below b = b * (b + 1) / 2

-- the numbers at which the atoms of each shape begin
abbrev pub btwn_start : Sizes → ℕ
btwn_start s = pairs_below s.terms

abbrev pub hop_start : Sizes → ℕ
hop_start s = btwn_start s + s.versions * s.terms * s.terms * s.terms

abbrev pub alloc_start : Sizes → ℕ
alloc_start s = hop_start s + s.versions * s.terms * s.terms

abbrev pub def_start : Sizes → ℕ
def_start s = alloc_start s + s.versions * s.terms

-- how many atoms are in range
abbrev pub count_of : Sizes → ℕ
count_of s = def_start s + s.defs

-- the number of an atom: equalities by their greater term first, the others by version and then by each term in order
abbrev pub number_of : Sizes → Atom → ℕ
number_of s (Eq a b) = pairs_below b.0 + a.0
number_of s (Btwn v x y z) = btwn_start s + (((v * s.terms + x.0) * s.terms + y.0) * s.terms + z.0)
number_of s (Hop v x y) = hop_start s + ((v * s.terms + x.0) * s.terms + y.0)
number_of s (Alloc v x) = alloc_start s + (v * s.terms + x.0)
number_of s (Def number) = def_start s + number

-- the place is that of a term in a row of a table that has `terms` places in each row
pub record IsRow (place terms row : ℕ) (term : Term) : Type 0 where
  pub is : place ≡ row * terms + term.0
  pub within : term.0 < terms

-- two atoms in range that have one number are one
abbrev pub AreNumbersApart : Type 0
AreNumbersApart = (s : Sizes) (a b : Atom) → IsInRange s a → IsInRange s b → number_of s a ≡ number_of s b → a ≡ b
