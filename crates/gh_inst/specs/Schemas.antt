-- Literals over variables, and what they are at some terms.
use Rattle.std.specs.Prelude.{ℕ, ◌<◌, ◌≤◌, List, length, map, take, All, slice_index_or}
use Rattle.gh_base.specs.declared.atom.Term.{Term}
use Rattle.gh_base.specs.declared.atom.Atom.{Atom}
use Rattle.gh_base.specs.declared.atom.Atom.TheVariants.{Btwn, Hop, Alloc}
use Rattle.gh_base.specs.declared.atom.Lit.{Lit}
use Rattle.gh_base.specs.Atoms.{term, equation}
use Rattle.gh_inst.specs.declared.schema.Shape.{Shape}
use Rattle.gh_inst.specs.declared.schema.Shape.TheVariants.{Equal, Btwn as Between, Hop as Step, Alloc as Allocated}
use Rattle.gh_inst.specs.declared.schema.Pattern.{Pattern}

-- how many places a literal uses
abbrev pub places_of : Shape → ℕ
places_of Equal = 2
places_of Between = 3
places_of Step = 2
places_of Allocated = 1

-- one to four variables and literals, and at each place that is used a variable
pub record IsSchema (variables : ℕ) (lits : List Pattern) : Type 0 where
  pub some_variables : 1 ≤ variables
  pub few_variables : variables ≤ 4
  pub some_lits : 1 ≤ length lits
  pub few_lits : length lits ≤ 4
  pub places : All (λ p. All (λ x. x < variables) (take (places_of p.shape) p.places)) lits

-- the term of the variable at a place
abbrev pub term_at : List Term → List ℕ → ℕ → Term
term_at terms places k = slice_index_or terms (slice_index_or places k 0) (term 0)

-- the term at each place that is used is one of the first n
abbrev pub AreTermsBelow : ℕ → Pattern → List Term → Type 0
AreTermsBelow n p terms = (k : ℕ) → k < places_of p.shape → (term_at terms p.places k).0 < n

-- an atom, by the term at each place
abbrev pub atom_of : Shape → ℕ → (ℕ → Term) → Atom
atom_of Equal version at = equation (at 0) (at 1)
atom_of Between version at = Btwn version (at 0) (at 1) (at 2)
atom_of Step version at = Hop version (at 0) (at 1)
atom_of Allocated version at = Alloc version (at 0)

abbrev pub lit_over : ℕ → List Term → Pattern → Lit
lit_over version terms p = record { atom = atom_of p.shape version (term_at terms p.places); positive = p.positive }

abbrev pub clause_over : ℕ → List Term → List Pattern → List Lit
clause_over version terms lits = map (lit_over version terms) lits
