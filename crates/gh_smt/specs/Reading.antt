-- What the parts of a script's text spell at the front of a text.
use Rattle.std.specs.Prelude.{◌≡◌, ℕ, ◌+◌, ◌≤◌, List, ◌∷◌, ◌++◌, length, codes, Bool, true, false, All, ⊤, Result}
use Rattle.std.specs.List.{flat_map, range_with_len}
use Rattle.std.specs.Fmt.{decimal}
use Rattle.gh_base.specs.declared.atom.Atom.{Atom}
use Rattle.gh_base.specs.declared.atom.Atom.TheVariants.{Eq, Btwn, Hop, Alloc, Def}
use Rattle.gh_base.specs.declared.atom.Lit.{Lit}
use Rattle.gh_base.specs.declared.sizes.Sizes.{Sizes}
use Rattle.gh_base.specs.Atoms.{IsInRange}
use Rattle.gh_base.specs.Grounds.{Problem}
use Rattle.gh_log.specs.declared.error.Refusal.{Refusal}
use Rattle.gh_log.specs.Reading.{IsPartRead, IsNotFront, SpellsText, EndsNumber}
use Rattle.gh_smt.specs.declared.kind.Kind.{Kind}
use Rattle.gh_smt.specs.Scripts.{HasLits, IsScript}
use Rattle.gh_smt.specs.Texts.{atom_text, lit_text, spaced_lit, assertion_text, foot_text, script_text}
use Rattle.gh_smt.specs.Kinds.{declared_text, start_text}

-- the wanted text stands at the front, and what is left follows it
abbrev pub ReadsText : List ℕ → List ℕ → Result (Unit {0}) Refusal → List ℕ → Type 0
ReadsText wanted text answer rest = IsPartRead (SpellsText wanted text) (λ u. u) answer rest

-- a term after a space
pub record SpellsTerm (text : List ℕ) (n : ℕ) (rest : List ℕ) : Type 0 where
  pub front : text ≡ codes " t" ++ (decimal n ++ rest)
  pub within : n ≤ 255
  pub ends : EndsNumber rest

abbrev pub spaced_number : ℕ → List ℕ
spaced_number n = codes " t" ++ decimal n

-- so many terms, and the sign that ends them
pub record SpellsTerms (count : ℕ) (text : List ℕ) (ns : List ℕ) (rest : List ℕ) : Type 0 where
  pub front : text ≡ flat_map spaced_number ns ++ (41 ∷ rest)
  pub counted : length ns ≡ count
  pub within : All (λ n. n ≤ 255) ns

-- the numbers are within their limits
abbrev pub FitsAtom : Atom → Type 0
FitsAtom (Eq a b) = (a.0 ≤ 255) × (b.0 ≤ 255)
FitsAtom (Btwn v x y z) = (v ≤ 255) × (x.0 ≤ 255) × (y.0 ≤ 255) × (z.0 ≤ 255)
FitsAtom (Hop v x y) = (v ≤ 255) × (x.0 ≤ 255) × (y.0 ≤ 255)
FitsAtom (Alloc v x) = (v ≤ 255) × (x.0 ≤ 255)
FitsAtom (Def number) = number ≤ 4294967295

-- no digit follows the number of a definition
abbrev pub EndsAtom : Atom → List ℕ → Type 0
EndsAtom (Def number) rest = EndsNumber rest
EndsAtom atom rest = ⊤

-- an atom, in range or not, stands at the front
pub record SpellsForm (text : List ℕ) (x : Atom) (rest : List ℕ) : Type 0 where
  pub front : text ≡ atom_text x ++ rest
  pub fits : FitsAtom x
  pub ends : EndsAtom x rest

-- an atom in range
pub record SpellsAtom (s : Sizes) (text : List ℕ) (x : Atom) (rest : List ℕ) : Type 0 where
  pub form : SpellsForm text x rest
  pub in_range : IsInRange s x

-- the same of a literal of the atom; a negative one ends with a sign
abbrev pub EndsLit : Bool → Atom → List ℕ → Type 0
EndsLit true x rest = EndsAtom x rest
EndsLit false x rest = ⊤

pub record IsSpelledLit (s : Sizes) (l : Lit) : Type 0 where
  pub fits : FitsAtom l.atom
  pub in_range : IsInRange s l.atom

pub record SpellsLit (s : Sizes) (text : List ℕ) (l : Lit) (rest : List ℕ) : Type 0 where
  pub front : text ≡ lit_text l ++ rest
  pub spelled : IsSpelledLit s l
  pub ends : EndsLit l.positive l.atom rest

-- a literal after a space
pub record SpellsSpaced (s : Sizes) (text : List ℕ) (l : Lit) (rest : List ℕ) : Type 0 where
  pub middle : List ℕ
  pub front : text ≡ 32 ∷ middle
  pub lit : SpellsLit s middle l rest

-- the texts of items of which W holds, one after the other, and the text `end` after them
pub record SpellsItems {X : Type 0} (print : X → List ℕ) (W : X → Type 0) (end text : List ℕ) (xs : List X)
    (rest : List ℕ)
    : Type 0 where
  pub front : text ≡ flat_map print xs ++ (end ++ rest)
  pub spelled : All W xs

abbrev pub lits_end : List ℕ
lits_end = codes "))\n"

abbrev pub SpellsLits : Sizes → List ℕ → List Lit → List ℕ → Type 0
SpellsLits s = SpellsItems spaced_lit (IsSpelledLit s) lits_end

-- an assertion that has literals
pub record IsSpelledAssertion (s : Sizes) (c : List Lit) : Type 0 where
  pub some : HasLits c
  pub lits : All (IsSpelledLit s) c

pub record SpellsAssertion (s : Sizes) (text : List ℕ) (c : List Lit) (rest : List ℕ) : Type 0 where
  pub front : text ≡ assertion_text c ++ rest
  pub spelled : IsSpelledAssertion s c

-- an assertion stands at the front, and what is left follows it
abbrev pub IsAssertionRead : Sizes → List ℕ → Result (List Lit) Refusal → List ℕ → Type 0
IsAssertionRead s text answer rest = IsPartRead (SpellsAssertion s text) (λ c. c) answer rest

abbrev pub SpellsAssertions : Sizes → List ℕ → List (List Lit) → List ℕ → Type 0
SpellsAssertions s = SpellsItems assertion_text (IsSpelledAssertion s) foot_text

-- what the numbers of a kind from k on declare, n of them, and no more of that kind
pub record SpellsDeclared (kind : Kind) (limit k : ℕ) (text : List ℕ) (n : ℕ) (rest : List ℕ) : Type 0 where
  pub front : text ≡ flat_map (declared_text kind) (range_with_len k n) ++ rest
  pub within : k + n ≤ limit
  pub ends : IsNotFront (start_text kind) rest

-- a script's text stands at the front
pub record SpellsScript (text : List ℕ) (p : Problem) (rest : List ℕ) : Type 0 where
  pub front : text ≡ script_text p ++ rest
  pub is : IsScript p

-- the text is that of no script
abbrev pub IsNoScript : List ℕ → Type 0
IsNoScript text = (p : Problem) → IsScript p → text ≡ script_text p → ⊥
