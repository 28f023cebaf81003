-- Betweenness and hops of one version in words, a bit for each last term; and what a word leaves open.
use Rattle.std.specs.Prelude.{ℕ, ◌≡◌, ◌≢◌, ◌<◌, ◌≤◌, ◌+◌, ◌*◌, ◌++◌, All, take, List, Bool, true, false, length}
use Rattle.std.specs.Prelude.{slice_get, slice_index_or, Some}
use Rattle.std.specs.Int.{bit_at}
use Rattle.gh_base.specs.declared.atom.Term.{Term}
use Rattle.gh_base.specs.declared.atom.Atom.{Atom}
use Rattle.gh_base.specs.declared.atom.Atom.TheVariants.{Btwn, Hop}
use Rattle.gh_base.specs.Meaning.{Interpretation, IsLitTrue, under, atom_truth, lit_truth}
use Rattle.gh_base.specs.Structures.{Tables, interpretation_of}
use Rattle.gh_base.specs.Atoms.{term}
use Rattle.gh_inst.specs.declared.schema.Shape.TheVariants.{Btwn as Between}
use Rattle.gh_inst.specs.declared.schema.Pattern.{Pattern}
use Rattle.gh_inst.specs.declared.words.WordOf.{WordOf}
use Rattle.gh_inst.specs.declared.words.WordOf.TheVariants.{Pair, Reach, Cell}
use Rattle.gh_inst.specs.declared.words.Worded.{Worded}
use Rattle.gh_inst.specs.Schemas.{places_of, lit_over}
use Rattle.gh_inst.specs.Search.{IsAmong, IsRowTrue}

abbrev pub bit_of : Bool → ℕ
bit_of true = 1
bit_of false = 0

abbrev pub is_between : Interpretation → ℕ → ℕ → ℕ → ℕ → Bool
is_between m version x y z = m.table (Btwn version (term x) (term y) (term z))

abbrev pub is_hop : Interpretation → ℕ → ℕ → ℕ → Bool
is_hop m version x y = m.table (Hop version (term x) (term y))

-- the words of two terms, and those of one term, have their bits right, where there are words at all
pub record AreWords (m : Interpretation) (version n : ℕ) (words : List ℕ) : Type 0 where
  pub few : 0 < length words → n ≤ 32
  pub full : 0 < length words → length words ≡ 1088
  pub bits : (x y z word : ℕ) → x < n → y < n → z < n → slice_get words (x * 32 + y) ≡ Some word
      → bit_at word z ≡ bit_of (is_between m version x y z)
  pub reach : (x y word : ℕ) → x < n → y < n → slice_get words (1024 + x) ≡ Some word
      → bit_at word y ≡ bit_of (is_between m version x y y)
  pub hops : (x y word : ℕ) → x < n → y < n → slice_get words (1056 + x) ≡ Some word
      → bit_at word y ≡ bit_of (is_hop m version x y)

-- the same of a structure
abbrev pub AreWordsOf : Tables → ℕ → List ℕ → Type 0
AreWordsOf s version words = AreWords (interpretation_of s) version s.sizes.terms words

-- a version of a structure with at most 32 terms, and its words
pub record IsWorded (w : Worded) : Type 0 where
  pub version_there : w.version < w.structure.now.sizes.versions
  pub few : w.structure.now.sizes.terms ≤ 32
  pub some : 0 < w.structure.now.sizes.terms
  pub words_are : AreWordsOf w.structure.now w.version w.words.now
  pub full : length w.words.now ≡ 1088

-- the atom whose truth a bit of a word is
abbrev pub atom_in : ℕ → WordOf → ℕ → Atom
atom_in version (Pair x y) z = Btwn version x y (term z)
atom_in version (Reach x) z = Btwn version x (term z) (term z)
atom_in version (Cell x) z = Hop version x (term z)

-- the terms that a word is of are there
abbrev pub AreThere : ℕ → WordOf → Type 0
AreThere terms (Pair x y) = (x.0 < terms) × (y.0 < terms)
AreThere terms (Reach x) = x.0 < terms
AreThere terms (Cell x) = x.0 < terms

-- the bits of a word are the truths of its atoms
abbrev pub IsWordOf : Tables → ℕ → WordOf → ℕ → Type 0
IsWordOf s version of word =
    (z : ℕ) → z < s.sizes.terms → bit_at word z ≡ bit_of (atom_truth (interpretation_of s) (atom_in version of z))

-- a word at a place is that of its two terms, or of its one term, where the place is theirs
abbrev pub IsPairWordAt : Tables → ℕ → ℕ → ℕ → Type 0
IsPairWordAt s version place word = (x y z : ℕ) → x < s.sizes.terms → y < s.sizes.terms → z < s.sizes.terms
    → place ≡ x * 32 + y
    → bit_at word z ≡ bit_of (is_between (interpretation_of s) version x y z)

abbrev pub IsReachWordAt : Tables → ℕ → ℕ → ℕ → Type 0
IsReachWordAt s version place word = (x y : ℕ) → x < s.sizes.terms → y < s.sizes.terms → place ≡ 1024 + x
    → bit_at word y ≡ bit_of (is_between (interpretation_of s) version x y y)

abbrev pub IsHopWordAt : Tables → ℕ → ℕ → ℕ → Type 0
IsHopWordAt s version place word = (x y : ℕ) → x < s.sizes.terms → y < s.sizes.terms → place ≡ 1056 + x
    → bit_at word y ≡ bit_of (is_hop (interpretation_of s) version x y)

-- a literal on betweenness, of which the first two terms are known, and the place of their word
pub record IsPair (p : Pattern) (tuple : List Term) (first place : ℕ) : Type 0 where
  pub shape : p.shape ≡ Between
  pub x_known : slice_index_or p.places 0 0 < first
  pub y_known : slice_index_or p.places 1 0 < first
  pub place_is : place ≡ (slice_index_or tuple (slice_index_or p.places 0 0) (term 0)).0 * 32 +
      (slice_index_or tuple (slice_index_or p.places 1 0) (term 0)).0

-- the bits of a word are the truths of the atom, by the term at one of its places
pub record AreTruths (m : Interpretation) (version n : ℕ) (p : Pattern) (tuple : List Term)
    (first place word : ℕ) : Type 0 where
  pub truth : ℕ → Bool
  pub used : place < places_of p.shape
  pub says : (z : ℕ) (rest : List Term) → z < n
      → slice_index_or (take first tuple ++ rest) (slice_index_or p.places place 0) (term 0) ≡ term z
      → lit_truth m (lit_over version (take first tuple ++ rest) p) ≡ under p.positive (truth z)
  pub bits : (z : ℕ) → z < n → bit_at word z ≡ bit_of (truth z)

-- of any words, the one at a place has the truths of the atom, by its third term
abbrev pub AreTruthsAt : ℕ → Pattern → List Term → ℕ → Type 0
AreTruthsAt at p tuple first = (m : Interpretation) (version n word : ℕ) (words : List ℕ) → AreWords m version n words
    → All (λ t. t.0 < n) (take first tuple) → slice_get words at ≡ Some word
    → AreTruths m version n p tuple first 2 word

-- the bits of a word are the terms at one of its places at which a literal is false
pub record AreFalse (m : Interpretation) (version n : ℕ) (p : Pattern) (tuple : List Term)
    (first place word : ℕ) : Type 0 where
  pub used : place < places_of p.shape
  pub holds : (z : ℕ) (rest : List Term) → z < n
      → slice_index_or (take first tuple ++ rest) (slice_index_or p.places place 0) (term 0) ≡ term z
      → bit_at word z ≡ 0 → IsLitTrue m (lit_over version (take first tuple ++ rest) p)
  pub fails : (z : ℕ) (rest : List Term) → z < n
      → slice_index_or (take first tuple ++ rest) (slice_index_or p.places place 0) (term 0) ≡ term z
      → bit_at word z ≢ 0 → ¬ IsLitTrue m (lit_over version (take first tuple ++ rest) p)

-- where one word has the truths of the atom, another has the terms at which the literal is false
abbrev pub TellsFalse : Pattern → ℕ → ℕ → Type 0
TellsFalse p word left = (m : Interpretation) (version n : ℕ) (tuple : List Term) (first place : ℕ) → n ≤ 32
    → AreTruths m version n p tuple first place word → AreFalse m version n p tuple first place left

-- a literal is true, whatever terms come later, where the bit of the next term is 0; where the word isn't 0, it is
-- false, if its variables are all known
pub record IsLitOpen (m : Interpretation) (version n : ℕ) (p : Pattern) (tuple : List Term)
    (first word : ℕ) : Type 0 where
  pub closed : (z : ℕ) (rest : List Term) → z < n → All (λ t. t.0 < n) rest
      → slice_index_or (take first tuple ++ rest) first (term 0) ≡ term z
      → bit_at word z ≡ 0 → IsLitTrue m (lit_over version (take first tuple ++ rest) p)
  pub known : word ≢ 0 → IsAmong first p → ¬ IsLitTrue m (lit_over version (take first tuple) p)

-- .. in a structure
abbrev pub IsLitOpenIn : Tables → ℕ → Pattern → List Term → ℕ → ℕ → Type 0
IsLitOpenIn s version p tuple first word = IsLitOpen (interpretation_of s) version s.sizes.terms p tuple first word

-- .. where another word has the truths of the atom
abbrev pub TellsOpen : Pattern → List Term → ℕ → ℕ → ℕ → ℕ → Type 0
TellsOpen p tuple first place word next = (m : Interpretation) (version n : ℕ) → n ≤ 32 → 0 < n
    → All (λ t. t.0 < n) (take first tuple)
    → AreTruths m version n p tuple first place word → IsLitOpen m version n p tuple first next

-- .. wherever these are the words
abbrev pub IsOpenByWords : List ℕ → Pattern → List Term → ℕ → ℕ → Type 0
IsOpenByWords words p tuple first next = (m : Interpretation) (version n : ℕ) → AreWords m version n words → 0 < n
    → All (λ t. t.0 < n) (take first tuple) → IsLitOpen m version n p tuple first next

-- the same of a row
pub record IsOpen (m : Interpretation) (version n : ℕ) (lits : List Pattern) (tuple : List Term)
    (first word : ℕ) : Type 0 where
  pub closed : (z : ℕ) (rest : List Term) → z < n → All (λ t. t.0 < n) rest
      → slice_index_or (take first tuple ++ rest) first (term 0) ≡ term z
      → bit_at word z ≡ 0 → IsRowTrue m version lits (take first tuple ++ rest)
  pub known : word ≢ 0 → All (IsAmong first) lits → ¬ IsRowTrue m version lits (take first tuple)

-- .. in a structure
abbrev pub IsOpenIn : Tables → ℕ → List Pattern → List Term → ℕ → ℕ → Type 0
IsOpenIn s version lits tuple first word = IsOpen (interpretation_of s) version s.sizes.terms lits tuple first word
