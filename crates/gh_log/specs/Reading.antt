-- What the parts of the grammar spell at the front of a text, and what the reader answers for a part.
use Rattle.std.specs.Prelude.{◌≡◌, ◌≢◌, ◌⊎◌, ⊤, ◌+◌, ◌-◌, ◌^◌, ◌<◌, ◌≤◌, ℕ, List, [], ◌∷◌, ◌++◌, length, take}
use Rattle.std.specs.Prelude.{replicate, codes, Bool, false, All, Option, Result, MatchBool, MatchOption, MatchResult}
use Rattle.std.specs.List.{flat_map}
use Rattle.std.specs.Fmt.{decimal}
use Rattle.std.specs.Char.{is_ascii_digit}
use Rattle.gh_base.specs.declared.atom.Term.{Term}
use Rattle.gh_base.specs.declared.atom.Atom.{Atom}
use Rattle.gh_base.specs.declared.atom.Lit.{Lit}
use Rattle.gh_inst.specs.declared.naming.InstanceName.{InstanceName}
use Rattle.gh_log.specs.Lines.{LogLine}
use Rattle.gh_log.specs.Lines as line
use Rattle.gh_log.specs.declared.reading.Kind.{Kind}
use Rattle.gh_log.specs.declared.reading.Kind.TheVariants as kind
use Rattle.gh_log.specs.declared.reading.Parts.{Parts}
use Rattle.gh_log.specs.declared.lines.Section.{Section}
use Rattle.gh_log.specs.declared.error.LogError.{LogError}
use Rattle.gh_log.specs.declared.error.LogError.TheVariants.{Line, OutOfMemory as NoMemory}
use Rattle.gh_log.specs.declared.error.Refusal.{Refusal}
use Rattle.gh_log.specs.declared.error.Refusal.TheVariants.{Outside, OutOfMemory}
use Rattle.gh_base.specs.Texts.{line_end}
use Rattle.gh_base.specs.Atoms.{term}
use Rattle.gh_log.specs.Texts.{atom_text, sign_text, lits_text, term_text, numbers_text, line_text, header_text}
use Rattle.gh_log.specs.Texts.{section_text}
use Rattle.gh_log.specs.Spelled.{IsSpelledAtom, AreSpelled, IsVersion, IsOfVersion, AreNumbers, HasSpelledParts}
use Rattle.gh_log.specs.Spelled.{IsSpelledLine}

-- the part spells nothing at the front
abbrev pub SpellsNothing : {X : Type 0} → (X → List ℕ → Type 0) → Type 0
SpellsNothing {X} P = (x : X) (rest : List ℕ) → P x rest → ⊥

-- why a part isn't read: it spells nothing at the front, or memory runs out
abbrev pub IsPartRefusal : {X : Type 0} → (X → List ℕ → Type 0) → Refusal → Type 0
IsPartRefusal P Outside = SpellsNothing P
IsPartRefusal P OutOfMemory = ⊤

-- the answer is what the part spells at the front, and what is left
abbrev pub IsPartRead : {X Y : Type 0} → (X → List ℕ → Type 0) → (Y → X) → Result Y Refusal → List ℕ → Type 0
IsPartRead P view answer rest = MatchResult answer (λ y. P (view y) rest) (IsPartRefusal P)

-- the text begins with `wanted`, and the rest comes after that
abbrev pub SpellsText : List ℕ → List ℕ → Unit {0} → List ℕ → Type 0
SpellsText wanted text u rest = text ≡ wanted ++ rest

abbrev pub SpellsByte : List ℕ → ℕ → List ℕ → Type 0
SpellsByte text b rest = text ≡ b ∷ rest

-- the text doesn't begin with this front
abbrev pub IsNotFront : List ℕ → List ℕ → Type 0
IsNotFront front text = (rest : List ℕ) → text ≡ front ++ rest → ⊥

-- the text is taken where it is next, and else nothing is
abbrev pub TakesText : List ℕ → List ℕ → List ℕ → Bool → Type 0
TakesText front old new taken = MatchBool taken (old ≡ front ++ new) ((new ≡ old) × IsNotFront front old)

-- another byte is next, or none
abbrev pub IsNotNext : ℕ → List ℕ → Type 0
IsNotNext b [] = ⊤
IsNotNext b (c ∷ rest) = c ≢ b

-- the byte is taken where it is next, and else nothing is
abbrev pub TakesByte : ℕ → List ℕ → List ℕ → Bool → Type 0
TakesByte b old new taken = MatchBool taken (old ≡ b ∷ new) ((new ≡ old) × IsNotNext b old)

-- the number within 32 bits that digits write, if they write one
abbrev pub IsNumberOf : List ℕ → Option ℕ → Type 0
IsNumberOf digits answer = MatchOption answer ((n : ℕ) → n < 2 ^ 32 → digits ≡ decimal n → ⊥) (λ n. digits ≡ decimal n)

-- no digit follows
abbrev pub EndsNumber : List ℕ → Type 0
EndsNumber [] = ⊤
EndsNumber (b ∷ rest) = is_ascii_digit b ≡ false

-- a number that isn't above the limit, with no digit after it
pub record SpellsNumber (limit : ℕ) (text : List ℕ) (n : ℕ) (rest : List ℕ) : Type 0 where
  pub front : text ≡ decimal n ++ rest
  pub within : n ≤ limit
  pub ends : EndsNumber rest

-- `count` numbers below 256, each after the byte `mark`, with no digit after the last
pub record SpellsBytes (mark count : ℕ) (text : List ℕ) (ns : List ℕ) (rest : List ℕ) : Type 0 where
  pub front : text ≡ flat_map (λ n. mark ∷ decimal n) ns ++ rest
  pub counted : length ns ≡ count
  pub within : All (λ n. n ≤ 255) ns
  pub ends : EndsNumber rest

pub record SpellsAtom (text : List ℕ) (x : Atom) (rest : List ℕ) : Type 0 where
  pub front : text ≡ atom_text x ++ rest
  pub spelled : IsSpelledAtom x
  pub ends : EndsNumber rest

pub record SpellsLit (text : List ℕ) (l : Lit) (rest : List ℕ) : Type 0 where
  pub front : text ≡ sign_text l ++ atom_text l.atom ++ rest
  pub spelled : IsSpelledAtom l.atom
  pub ends : EndsNumber rest

-- literals, and what ends them
pub record SpellsLits (end text : List ℕ) (c : List Lit) (rest : List ℕ) : Type 0 where
  pub front : text ≡ lits_text c ++ (end ++ rest)
  pub spelled : AreSpelled c

-- literals, and the end of the line
abbrev pub SpellsClause : List ℕ → List Lit → List ℕ → Type 0
SpellsClause = SpellsLits line_end

-- literals, and the ` ;` before hints
abbrev pub SpellsShown : List ℕ → List Lit → List ℕ → Type 0
SpellsShown = SpellsLits (codes " ;")

-- numbers within 32 bits, each after a space, and the end of the line
pub record SpellsNumbers (text ns rest : List ℕ) : Type 0 where
  pub front : text ≡ numbers_text ns ++ 10 ∷ rest
  pub within : AreNumbers ns

-- terms, each after a space, at most four together with k earlier ones, and the end of the line
pub record SpellsTerms (k : ℕ) (text : List ℕ) (tuple : List Term) (rest : List ℕ) : Type 0 where
  pub front : text ≡ flat_map term_text tuple ++ 10 ∷ rest
  pub few : k + length tuple ≤ 4
  pub within : All (λ t. t.0 ≤ 255) tuple

-- four terms, of which those past the arity are term 0
pub record ArePadded (terms : List Term) (arity : ℕ) : Type 0 where
  pub few : arity ≤ 4
  pub four : length terms ≡ 4
  pub zeros : terms ≡ take arity terms ++ replicate (4 - arity) (term 0)

-- a line of a log of some version
pub record SpellsParts (text : List ℕ) (l : LogLine) (rest : List ℕ) : Type 0 where
  pub front : text ≡ line_text l ++ rest
  pub spelled : HasSpelledParts l

-- the rest of the line of an instance after its letter, and that of a ground clause
abbrev pub SpellsName : List ℕ → InstanceName → List ℕ → Type 0
SpellsName text name = SpellsParts (97 ∷ text) (line.Axiom name)

abbrev pub SpellsGround : List ℕ → ℕ → List ℕ → Type 0
SpellsGround text k = SpellsParts (103 ∷ text) (line.Clause k)

-- a line of a log of this version
pub record SpellsLine (version : ℕ) (text : List ℕ) (l : LogLine) (rest : List ℕ) : Type 0 where
  pub of_version : IsOfVersion version l
  pub parts : SpellsParts text l rest

-- the line of a kind whose parts were read
abbrev pub line_with : Parts → Kind → LogLine
line_with parts (kind.Axiom name) = line.Axiom name
line_with parts (kind.Clause k) = line.Clause k
line_with parts kind.Lemma = line.Lemma parts.clause.items
line_with parts kind.Learnt = line.Learnt parts.clause.items
line_with parts kind.Hinted = line.Hinted parts.clause.items parts.numbers.items
line_with parts kind.Delete = line.Delete parts.numbers.items

-- the first line of a log
abbrev pub first_line : ℕ → List ℕ
first_line version = codes "grass log " ++ decimal version ++ line_end

pub record SpellsVersion (text : List ℕ) (version : ℕ) (rest : List ℕ) : Type 0 where
  pub front : text ≡ first_line version ++ rest
  pub is : IsVersion version

-- the header of the section with this number
abbrev pub SpellsHeader : ℕ → List ℕ → Unit {0} → List ℕ → Type 0
SpellsHeader number text u rest = text ≡ header_text number ++ rest

-- the text ends here, or its next byte is `c`, with which headers begin
abbrev pub EndsSection : List ℕ → Type 0
EndsSection [] = ⊤
EndsSection (b ∷ rest) = b ≡ 99

-- a section whose header is the file's line k
pub record SpellsSection (version number k : ℕ) (text : List ℕ) (s : Section) (rest : List ℕ) : Type 0 where
  pub front : text ≡ section_text number s.lines ++ rest
  pub spelled : All (IsSpelledLine version) s.lines
  pub first : s.first ≡ k + 1
  pub ends : EndsSection rest

-- after the header and some lines of a section comes a line that is outside the grammar: the file's line `stuck`, where
-- the header is line k
pub record IsStuck (version number k : ℕ) (text : List ℕ) (stuck : ℕ) : Type 0 where
  pub lines : List LogLine
  pub rest : List ℕ
  pub front : text ≡ section_text number lines ++ rest
  pub spelled : All (IsSpelledLine version) lines
  pub number_is : stuck ≡ k + 1 + length lines
  pub more : EndsSection rest → ⊥
  pub refused : SpellsNothing (SpellsLine version rest)

-- the header's line or one of the section's is outside the grammar
abbrev pub IsSectionRefusal : ℕ → ℕ → ℕ → List ℕ → LogError → Type 0
IsSectionRefusal version number k text (Line stuck) =
    ((stuck ≡ k) × SpellsNothing (SpellsHeader number text)) ⊎ IsStuck version number k text stuck
IsSectionRefusal version number k text NoMemory = ⊤

-- the error of a refusal in this line
abbrev pub error_at : Refusal → ℕ → LogError
error_at Outside line = Line line
error_at OutOfMemory line = NoMemory
