-- The logs that the grammar can spell, the places of their sections, and the first line of a text that is outside the
-- grammar.
use Rattle.std.specs.Prelude.{◌≡◌, ◌≢◌, ◌⊎◌, ⊤, ◌+◌, ◌≤◌, ℕ, List, [], ◌∷◌, ◌++◌, map, length, All, count_by, nat_eq}
use Rattle.gh_base.specs.Texts.{line_end}
use Rattle.gh_base.specs.declared.atom.Atom.{Atom}
use Rattle.gh_base.specs.declared.atom.Atom.TheVariants.{Eq, Btwn, Hop, Alloc, Def}
use Rattle.gh_base.specs.declared.atom.Lit.{Lit}
use Rattle.gh_inst.specs.declared.naming.InstanceName.{InstanceName}
use Rattle.gh_inst.specs.Instances.{tuple_of, IsPadded}
use Rattle.gh_log.specs.Lines.{LogLine}
use Rattle.gh_log.specs.Lines as line
use Rattle.gh_log.specs.declared.lines.Section.{Section}
use Rattle.gh_log.specs.declared.error.LogError.{LogError}
use Rattle.gh_log.specs.declared.error.LogError.TheVariants.{Line, OutOfMemory}
use Rattle.gh_log.specs.Texts.{log_text}

-- numbers are within their limits, and the terms of an equality stand in order
abbrev pub IsSpelledAtom : Atom → Type 0
IsSpelledAtom (Eq a b) = (a.0 ≤ b.0) × (b.0 ≤ 255)
IsSpelledAtom (Btwn v x y z) = (v ≤ 255) × (x.0 ≤ 255) × (y.0 ≤ 255) × (z.0 ≤ 255)
IsSpelledAtom (Hop v x y) = (v ≤ 255) × (x.0 ≤ 255) × (y.0 ≤ 255)
IsSpelledAtom (Alloc v x) = (v ≤ 255) × (x.0 ≤ 255)
IsSpelledAtom (Def number) = number ≤ 4294967295

abbrev pub AreSpelled : List Lit → Type 0
AreSpelled clause = All (λ l. IsSpelledAtom l.atom) clause

-- one to four terms and term 0 past them, and numbers within their limits
pub record IsSpelledName (name : InstanceName) : Type 0 where
  pub row : name.row ≤ 255
  pub version : name.version ≤ 255
  pub some : 1 ≤ name.arity
  pub few : name.arity ≤ 4
  pub terms : All (λ t. t.0 ≤ 255) (tuple_of name)
  pub padded : IsPadded name

abbrev pub IsVersion : ℕ → Type 0
IsVersion version = (version ≡ 1) ⊎ (version ≡ 2)

-- lines that all earlier ones show are of version 1 alone, those with hints and deletions of version 2 alone
abbrev pub IsOfVersion : ℕ → LogLine → Type 0
IsOfVersion version (line.Learnt c) = version ≡ 1
IsOfVersion version (line.Hinted c hints) = version ≡ 2
IsOfVersion version (line.Delete positions) = version ≡ 2
IsOfVersion version _ = ⊤

abbrev pub AreOfVersion : ℕ → List (List LogLine) → Type 0
AreOfVersion version sections = All (λ s. All (IsOfVersion version) s) sections

-- numbers within 32 bits
abbrev pub AreNumbers : List ℕ → Type 0
AreNumbers ns = All (λ n. n ≤ 4294967295) ns

-- the grammar can spell the line's parts
abbrev pub HasSpelledParts : LogLine → Type 0
HasSpelledParts (line.Axiom name) = IsSpelledName name
HasSpelledParts (line.Clause k) = k ≤ 4294967295
HasSpelledParts (line.Lemma c) = AreSpelled c
HasSpelledParts (line.Learnt c) = AreSpelled c
HasSpelledParts (line.Hinted c hints) = AreSpelled c × AreNumbers hints
HasSpelledParts (line.Delete positions) = AreNumbers positions

-- a line of a log of this version
abbrev pub IsSpelledLine : ℕ → LogLine → Type 0
IsSpelledLine version l = IsOfVersion version l × HasSpelledParts l

-- the grammar can spell a log of this version with these sections
pub record IsSpelled (version : ℕ) (sections : List (List LogLine)) : Type 0 where
  pub known : IsVersion version
  pub lines : All (λ s. All (IsSpelledLine version) s) sections
  pub few : length sections ≤ 4294967295

abbrev pub lines_of : List Section → List (List LogLine)
lines_of sections = map (λ s. s.lines) sections

-- the first line of each section comes after its header, where the first header is the file's line k
abbrev pub ArePlaced : ℕ → List Section → Type 0
ArePlaced k [] = ⊤
ArePlaced k (s ∷ ss) = (s.first ≡ k + 1) × ArePlaced (k + 1 + length s.lines) ss

-- the text of a log of either version that the grammar can spell
pub record IsLogText (text : List ℕ) : Type 0 where
  pub version : ℕ
  pub sections : List (List LogLine)
  pub text_is : text ≡ log_text version sections
  pub spelled : IsSpelled version sections

-- how many lines end in the front
abbrev pub lines_before : List ℕ → ℕ
lines_before front = count_by (λ b. nat_eq b 10) front

-- Line k is the first one outside the grammar: the lines before it are the text of a log, or there are none, and they
-- aren't with it and its line feed.
pub record IsFirstOutside (text : List ℕ) (k : ℕ) : Type 0 where
  pub front : List ℕ
  pub rest : List ℕ
  pub whole : text ≡ front ++ rest
  pub number_is : k ≡ lines_before front + 1
  pub before : (front ≡ []) ⊎ (IsLogText front × (rest ≢ []))
  pub outside : (l after : List ℕ) → rest ≡ l ++ (line_end ++ after) → All (λ b. b ≢ 10) l
      → IsLogText (front ++ l ++ line_end) → ⊥

-- why a text isn't read
abbrev pub IsLogRefusal : List ℕ → LogError → Type 0
IsLogRefusal text (Line k) = IsFirstOutside text k
IsLogRefusal text OutOfMemory = ⊤
