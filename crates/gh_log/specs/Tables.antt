-- Lines that the program borrows, and lines whose literals and numbers stand in tables.
use Rattle.std.specs.Prelude.{◌≡◌, ◌<◌, ◌≤◌, ◌+◌, ◌^◌, ⊤, ℕ, List, [], ◌∷◌, ◌++◌, take, drop, map, sum_by, length, All}
use Rattle.gh_base.specs.declared.atom.Lit.{Lit}
use Rattle.gh_log.specs.Lines as plain
use Rattle.gh_log.specs.declared.lines.LogLine.{LogLine}
use Rattle.gh_log.specs.declared.lines.LogLine.TheVariants as line
use Rattle.gh_log.specs.declared.lines.Part.{Part}
use Rattle.gh_log.specs.declared.lines.Entry.{Entry}
use Rattle.gh_log.specs.declared.lines.Entry.TheVariants as entry

-- the plain line of one that the program borrows
abbrev pub line_of : LogLine → plain.LogLine
line_of (line.Axiom name) = plain.Axiom name
line_of (line.Clause k) = plain.Clause k
line_of (line.Lemma c) = plain.Lemma c.now
line_of (line.Learnt c) = plain.Learnt c.now
line_of (line.Hinted c hints) = plain.Hinted c.now hints.now
line_of (line.Delete positions) = plain.Delete positions.now

-- what stands in the table from one place to another
abbrev pub part_of : {X : Type 0} → List X → Part → List X
part_of table part = drop part.from (take part.to table)

-- the line of a clause that hints show, by its numbers: the places where its literals begin and end, and then the
-- hints
abbrev pub hinted_at : List Lit → List ℕ → plain.LogLine
hinted_at literals [] = plain.Hinted [] []
hinted_at literals (from ∷ []) = plain.Hinted [] (from ∷ [])
hinted_at literals (from ∷ to ∷ hints) = plain.Hinted (part_of literals (record { from = from; to = to })) hints

-- the plain line of an entry, whose literals and numbers stand in these tables
abbrev pub line_at : List Lit → List ℕ → Entry → plain.LogLine
line_at literals numbers (entry.Axiom name) = plain.Axiom name
line_at literals numbers (entry.Clause k) = plain.Clause k
line_at literals numbers (entry.Lemma c) = plain.Lemma (part_of literals c)
line_at literals numbers (entry.Learnt c) = plain.Learnt (part_of literals c)
line_at literals numbers (entry.Hinted part) = hinted_at literals (part_of numbers part)
line_at literals numbers (entry.Delete positions) = plain.Delete (part_of numbers positions)

-- the part lies within a table of this length
pub record LiesWithin (length : ℕ) (part : Part) : Type 0 where
  pub order : part.from ≤ part.to
  pub below : part.to ≤ length

-- the literals of a clause that hints show lie within a table of this length
abbrev pub HasClause : ℕ → List ℕ → Type 0
HasClause length [] = ⊥
HasClause length (from ∷ []) = ⊥
HasClause length (from ∷ to ∷ hints) = LiesWithin length (record { from = from; to = to })

-- the parts of an entry lie within the tables
abbrev pub HasParts : List Lit → List ℕ → Entry → Type 0
HasParts literals numbers (entry.Lemma c) = LiesWithin (length literals) c
HasParts literals numbers (entry.Learnt c) = LiesWithin (length literals) c
HasParts literals numbers (entry.Hinted part) =
    LiesWithin (length numbers) part × HasClause (length literals) (part_of numbers part)
HasParts literals numbers (entry.Delete positions) = LiesWithin (length numbers) positions
HasParts literals numbers _ = ⊤

-- the part is what was added to a table, whose length 32 bits count
pub record IsAdded {X : Type 0} (old new items : List X) (part : Part) : Type 0 where
  pub grown : new ≡ old ++ items
  pub from : part.from ≡ length old
  pub to : part.to ≡ length new
  pub few : length new < 2 ^ 32

-- the new list is the old one with something more at its end, or the same
pub record Extends {X : Type 0} (new old : List X) : Type 0 where
  pub more : List X
  pub same : new ≡ old ++ more

-- how many literals the table holds of a line
abbrev pub literals_of : plain.LogLine → ℕ
literals_of (plain.Axiom name) = 0
literals_of (plain.Clause k) = 0
literals_of (plain.Lemma c) = length c
literals_of (plain.Learnt c) = length c
literals_of (plain.Hinted c hints) = length c
literals_of (plain.Delete positions) = 0

-- how many numbers the table holds of a line: hints, with the two places of their clause, or positions
abbrev pub numbers_of : plain.LogLine → ℕ
numbers_of (plain.Axiom name) = 0
numbers_of (plain.Clause k) = 0
numbers_of (plain.Lemma c) = 0
numbers_of (plain.Learnt c) = 0
numbers_of (plain.Hinted c hints) = 2 + length hints
numbers_of (plain.Delete positions) = length positions

-- 32 bits count the literals of all lines, and their numbers
pub record HaveFewParts (lines : List plain.LogLine) : Type 0 where
  pub literals : sum_by literals_of lines < 2 ^ 32
  pub numbers : sum_by numbers_of lines < 2 ^ 32

-- the tables are at least as long as the lines need
pub record HoldLines (lines : List plain.LogLine) (literals : List Lit) (numbers : List ℕ) : Type 0 where
  pub few : HaveFewParts lines
  pub literals_there : sum_by literals_of lines ≤ length literals
  pub numbers_there : sum_by numbers_of lines ≤ length numbers

-- .. for the lines of entries
abbrev pub HoldEntries : List Lit → List ℕ → List Entry → Type 0
HoldEntries literals numbers entries = HoldLines (map (line_at literals numbers) entries) literals numbers

-- the parts of the entries lie within the tables, which hold their lines
abbrev pub AreEntries : List Lit → List ℕ → List Entry → Type 0
AreEntries literals numbers entries = All (HasParts literals numbers) entries × HoldEntries literals numbers entries

-- a table grew by so many items at least, and where there are some, 32 bits count its length
pub record MakesRoom {X : Type 0} (old new : List X) (more : ℕ) : Type 0 where
  pub grown : length old + more ≤ length new
  pub few : 0 < more → length new < 2 ^ 32

-- the table of literals grew by as many as the line has at least, and so did the table of numbers
abbrev pub HoldsLiterals : List Lit → List Lit → plain.LogLine → Type 0
HoldsLiterals old new l = MakesRoom old new (literals_of l)

abbrev pub HoldsNumbers : List ℕ → List ℕ → plain.LogLine → Type 0
HoldsNumbers old new l = MakesRoom old new (numbers_of l)
