-- Models of ground clauses and of all axiom instances, and those with the fewest cells in the first heap.
use Rattle.std.specs.Prelude.{◌≡◌, ◌<◌, ℕ, Option, Some, None}
use Rattle.std.specs.FinMap.{len}
use Rattle.gh_base.specs.Grounds.{Problem}
use Rattle.gh_base.specs.Structures.{Tables, interpretation_of}
use Rattle.gh_assert.specs.Heaps.{Heap}
use Rattle.gh_decide.specs.Verdicts.{IsWritable}
use Rattle.gh_inst.specs.Models.{IsModel}
use Rattle.gh_log.specs.Sections.{IsValidSection}
use Rattle.gh_log.specs.declared.lines.Section.{Section}
use Rattle.gh_model.specs.BuiltTraces.{heap_in}
use Rattle.gh_small.specs.Leaders.{allocated_classes}
use Rattle.gh_small.specs.Bounded.{bounded_by, HasRoom}
use Rattle.gh_small.specs.declared.descent.Fewest.{Fewest}

-- a structure over the terms and versions of the clauses, with whatever definitions
pub record IsModelled (p : Problem) (s : Tables) : Type 0 where
  pub terms : s.sizes.terms ≡ p.sizes.terms
  pub versions : s.sizes.versions ≡ p.sizes.versions
  pub model : IsModel p (interpretation_of s)

-- the heap of the first version
abbrev pub first_heap : Tables → Heap
first_heap s = heap_in (interpretation_of s) s.sizes.terms 0

-- where it has cells, 32 bits number the clauses and definitions of "fewer cells than that"
abbrev pub HasRoomBelow : Problem → Tables → Type 0
HasRoomBelow p s = 0 < len (first_heap s) → HasRoom p (len (first_heap s))

-- how many classes are allocated in the first version
abbrev pub first_classes : Tables → ℕ
first_classes s = allocated_classes (interpretation_of s) s.sizes.terms

-- the section, which logs of version 2 can spell, is valid for the clauses that say "fewer than so many cells"
pub record IsLower (p : Problem) (cells : ℕ) (s : Section) : Type 0 where
  pub valid : IsValidSection (bounded_by p cells) s.lines
  pub writable : IsWritable s

-- there is a section exactly where there is a cell, and it shows that no model has fewer
abbrev pub IsLowest : Problem → ℕ → Option Section → Type 0
IsLowest p cells None = cells ≡ 0
IsLowest p cells (Some s) = (0 < cells) × IsLower p cells s

-- a model, how many cells its first heap has, and what shows that no model has fewer
pub record IsFewest (p : Problem) (f : Fewest) : Type 0 where
  pub model : IsModelled p f.structure
  pub count : f.cells ≡ len (first_heap f.structure)
  pub lowest : IsLowest p f.cells f.section
