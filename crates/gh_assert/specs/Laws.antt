-- The laws of splitting, assertions, walks and ownership.
use Rattle.std.specs.Prelude.{◌≡◌, ◌≢◌, ◌⊎◌, ◌↔◌, ℕ, ◌+◌, ◌≤◌, ◌<◌, List, length, map, Contains, Decides}
use Rattle.std.specs.FinMap.{entries}
use Rattle.gh_ast.specs.Plain.{Assertion}
use Rattle.gh_ast.specs.Programs.{Name}
use Rattle.gh_ast.specs.Names.{AssertionIn}
use Rattle.gh_assert.specs.Heaps.{Heap, IsProper, Splits, IsPart, IsCell, Segment}
use Rattle.gh_assert.specs.Meaning.{Store, Meaning, HasPart}
use Rattle.gh_assert.specs.Walks.{IsDistance, Meets, succ, walk, Reaches, Between, Allocated}
use Rattle.gh_assert.specs.Tests.{reaches, is_between}
use Rattle.gh_assert.specs.Ownership.{Owned, IsUnnamed, IsPointedToOnce, LastNamed}
use Rattle.gh_assert.specs.Hops.{Hop}
use Rattle.gh_assert.specs.Reading.{Covers, Reads, HasNames}

-- splitting has no order and no grouping, and two of whole, part and rest give the third
pub record SplitsCompose : Type 0 where
  pub symmetric : (h a b : Heap) → Splits h a b → Splits h b a
  pub associative : (h a b c d : Heap) → Splits h a b → Splits b c d → (k : Heap) × Splits h k d × Splits k a c
  pub whole : (h k a b : Heap) → Splits h a b → Splits k a b → h ≡ k
  pub rest : (h a b c : Heap) → Splits h a b → Splits h a c → b ≡ c

-- what meets an assertion has no cell at null
abbrev pub MetAreProper : Type 0
MetAreProper = (f : Assertion) (s : Store) (h : Heap) → Meaning f s h → IsProper h

-- at most one sub-heap meets an assertion
abbrev pub HaveOneFootprint : Type 0
HaveOneFootprint =
    (f : Assertion) (s : Store) (a b h : Heap) → Meaning f s a → Meaning f s b → IsPart a h → IsPart b h → a ≡ b

-- whether some part of a heap meets an assertion is decided, and so is whether the heap itself does
abbrev pub PartsAreDecided : Type 0
PartsAreDecided =
    (f : Assertion) (s : Store) (h : Heap) → IsProper h
    → (HasPart f s h ⊎ (HasPart f s h → ⊥)) × (Meaning f s h ⊎ (Meaning f s h → ⊥))

-- stores that agree on the names of an assertion are one to it: so any store that gives a callee's parameters the
-- arguments will do
abbrev pub NamesDecide : Type 0
NamesDecide =
    (f : Assertion) (xs : List Name) (s t : Store) (h : Heap) → AssertionIn f xs → map s xs ≡ map t xs
    → Meaning f s h ↔ Meaning f t h

-- a part is what is split off
abbrev pub PartsSplitOff : Type 0
PartsSplitOff = (a h : Heap) → IsPart a h ↔ ((b : Heap) × Splits h a b)

-- m and then n steps are m + n steps
abbrev pub WalksCompose : Type 0
WalksCompose = (h : Heap) (m n x : ℕ) → walk h (m + n) x ≡ walk h n (walk h m x)

-- what isn't allocated reaches itself alone
abbrev pub UnallocatedStay : Type 0
UnallocatedStay = (h : Heap) (x y : ℕ) → Between h x y y → Allocated h x ⊎ (x ≡ y)

-- before the end of a walk the places are allocated, and no two are the same
pub record IsSimple (h : Heap) (x y n : ℕ) : Type 0 where
  pub allocated : (i : ℕ) → i < n → Allocated h (walk h i x)
  pub distinct : (i k : ℕ) → i < k → k ≤ n → walk h i x ≢ walk h k x

abbrev pub WalksAreSimple : Type 0
WalksAreSimple = (h : Heap) (x y n : ℕ) → IsDistance (succ h) x y n → IsSimple h x y n

-- some part of h is a segment from x to y exactly where x reaches y
abbrev pub SegmentsExist : Type 0
SegmentsExist =
    (h : Heap) (x y : ℕ) → IsProper h → ((n : ℕ) × (a : Heap) × IsPart a h × Segment n x y a) ↔ Reaches h x y

-- a part that is a segment has as many cells as y is away, and its places are those of the walk before y
pub record IsWalk (h : Heap) (x y n : ℕ) (a : Heap) : Type 0 where
  pub distance : IsDistance (succ h) x y n
  pub places : (q : ℕ) → Allocated a q ↔ Meets (succ h) x n q
  pub between : (q : ℕ) → Allocated a q ↔ (Between h x q y × (q ≢ y))

abbrev pub SegmentsAreWalks : Type 0
SegmentsAreWalks = (h a : Heap) (x y n : ℕ) → IsPart a h → Segment n x y a → IsWalk h x y n a

-- what betweenness keeps, whatever the function
pub record Rows (B : ℕ → ℕ → ℕ → Type 0) : Type 0 where
  pub row_1 : (x : ℕ) → B x x x
  pub row_2 : (x y : ℕ) → B x y x → x ≡ y
  pub row_3 : (x y z : ℕ) → B x y y → B x z z → B x y z ⊎ B x z y
  pub row_4 : (x y z : ℕ) → B x y z → B x y y
  pub row_5 : (x y z : ℕ) → B x y z → B y z z
  pub row_6 : (x y z : ℕ) → B x y y → B y z z → B x z z
  pub row_7 : (x y u z : ℕ) → B x y z → B y u z → B x y u
  pub row_8 : (x y u z : ℕ) → B x y z → B y u z → B x u z
  pub row_9 : (x y u z : ℕ) → B x y z → B x u y → B x u z
  pub row_10 : (x y u z : ℕ) → B x y z → B x u y → B u y z

abbrev pub RowsHold : Type 0
RowsHold = (h : Heap) → Rows (Between h)

-- what is reached is reached in as many steps as there are cells
abbrev pub WalksAreShort : Type 0
WalksAreShort =
    (h : Heap) (x y : ℕ) → IsProper h → Reaches h x y → (n : ℕ) × (n ≤ length (entries h)) × IsDistance (succ h) x y n

-- the tests of walks decide whether x reaches y, and whether y lies between x and z
abbrev pub TestsDecide : Type 0
TestsDecide =
    (h : Heap) → IsProper h → ((x y : ℕ) → Decides (reaches h x y) (Reaches h x y))
    × ((x y z : ℕ) → Decides (is_between h x y z) (Between h x y z))

-- to each unnamed cell of an owned heap exactly one cell points
abbrev pub OnePointsThere : Type 0
OnePointsThere = (V : List ℕ) (h : Heap) → Owned V h → (c : ℕ) → Allocated h c → IsUnnamed V c → IsPointedToOnce h c

-- what is owned and has no name hangs below a last named cell
abbrev pub LastNamedExists : Type 0
LastNamedExists = (V : List ℕ) (h : Heap) → Owned V h → (c : ℕ) → Allocated h c → IsUnnamed V c → LastNamed V h c

-- three facts on an assertion, read off the named values
pub record IsReadOff (V : List ℕ) (h : Heap) (s : Store) (f : Assertion) : Type 0 where
  pub part : Reads f s h V ↔ ((a : Heap) × IsPart a h × Meaning f s a)
  pub footprint : (a : Heap) → IsPart a h → Meaning f s a → (z : ℕ) → Allocated a z ↔ Covers f s h z
  pub whole : Meaning f s h ↔ (Reads f s h V × ((z : ℕ) → Contains V z → Allocated h z ↔ Covers f s h z))

abbrev pub ReadingLaw : Type 0
ReadingLaw =
    (V : List ℕ) (h : Heap) (s : Store) (f : Assertion) → IsProper h → Owned V h → HasNames f s h V → IsReadOff V h s f

-- from a named cell some named value is met
abbrev pub HopsExist : Type 0
HopsExist =
    (V : List ℕ) (h : Heap) (x : ℕ) → IsProper h → Owned V h → Contains V x → Allocated h x → (v : ℕ) × Hop V h x v

-- rows 11, 12, 14 and 15 of hops among what N holds of, for any equality, betweenness and cells
pub record LinkRows (N : ℕ → Type 0) (E : ℕ → ℕ → Type 0) (B : ℕ → ℕ → ℕ → Type 0) (H : ℕ → ℕ → Type 0)
    (A : ℕ → Type 0) : Type 0 where
  pub row_11 : (x v : ℕ) → H x v → B x v v
  pub row_12 : (x v w : ℕ) → N w → H x v → B x w w → E w x ⊎ B x v w
  pub row_14 : (x w : ℕ) → N w → H x x → B x w w → E w x
  pub row_15 : (x v : ℕ) → H x v → A x

-- these rows in a heap, and the hop to a named content
pub record HopRows (V : List ℕ) (h : Heap) : Type 0 where
  pub rows : LinkRows (Contains V) (λ x y. x ≡ y) (Between h) (Hop V h) (Allocated h)
  pub content : (x : ℕ) → Allocated h x → Contains V (succ h x) → Hop V h x (succ h x)

abbrev pub HopRowsHold : Type 0
HopRowsHold = (V : List ℕ) (h : Heap) → HopRows V h

-- a part that meets an assertion is owned
abbrev pub FootprintsAreOwned : Type 0
FootprintsAreOwned =
    (V : List ℕ) (h a : Heap) (s : Store) (f : Assertion) → IsPart a h → HasNames f s h V → Meaning f s a → Owned V a

-- taking a footprint off an owned heap, or adding one: what a call and a loop do
abbrev pub FootprintsComeAndGo : Type 0
FootprintsComeAndGo =
    (V : List ℕ) (h a b : Heap) (s : Store) (f : Assertion) → Splits h a b → HasNames f s h V → Meaning f s a
    → Owned V h ↔ Owned V b

-- the same of one cell: what `free`, `new` and a write do
abbrev pub CellsComeAndGo : Type 0
CellsComeAndGo =
    (V : List ℕ) (h a b : Heap) (x v : ℕ) → Splits h a b → IsCell x v a → Contains V x → Contains V v
    → Owned V h ↔ Owned V b

abbrev pub UnionsAreOwned : Type 0
UnionsAreOwned = (V : List ℕ) (h a b : Heap) → Splits h a b → Owned V a → Owned V b → Owned V h

-- from the cells of an owned part the hops are those of the whole
abbrev pub HopsAreKept : Type 0
HopsAreKept = (V : List ℕ) (h b : Heap) (x v : ℕ) → IsPart b h → Owned V b → Allocated b x → Hop V b x v ↔ Hop V h x v
