-- Parts of heaps that give way to others.
use Rattle.std.specs.Prelude.{◌≡◌, ◌↔◌, Bool, IsTrue}
use Rattle.gh_ast.specs.Plain.{Procedure, assertion_of}
use Rattle.gh_assert.specs.Heaps.{Heap}
use Rattle.gh_assert.specs.Meaning.{Store, Meaning, HasPart, MeetsOneOf}
use Rattle.gh_assert.specs.Stores.{store_of}
use Rattle.gh_trace.specs.declared.parts.Part.{Part}
use Rattle.gh_trace.specs.Traces.{State, Replaced}

-- the heap meets the assertion
abbrev pub Meets : Part → Heap → Type 0
Meets p h = Meaning (assertion_of p.assertion.now) (store_of p.store.now) h

-- some part of p's heap meets its assertion
abbrev pub HasMet : Part → Type 0
HasMet p = HasPart (assertion_of p.assertion.now) (store_of p.store.now) p.heap.now

-- in p's heap a part that meets its assertion gives way to one of which Q holds; the rest stays
abbrev pub GivesWay : Part → (Heap → Type 0) → Heap → Type 0
GivesWay p Q k = Replaced (assertion_of p.assertion.now) (store_of p.store.now) p.heap.now Q k

-- the heap stands in k in the place of that part
abbrev pub StandsInPlace : Part → Heap → Heap → Type 0
StandsInPlace p k other = GivesWay p (λ h. h ≡ other) k

-- a part that meets what the procedure needs gives way to one that meets an alternative of what it gives
abbrev pub IsAnswered : Procedure → Store → Heap → Heap → Type 0
IsAnswered p s h k = Replaced p.needs s h (MeetsOneOf p.gives s) k

-- b is true exactly where it does
abbrev pub DecidesAnswer : Procedure → Store → Heap → Heap → Bool → Type 0
DecidesAnswer p s h k b = IsTrue b ↔ IsAnswered p s h k

-- the state's heap meets an alternative of what the procedure gives
abbrev pub IsReturned : Procedure → State → Type 0
IsReturned p x = MeetsOneOf p.gives x.store x.heap
