-- What a call or a loop takes over of a heap, what it leaves aside, and what comes back.
use Rattle.std.specs.Prelude.{◌≡◌}
use Rattle.std.specs.FinMap.{keys}
use Rattle.gh_ast.specs.Plain.{Assertion, assertion_of}
use Rattle.gh_assert.specs.Heaps.{Heap, Splits}
use Rattle.gh_assert.specs.Meaning.{Store, Meaning}
use Rattle.gh_assert.specs.Stores.{store_of}
use Rattle.gh_trace.specs.declared.parts.Part.{Part}
use Rattle.gh_lens.specs.declared.exchange.Exchange.{Exchange}

-- the old heap is the part that meets the assertion, whose places are handed over, and a frame; the new heap is what
-- came back, and the same frame
pub record IsExchange (f : Assertion) (s : Store) (old new : Heap) (e : Exchange) : Type 0 where
  pub part : Heap
  pub splits : Splits old part e.frame
  pub meets : Meaning f s part
  pub handed : e.handed.items ≡ keys part
  pub joins : Splits new e.back e.frame

-- what is handed over where a part gives way to another, up to the heap after it
abbrev pub IsExchangeOf : Part → Heap → Exchange → Type 0
IsExchangeOf p new e = IsExchange (assertion_of p.assertion.now) (store_of p.store.now) p.heap.now new e
