-- Runs beside a frame.
use Rattle.std.specs.Prelude.{◌≡◌, List, [], ◌∷◌}
use Rattle.gh_assert.specs.Heaps.{Heap, Splits}
use Rattle.gh_machine.specs.Machine.{Config}

-- the configuration with another heap
abbrev pub holding : Config → Heap → Config
holding c h = record { heap = h; top = c.top; below = c.below }

-- the second is the first without the frame
abbrev pub IsWithout : Heap → Config → Config → Type 0
IsWithout frame c b = Splits c.heap b.heap frame × (b ≡ holding c b.heap)

abbrev pub AreWithout : Heap → List Config → List Config → Type 0
AreWithout frame [] [] = Unit {0}
AreWithout frame (c ∷ cs) (b ∷ bs) = IsWithout frame c b × AreWithout frame cs bs
AreWithout frame cs bs = ⊥
