-- Laws of the definitions.
use Rattle.std.specs.Prelude.{ℕ, ◌≡◌, ◌≢◌, ◌↔◌, ◌+◌, ◌*◌, ◌^◌, length, Contains}
use Rattle.std.specs.List.{AllPairs}
use Rattle.gh_inst.specs.declared.naming.InstanceName.{InstanceName}
use Rattle.gh_inst.specs.Instances.{instances, IsInstance}

-- the names in the list of all instances are those that name an instance
abbrev pub AreAllInstances : Type 0
AreAllInstances =
    (n versions : ℕ) (name : InstanceName) → Contains (instances n versions) name ↔ IsInstance n versions name

-- each is there once
abbrev pub AreDistinct : Type 0
AreDistinct = (n versions : ℕ) → AllPairs (λ a b. a ≢ b) (instances n versions)

-- how many there are
abbrev pub AreCounted : Type 0
AreCounted = (n versions : ℕ) → length (instances n versions) ≡ versions * (n + 5 * n ^ 2 + 5 * n ^ 3 + 4 * n ^ 4)
