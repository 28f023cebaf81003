use Rattle.std.proofs.Common.{◌≡◌, ◌<◌, ℕ, false}
use Rattle.gh_base.specs.Structures.{interpretation_of}
use Rattle.gh_model.specs.Versions.{version_of}
use Rattle.gh_model.proofs.build.content.Given as goal

abbrev pub invariant-loop-next : goal.invariant-loop-next
invariant-loop-next l =
    (v : ℕ) → v < l.next → (version_of (interpretation_of l.structure) l.version).hop l.x.0 v ≡ false
