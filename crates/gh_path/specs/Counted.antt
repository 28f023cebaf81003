-- What is kept with a program whose conditions are counted: their number, and the starts with their nodes.
use Rattle.std.specs.Prelude.{◌≡◌, ℕ, length}
use Rattle.gh_ast.specs.Plain.{Program}
use Rattle.gh_path.specs.Admitted.{HasManyPaths, HasManySteps, NoneHas}
use Rattle.gh_path.specs.Conditions.{conditions}
use Rattle.gh_path.specs.Roots.{AreStarts}
use Rattle.gh_path.specs.declared.starts.Starts.{Starts}

pub record KeepsCounts (P : Program) (count : ℕ) (starts : Starts) : Type 0 where
  pub all : count ≡ length (conditions P)
  pub paths : NoneHas P (HasManyPaths P)
  pub steps : NoneHas P (HasManySteps P)
  pub starts_are : AreStarts P starts (conditions P)
