-- What is answered for the number of a condition.
use Rattle.std.specs.Prelude.{ℕ, Option, Some, None}
use Rattle.gh_ast.specs.Plain.{Program}
use Rattle.gh_path.specs.Conditions.{IsConditionAt, IsNoNumber}
use Rattle.gh_path.specs.Kept.{condition_of}
use Rattle.gh_path.specs.declared.condition.Condition as kept

-- none: the number is 0 or above the count. Else the condition with this number
abbrev pub IsNumbered : Program → ℕ → Option kept.Condition → Type 0
IsNumbered P n None = IsNoNumber P n
IsNumbered P n (Some r) = IsConditionAt P n (condition_of r)
