-- Why a program isn't admitted.
use Rattle.std.specs.Prelude.{⊤}
use Rattle.gh_ast.specs.Plain.{Program}
use Rattle.gh_ast.specs.Rules.{IsTyped, IsFirstBroken}
use Rattle.gh_ast.specs.Limits.{IsLimit}
use Rattle.gh_types.specs.declared.check.CheckError.{CheckError}
use Rattle.gh_types.specs.declared.check.CheckError.TheVariants.{TypeError, Limit, OutOfMemory}

-- the cause of a refusal: the first of all broken rules; where none is broken, the limit that is passed; memory may run
-- out at any time
abbrev pub IsCheckRefusal : Program → CheckError → Type 0
IsCheckRefusal p (TypeError number span) = IsFirstBroken p number span
IsCheckRefusal p (Limit limit) = IsTyped p × IsLimit p limit
IsCheckRefusal p OutOfMemory = ⊤
