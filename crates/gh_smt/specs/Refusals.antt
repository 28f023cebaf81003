-- Why there is no script of a condition.
use Rattle.std.specs.Prelude.{◌≡◌, ◌<◌, ◌≤◌}
use Rattle.gh_base.specs.Grounds.{Problem}
use Rattle.gh_smt.specs.Scripts.{assertion_count}
use Rattle.gh_smt.specs.declared.error.ScriptError.{ScriptError}
use Rattle.gh_smt.specs.declared.error.ScriptError.TheVariants.{TooLong, OutOfMemory}

-- it would be too long, with so many assertions; or there is no room for it
abbrev pub IsScriptRefusal : Problem → ScriptError → Type 0
IsScriptRefusal p (TooLong count) = (count ≡ assertion_count p) × (2000000 < count)
IsScriptRefusal p OutOfMemory = assertion_count p ≤ 2000000
