-- What holds of the programs that texts spell.
use Rattle.std.specs.Prelude.{◌≡◌, ℕ, List}
use Rattle.gh_ast.specs.Plain.{Program}
use Rattle.gh_ast.specs.Grammar.{Spells}

-- a text spells at most one program, places included
abbrev pub HaveOneProgram : Type 0
HaveOneProgram = (text : List ℕ) (p q : Program) → Spells text p → Spells text q → p ≡ q
