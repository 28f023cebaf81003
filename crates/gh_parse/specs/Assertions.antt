-- Parts of assertions that the parser reads by themselves.
use Rattle.std.specs.Prelude.{List}
use Rattle.gh_ast.specs.declared.sign.Sign.TheVariants.{BraceOpen, BraceClose}
use Rattle.gh_ast.specs.Plain.{Assertion}
use Rattle.gh_ast.specs.Tokens.{Token}
use Rattle.gh_ast.specs.Grammar.{SpellsAssertion}
use Rattle.gh_parse.specs.Answers.{IsBetween}

-- an assertion in braces
abbrev pub SpellsBraced : List Token → Assertion → List Token → Type 0
SpellsBraced = IsBetween BraceOpen BraceClose SpellsAssertion
