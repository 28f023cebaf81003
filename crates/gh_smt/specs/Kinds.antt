-- What one number of each kind declares.
use Rattle.std.specs.Prelude.{ℕ, List, codes}
use Rattle.gh_smt.specs.Texts.{term_declared, version_declared, definition_declared}
use Rattle.gh_smt.specs.declared.kind.Kind.{Kind}
use Rattle.gh_smt.specs.declared.kind.Kind.TheVariants.{Term, Version, Definition}

abbrev pub declared_text : Kind → ℕ → List ℕ
declared_text Term i = term_declared i
declared_text Version i = version_declared i
declared_text Definition i = definition_declared i

-- how the text that declares a number of a kind begins
abbrev pub start_text : Kind → List ℕ
start_text Term = codes "(declare-fun t"
start_text Version = codes "(declare-fun b"
start_text Definition = codes "(declare-fun d"
