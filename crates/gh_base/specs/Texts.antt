-- What texts of all crates share.
use Rattle.std.specs.Prelude.{ℕ, List, [], ◌∷◌}

-- a line feed ends a line
abbrev pub line_end : List ℕ
line_end = 10 ∷ []
