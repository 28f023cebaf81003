-- What is left of a text without comments.
use Rattle.std.specs.Prelude.{◌≡◌, ℕ, List, Bool, true, false}
use Rattle.gh_base.specs.declared.place.Span.{Span}
use Rattle.gh_ast.specs.Tokens.{cleared, wiped, IsFirstDeep, place_of}

-- the rest of a text without comments, where a comment may have begun before it
abbrev pub cleared_from : Bool → List ℕ → List ℕ
cleared_from true rest = wiped rest
cleared_from false rest = cleared rest

-- the place of the first bracket with which too many stand open
abbrev pub IsDeepPlace : List ℕ → Span → Type 0
IsDeepPlace text place = (k : ℕ) × IsFirstDeep text k × (place ≡ place_of text k)
