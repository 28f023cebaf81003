-- A rule of the grammar spells at most one value at the front, and leaves at most one rest.
use Rattle.std.specs.Prelude.{◌≡◌, List}
use Rattle.gh_ast.specs.Tokens.{Token}

pub record AreOne {X : Type 0} (x y : X) (left right : List Token) : Type 0 where
  pub value : x ≡ y
  pub rest : left ≡ right

abbrev pub IsUnique : {X : Type 0} → (X → List Token → Type 0) → Type 0
IsUnique {X} P = (x y : X) (left right : List Token) → P x left → P y right → AreOne x y left right
