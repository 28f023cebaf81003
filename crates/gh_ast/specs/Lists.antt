-- Words on lists that the rules and the limits share.
use Rattle.std.specs.Prelude.{◌≡◌, ℕ, ◌<◌, List, length, slice_index_or}

-- x is the first of xs of which P holds
pub record IsFirstWith {X : Type 0} (P : X → Type 0) (xs : List X) (x : X) : Type 0 where
  pub place : ℕ
  pub within : place < length xs
  pub element : slice_index_or xs place x ≡ x
  pub holds : P x
  pub earlier : (j : ℕ) (d : X) → j < place → P (slice_index_or xs j d) → ⊥
