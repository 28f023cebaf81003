-- Whether a name is in a list.
use Rattle.std.specs.Prelude.{◌⊎◌, List, [], ◌∷◌, Contains}
use Rattle.std.specs.Str.{bytes_eq}
use Rattle.std.proofs.lemmas.Bool.{cases_Bool}
use Rattle.std.proofs.lemmas.Slice.Eq.{bytes_eq-Decides}
use Rattle.std.proofs.Common.{subst, inl, inr}
use Rattle.gh_ast.specs.Programs.{Name}
use Rattle.gh_ast.proofs.Lists.{member_first, member_later, member_cases, no_member}

pub name_or : (xs : List Name) (y : Name) → Contains xs y ⊎ (Contains xs y → ⊥)
name_or [] y = inr (no_member y)
name_or (x ∷ xs) y = elim (cases_Bool (bytes_eq x y)) [
  | inl same ↦ inl (subst (Contains (x ∷ xs)) ((bytes_eq-Decides x y).0 same) (member_first x xs))
  | inr other ↦ elim (name_or xs y) [
    | inl i ↦ inl (member_later x y xs i)
    | inr out ↦ inr (λ i. elim (member_cases x xs y i)
        [ inl e ↦ let same = (bytes_eq-Decides x y).1 e in absurd cc | inr j ↦ out j ])
  ]
]
