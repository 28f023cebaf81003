-- The tuples of terms in lexicographic order.
use Rattle.std.specs.Prelude.{ℕ, zero, suc, List, [], ◌∷◌, map}
use Rattle.std.specs.List.{flat_map}
use Rattle.gh_base.specs.declared.atom.Term.{Term}
use Rattle.gh_base.specs.Atoms.{terms_below}

-- the tuples of a length over the first n terms: by the first term, then by the rest
abbrev pub tuples : ℕ → ℕ → List (List Term)
tuples zero n = [] ∷ []
tuples (suc v) n = flat_map (λ t. map (λ rest. t ∷ rest) (tuples v n)) (terms_below n)
