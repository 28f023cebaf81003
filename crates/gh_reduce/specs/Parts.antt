-- What comes in the place of a part of the heap.
use Rattle.std.specs.Prelude.{ℕ, ◌+◌, ◌<◌, List, map}
use Rattle.gh_base.specs.declared.sizes.Sizes.{Sizes}
use Rattle.gh_grass.specs.Claims.{GroundFormula, all_of, one_of}
use Rattle.gh_path.specs.Terms.{Kind}
use Rattle.gh_symb.specs.Symbolic.{Under}
use Rattle.gh_symb.specs.Formulas.{placed_formulas, alternatives_formulas, part_formulas}
use Rattle.gh_symb.specs.Inside.{under_of, AllAreInside, IsUnderInside}
use Rattle.gh_symb.specs.declared.over_terms.BoundAssertion.{BoundAssertion}
use Rattle.gh_reduce.specs.declared.parts.Change.{Change}

-- an alternative stands in the place of the part
abbrev pub placed_of : List Kind → ℕ → Under → Under → GroundFormula
placed_of ks i u q = all_of (placed_formulas ks i u q)

-- the formulas that say so, one by one
abbrev pub placed_list : List Kind → ℕ → BoundAssertion → BoundAssertion → List GroundFormula
placed_list ks i u q = placed_formulas ks i (under_of u) (under_of q)

-- one of some alternatives stands in the place of the part
abbrev pub one_is_placed : List Kind → ℕ → BoundAssertion → List BoundAssertion → GroundFormula
one_is_placed ks i u qs = one_of (map (placed_of ks i (under_of u)) (map under_of qs))

-- the terms and versions of the change are there
pub record IsChangeInside (s : Sizes) (change : Change) : Type 0 where
  pub version : change.old + 1 < s.versions
  pub before : IsUnderInside s.terms s.versions (under_of change.before.now)
  pub after : AllAreInside s.terms s.versions (map under_of change.after.now)

-- what a change says of its alternatives
abbrev pub alternatives_stated : List Kind → Change → List GroundFormula
alternatives_stated ks change =
    alternatives_formulas ks change.old (under_of change.before.now) (map under_of change.after.now)

-- all that a change says
abbrev pub change_stated : List Kind → Change → List GroundFormula
change_stated ks change = part_formulas ks change.old (under_of change.before.now) (map under_of change.after.now)
