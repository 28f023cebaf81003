-- Two terms, fewer than two classes, definitions from 5 on: leaders 5 and 6, counters 7 to 10.
use Rattle.std.specs.Prelude.{◌≡◌, [], ◌∷◌}
use Rattle.gh_base.specs.declared.atom.Atom.TheVariants.{Eq, Alloc, Def}
use Rattle.gh_base.specs.Atoms.{term, positive, negative}
use Rattle.gh_small.specs.Fewer.{fewer}

abbrev pub TwoAreSpelled : Type 0
TwoAreSpelled =
    fewer 2 5 2
    ≡ (positive (Def 5) ∷ negative (Alloc 0 (term 0)) ∷ [])
    ∷ (positive (Def 6) ∷ negative (Alloc 0 (term 1)) ∷ positive (Eq (term 0) (term 1)) ∷ [])
    ∷ (positive (Def 7) ∷ negative (Def 5) ∷ [])
    ∷ (positive (Def 9) ∷ negative (Def 6) ∷ [])
    ∷ (positive (Def 9) ∷ negative (Def 7) ∷ [])
    ∷ (positive (Def 10) ∷ negative (Def 6) ∷ negative (Def 7) ∷ [])
    ∷ (positive (Def 10) ∷ negative (Def 8) ∷ [])
    ∷ (negative (Def 10) ∷ [])
    ∷ []
