-- The theory of a test.
use Rattle.std.specs.Prelude.{◌-◌, List, [], ◌∷◌, false}
use Rattle.gh_base.specs.declared.atom.Atom.TheVariants.{Def}
use Rattle.gh_base.specs.declared.atom.Lit.{Lit}
use Rattle.gh_base.specs.declared.sizes.Sizes.{Sizes}

-- the last two definitions aren't both true
abbrev pub last_apart : Sizes → List Lit
last_apart s =
    (record { atom = Def (s.defs - 2); positive = false }) ∷ (record { atom = Def (s.defs - 1); positive = false }) ∷ []
