-- What is stated of each term, or of each two terms.
use Rattle.std.specs.Prelude.{ℕ, ◌≡◌, ◌<◌, List, [], ◌∷◌, ◌++◌, map}
use Rattle.gh_base.specs.declared.atom.Term.{Term}
use Rattle.gh_base.specs.declared.sizes.Sizes.{Sizes}
use Rattle.gh_base.specs.declared.term.TermKind.{TermKind}
use Rattle.gh_base.specs.Grounds.{Problem}
use Rattle.gh_grass.specs.declared.formula.Formula.{Formula}
use Rattle.gh_grass.specs.Claims.{GroundFormula, ground_formula_list, negation_of, equivalence_of, all_of, one_of}
use Rattle.gh_grass.specs.Claims.{equality}
use Rattle.gh_path.specs.Terms.{Kind}
use Rattle.gh_symb.specs.Encodings.{plain_kind}
use Rattle.gh_symb.specs.Formulas.{allocated, hops, within, leads, outside_footprint, each, each_pair}
use Rattle.gh_reduce.specs.declared.rows.EachTerm.{EachTerm}
use Rattle.gh_reduce.specs.declared.rows.EachTerm.TheVariants.{Leads, Same, Made, Freed, Apart, Replaced}
use Rattle.gh_reduce.specs.declared.rows.EachPair.{EachPair}
use Rattle.gh_reduce.specs.declared.rows.EachPair.TheVariants.{Others, Kept}
use Rattle.gh_symb.specs.Inside.{under_of, IsUnderInside}

-- the kinds of some terms
abbrev pub kinds_of : List TermKind → List Kind
kinds_of terms = map plain_kind terms

-- the cell at z leads to v in the new version exactly where it does in the old one
abbrev pub same_hops : ℕ → ℕ → Term → Term → GroundFormula
same_hops new old z v = equivalence_of (hops new z v) (hops old z v)

-- what a statement of each term says of the term z
abbrev pub of_term : EachTerm → Term → GroundFormula
of_term (Leads i n) z = leads n i z
of_term (Same old new) z = equivalence_of (allocated new z) (allocated old z)
of_term (Made old new l) z = equivalence_of (allocated new z) (one_of (allocated old z ∷ equality z l ∷ []))
of_term (Freed old new x) z =
    equivalence_of (allocated new z) (all_of (allocated old z ∷ negation_of (equality z x) ∷ []))
of_term (Apart old u q) z =
    negation_of (all_of (outside_footprint old (under_of u.now) z ∷ within (under_of q.now) z ∷ []))
of_term (Replaced old new u q) z =
    equivalence_of (allocated new z)
    (one_of (outside_footprint old (under_of u.now) z ∷ within (under_of q.now) z ∷ []))

-- what a statement of each two terms says of the terms z and v
abbrev pub of_pair : EachPair → Term → Term → GroundFormula
of_pair (Others old new x) z v = one_of (equality z x ∷ same_hops new old z v ∷ [])
of_pair (Kept old new u) z v =
    one_of (negation_of (outside_footprint old (under_of u.now) z) ∷ same_hops new old z v ∷ [])

-- formulas, and then one of each of n terms
abbrev pub with_each : List Formula → ℕ → (Term → GroundFormula) → List GroundFormula
with_each members n f = ground_formula_list members ++ each n f

-- f is said of each term of a problem
abbrev pub said_of_each : Problem → (Term → GroundFormula) → List GroundFormula
said_of_each p f = each p.sizes.terms f

-- f is said of each two terms of a problem
abbrev pub said_of_pairs : Problem → (Term → Term → GroundFormula) → List GroundFormula
said_of_pairs p f = each_pair p.sizes.terms f

-- the terms and versions of a statement are there
abbrev pub IsEachTermInside : Sizes → EachTerm → Type 0
IsEachTermInside s (Leads i n) = (i < s.versions) × (n ≡ s.terms)
IsEachTermInside s (Same old new) = (old < s.versions) × (new < s.versions)
IsEachTermInside s (Made old new l) = (old < s.versions) × (new < s.versions) × (l.0 < s.terms)
IsEachTermInside s (Freed old new x) = (old < s.versions) × (new < s.versions) × (x.0 < s.terms)
IsEachTermInside s (Apart old u q) =
    (old < s.versions) × IsUnderInside s.terms s.versions (under_of u.now)
    × IsUnderInside s.terms s.versions (under_of q.now)
IsEachTermInside s (Replaced old new u q) =
    (old < s.versions) × (new < s.versions) × IsUnderInside s.terms s.versions (under_of u.now)
    × IsUnderInside s.terms s.versions (under_of q.now)

abbrev pub IsEachPairInside : Sizes → EachPair → Type 0
IsEachPairInside s (Others old new x) = (old < s.versions) × (new < s.versions) × (x.0 < s.terms)
IsEachPairInside s (Kept old new u) =
    (old < s.versions) × (new < s.versions) × IsUnderInside s.terms s.versions (under_of u.now)
