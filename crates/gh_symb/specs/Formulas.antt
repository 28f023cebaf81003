-- The formulas of a condition over terms, and their clauses.
use Rattle.std.specs.Prelude.{ℕ, ◌+◌, ◌-◌, List, [], ◌∷◌, ◌++◌, map, length, ◌==◌, cond, position, unwrap_or}
use Rattle.std.specs.List.{flat_map, range_with_len}
use Rattle.gh_base.specs.declared.atom.Term.{Term}
use Rattle.gh_base.specs.declared.atom.Atom.TheVariants.{Hop, Alloc}
use Rattle.gh_base.specs.Grounds.{Problem}
use Rattle.gh_base.specs.Atoms.{term, terms_below}
use Rattle.gh_path.specs.Terms.{Kind, null, value, next, same_kind, Bindings}
use Rattle.gh_grass.specs.Claims.{GroundFormula, atom, negation_of, equivalence_of, all_of, one_of, equality}
use Rattle.gh_grass.specs.Footprints.{Variables, compared, footprint, structure}
use Rattle.gh_grass.specs.Clauses.{clauses_of, definitions_of}
use Rattle.gh_symb.specs.Symbolic.{Under, TermStep, access_step, assume_step, same_step, write_step, new_step}
use Rattle.gh_symb.specs.Symbolic.{free_step, part_step, TermCheck, access, sub, whole, Symbolic}

abbrev pub allocated : ℕ → Term → GroundFormula
allocated i x = atom (Alloc i x)

-- the cell at x leads to v
abbrev pub hops : ℕ → Term → Term → GroundFormula
hops i x v = atom (Hop i x v)

-- a variable without a term counts as null
abbrev pub variables : Bindings → Variables
variables b x = term (unwrap_or (b x) 0)

-- the term of a successor; one that isn't listed counts as null
abbrev pub successor : List Kind → ℕ → Term → Term
successor ks i x = term (unwrap_or (position (same_kind (next i x.0)) ks) 0)

-- the term z is in the footprint of the assertion
abbrev pub within : Under → Term → GroundFormula
within u z = footprint (variables u.binding) u.version z u.assertion

-- some part of the heap meets the assertion
abbrev pub meets : List Kind → Under → GroundFormula
meets ks u = structure (variables u.binding) (successor ks u.version) u.version (length ks) u.assertion

-- for each of n terms
abbrev pub each : ℕ → (Term → GroundFormula) → List GroundFormula
each n f = map f (terms_below n)

-- the term is allocated exactly where it is in the footprint
abbrev pub covers : Under → Term → GroundFormula
covers u z = equivalence_of (allocated u.version z) (within u z)

-- the whole heap meets the assertion: some part does, and the footprint is all that is allocated
abbrev pub meets_whole : List Kind → Under → GroundFormula
meets_whole ks u = all_of (meets ks u ∷ each (length ks) (covers u))

-- for each pair of n terms
abbrev pub each_pair : ℕ → (Term → Term → GroundFormula) → List GroundFormula
each_pair n f = flat_map (λ z. each n (f z)) (terms_below n)

-- the term x leads to one of n terms, if it is allocated
abbrev pub leads : ℕ → ℕ → Term → GroundFormula
leads n i x = one_of (negation_of (allocated i x) ∷ each n (hops i x))

-- t is the successor of x: it is the next term where x is allocated, and x itself where it isn't
abbrev pub succeeds : ℕ → ℕ → ℕ → List GroundFormula
succeeds i x t =
    one_of (negation_of (allocated i (term x)) ∷ hops i (term x) (term t) ∷ [])
    ∷ one_of (allocated i (term x) ∷ equality (term x) (term t) ∷ [])
    ∷ []

-- the formulas of the term t by its kind; there are some only where it is a successor in version i
abbrev pub successor_formulas : ℕ → ℕ → Kind → List GroundFormula
successor_formulas i t null = []
successor_formulas i t (value n) = []
successor_formulas i t (next j x) = cond (j == i) (succeeds i x t) []

-- for the terms from t on, those that are successors in version i
abbrev pub successors_from : ℕ → ℕ → List Kind → List GroundFormula
successors_from i t [] = []
successors_from i t (k ∷ ks) = successor_formulas i t k ++ successors_from i (t + 1) ks

-- what holds in version i: null isn't allocated, what is allocated leads to a term, and successors are where cells lead
abbrev pub version_formulas : List Kind → ℕ → List GroundFormula
version_formulas ks i =
    negation_of (allocated i (term 0)) ∷ each (length ks) (leads (length ks) i) ++ successors_from i 0 ks

-- the cell at z leads to v in version i + 1 exactly where it does in version i
abbrev pub keeps : ℕ → Term → Term → GroundFormula
keeps i z v = equivalence_of (hops (i + 1) z v) (hops i z v)

-- each cell but that at x leads where it led
abbrev pub others_keep : ℕ → ℕ → Term → List GroundFormula
others_keep n i x = each_pair n (λ z v. one_of (equality z x ∷ keeps i z v ∷ []))

-- from version i to the next, the cell at x gets the content e
abbrev pub write_formulas : ℕ → ℕ → Term → Term → List GroundFormula
write_formulas n i x e =
    each n (λ z. equivalence_of (allocated (i + 1) z) (allocated i z))
    ++ hops (i + 1) x e ∷ []
    ++ others_keep n i x

-- from version i to the next, a cell with the content c is made at l
abbrev pub new_formulas : ℕ → ℕ → Term → Term → List GroundFormula
new_formulas n i l c =
    negation_of (allocated i l) ∷ []
    ++ each n (λ z. equivalence_of (allocated (i + 1) z) (one_of (allocated i z ∷ equality z l ∷ [])))
    ++ hops (i + 1) l c ∷ []
    ++ others_keep n i l

-- from version i to the next, the cell at x is freed
abbrev pub free_formulas : ℕ → ℕ → Term → List GroundFormula
free_formulas n i x =
    each n (λ z. equivalence_of (allocated (i + 1) z) (all_of (allocated i z ∷ negation_of (equality z x) ∷ [])))
    ++ others_keep n i x

-- the cell at z is kept: it is allocated, and isn't in the part that is taken
abbrev pub outside_footprint : ℕ → Under → Term → GroundFormula
outside_footprint i u z = all_of (allocated i z ∷ negation_of (within u z) ∷ [])

-- a part q stands beside what is kept of the heap without the part u, and nothing else is allocated
abbrev pub placed_formulas : List Kind → ℕ → Under → Under → List GroundFormula
placed_formulas ks i u q =
    let n = length ks in
    meets ks q ∷ each n (λ z. negation_of (all_of (outside_footprint i u z ∷ within q z ∷ [])))
    ++ each n (λ z. equivalence_of (allocated (i + 1) z) (one_of (outside_footprint i u z ∷ within q z ∷ [])))

-- what is kept leads where it led
abbrev pub kept_formulas : ℕ → ℕ → Under → List GroundFormula
kept_formulas n i u = each_pair n (λ z v. one_of (negation_of (outside_footprint i u z) ∷ keeps i z v ∷ []))

-- one of the alternatives is in the place of the part u; this is false where there are none
abbrev pub alternatives_formulas : List Kind → ℕ → Under → List Under → List GroundFormula
alternatives_formulas ks i u [] = one_of [] ∷ []
alternatives_formulas ks i u (q ∷ []) = placed_formulas ks i u q
alternatives_formulas ks i u (q ∷ r ∷ qs) = one_of (map (λ a. all_of (placed_formulas ks i u a)) (q ∷ r ∷ qs)) ∷ []

-- a part u of the heap gives way to an alternative
abbrev pub part_formulas : List Kind → ℕ → Under → List Under → List GroundFormula
part_formulas ks i u qs = meets ks u ∷ alternatives_formulas ks i u qs ++ kept_formulas (length ks) i u

-- a step from version i
abbrev pub step_formulas : List Kind → ℕ → TermStep → List GroundFormula
step_formulas ks i (access_step x) = allocated i (term x) ∷ []
step_formulas ks i (assume_step l e r) = compared (term l) e (term r) ∷ []
step_formulas ks i same_step = []
step_formulas ks i (write_step x e) = write_formulas (length ks) i (term x) (term e)
step_formulas ks i (new_step l c) = new_formulas (length ks) i (term l) (term c)
step_formulas ks i (free_step x) = free_formulas (length ks) i (term x)
step_formulas ks i (part_step u qs) = part_formulas ks i u qs

-- the version after a step
abbrev pub version_after : ℕ → TermStep → ℕ
version_after i (access_step x) = i
version_after i (assume_step l e r) = i
version_after i same_step = i
version_after i (write_step x e) = i + 1
version_after i (new_step l c) = i + 1
version_after i (free_step x) = i + 1
version_after i (part_step u qs) = i + 1

abbrev pub steps_formulas : List Kind → ℕ → List TermStep → List GroundFormula
steps_formulas ks i [] = []
steps_formulas ks i (s ∷ ss) = step_formulas ks i s ++ steps_formulas ks (version_after i s) ss

-- the whole heap meets the one alternative, or one of several; there is no formula where there is no alternative
abbrev pub meets_one_of : List Kind → List Under → List GroundFormula
meets_one_of ks [] = []
meets_one_of ks (u ∷ []) = meets_whole ks u ∷ []
meets_one_of ks (u ∷ v ∷ us) = one_of (map (meets_whole ks) (u ∷ v ∷ us)) ∷ []

-- the check fails, in the last version i
abbrev pub check_formulas : List Kind → ℕ → TermCheck → List GroundFormula
check_formulas ks i (access x) = negation_of (allocated i (term x)) ∷ []
check_formulas ks i (sub u) = negation_of (meets ks u) ∷ []
check_formulas ks i (whole us) = map negation_of (meets_one_of ks us)

-- the formulas of the first n versions
abbrev pub versions_formulas : List Kind → ℕ → List GroundFormula
versions_formulas ks n = flat_map (version_formulas ks) (range_with_len 0 n)

-- the formulas of a condition: its versions, its start, its steps, its check
abbrev pub condition_formulas : Symbolic → List GroundFormula
condition_formulas s =
    versions_formulas s.terms s.versions
    ++ meets_whole s.terms s.start ∷ []
    ++ steps_formulas s.terms 0 s.steps
    ++ check_formulas s.terms (s.versions - 1) s.check

-- the clauses of a condition, with the numbers of its terms, versions and definitions
abbrev pub problem : Symbolic → Problem
problem s =
    record {
      sizes = record { terms = length s.terms; versions = s.versions; defs = definitions_of (condition_formulas s) };
      clauses = clauses_of (condition_formulas s);
    }
