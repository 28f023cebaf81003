-- What comes in the place of a part of the heap is in range, and lists of formulas that are stated.
use Rattle.std.specs.Prelude.{◌≡◌, ℕ, ◌+◌, ◌<◌, ◌≤◌, List, [], ◌∷◌, map, length, drop, get_or}
use Rattle.std.proofs.Common.{refl, sym, ◌∙◌, ap, subst, arith, add-one}
use Rattle.std.proofs.Math.Seq.{drop-cons}
use Rattle.std.proofs.lemmas.List.Elements.{All-head, All-tail}
use Rattle.gh_base.specs.declared.atom.Term.{Term}
use Rattle.gh_base.specs.declared.sizes.Sizes.{Sizes}
use Rattle.gh_base.specs.Grounds.{Problem}
use Rattle.gh_path.specs.Terms.{Kind}
use Rattle.gh_grass.specs.declared.formula.Formula.{Formula}
use Rattle.gh_grass.specs.Claims.{GroundFormula, ground_formula_of, ground_formulas_of, ground_formula_list}
use Rattle.gh_grass.specs.Claims.{negation_of, equivalence_of, all_of, one_of}
use Rattle.gh_grass.specs.Clauses.{next_after}
use Rattle.gh_grass.proofs.LawLemmas.{made_grows}
use Rattle.gh_symb.specs.Symbolic.{Under}
use Rattle.gh_symb.specs.Formulas.{allocated, within, outside_footprint, each, placed_formulas, alternatives_formulas}
use Rattle.gh_symb.specs.Formulas.{meets, meets_whole, meets_one_of}
use Rattle.gh_symb.specs.declared.over_terms.BoundAssertion.{BoundAssertion}
use Rattle.gh_reduce.specs.Growth.{stated_in, IsWithin, AreWithin}
use Rattle.gh_symb.specs.Inside.{under_of, IsUnderInside, AllAreInside}
use Rattle.gh_reduce.specs.Parts.{placed_of}
use Rattle.gh_reduce.proofs.GrowthLemmas.{all_within_more, stated_append, stated_all}
use Rattle.gh_reduce.proofs.InsideLemmas.{under_within, meets_within, whole_within}
use Rattle.gh_reduce.proofs.WithinLemmas.{joined_within, below_within}

-- a list of bounds, one by one
pub bounds_from : (bs : List BoundAssertion) (i : ℕ) (b : BoundAssertion) → i < length bs → b ≡ get_or bs i b
    → map under_of (drop i bs) ≡ under_of b ∷ map under_of (drop (i + 1) bs)
bounds_from bs i b within is = ap (map under_of) (drop-cons bs i b within) ∙ rw (← is, add-one i) refl

pub claim_list_from : (fs : List Formula) (i : ℕ) (f : Formula) → i < length fs → f ≡ get_or fs i f
    → ground_formula_list (drop i fs) ≡ ground_formula_of f ∷ ground_formula_list (drop (i + 1) fs)
claim_list_from fs i f within is = ap ground_formula_list (drop-cons fs i f within) ∙ rw (← is, add-one i) refl

-- what is left of some formulas is stated
pub record Left (p : Problem) (fs : List GroundFormula) (total : Problem) : Type 0 where
  pub state_is : stated_in p fs ≡ total
  pub within : AreWithin p.sizes (ground_formulas_of fs)

pub left_at : (p total : Problem) (here rest : List GroundFormula) (f : GroundFormula) → Left p here total
    → here ≡ f ∷ rest → IsWithin p.sizes f
left_at p total here rest f h split = (subst (λ (fs : List GroundFormula). Left p fs total) split h).within.0

pub left_more : (p q total : Problem) (here rest : List GroundFormula) (f : GroundFormula) → Left p here total
    → here ≡ f ∷ rest → q ≡ stated_in p (f ∷ []) → Left q rest total
left_more p q total here rest f h split e =
    let g = subst (λ (fs : List GroundFormula). Left p fs total) split h in
    subst (λ (x : Problem). Left x rest total) (sym e) (record {
      state_is = stated_append p (f ∷ []) rest ∙ g.state_is;
      within =
          all_within_more p.sizes p.sizes.defs (next_after (f ∷ []) p.sizes.defs) (made_grows f p.sizes.defs)
          (ground_formulas_of rest) g.within.1;
    })

pub left_none : (p total : Problem) (here : List GroundFormula) → Left p here total → here ≡ [] → p ≡ total
left_none p total here h none = stated_all p total here h.state_is none

-- a part is in its place
pub placed_within : (s : Sizes) (ks : List Kind) (i : ℕ) (u q : Under) → s.terms ≡ length ks → 0 < s.terms
    → i + 1 < s.versions → IsUnderInside s.terms s.versions u → IsUnderInside s.terms s.versions q
    → AreWithin s (ground_formulas_of (placed_formulas ks i u q))
placed_within s ks i u q e some v h k =
    let apart : Term → GroundFormula = λ z. negation_of (all_of (outside_footprint i u z ∷ within q z ∷ [])) in
    let replaced : Term → GroundFormula =
    λ z. equivalence_of (allocated (i + 1) z) (one_of (outside_footprint i u z ∷ within q z ∷ [])) in
    let old : i < s.versions = omega (arith, v) in
    joined_within s (meets ks q ∷ each (length ks) apart) (each (length ks) replaced) (
      meets_within s ks q e some k,
      subst (λ (n : ℕ). AreWithin s (ground_formulas_of (each n apart))) e
          (below_within s apart (λ z l. (((old, l), (under_within s u h z l, tt)), (under_within s q k z l, tt)))),
    )
    (subst (λ (n : ℕ). AreWithin s (ground_formulas_of (each n replaced))) e
    (below_within s replaced (λ z l.
    ((v, l), (((old, l), (under_within s u h z l, tt)), (under_within s q k z l, tt))))))

-- each of some formulas, made from what is inside
all_within : (s : Sizes) (f : Under → GroundFormula) (us : List Under)
    → ((u : Under) → IsUnderInside s.terms s.versions u → IsWithin s (f u)) → AllAreInside s.terms s.versions us
    → AreWithin s (ground_formulas_of (map f us))
all_within s f [] h all = tt
all_within s f (u ∷ us) h all = (
  h u (All-head (IsUnderInside s.terms s.versions) u us all),
  all_within s f us h (All-tail (IsUnderInside s.terms s.versions) u us all),
)

pub alternatives_within : (s : Sizes) (ks : List Kind) (i : ℕ) (u : Under) (qs : List Under) → s.terms ≡ length ks
    → 0 < s.terms → i + 1 < s.versions → IsUnderInside s.terms s.versions u → AllAreInside s.terms s.versions qs
    → AreWithin s (ground_formulas_of (alternatives_formulas ks i u qs))
alternatives_within s ks i u [] e some v h all = (tt, tt)
alternatives_within s ks i u (q ∷ []) e some v h all =
    placed_within s ks i u q e some v h (All-head (IsUnderInside s.terms s.versions) q [] all)
alternatives_within s ks i u (q ∷ r ∷ qs) e some v h all =
    (all_within s (placed_of ks i u) (q ∷ r ∷ qs) (λ a k. placed_within s ks i u a e some v h k) all, tt)

pub one_within : (s : Sizes) (ks : List Kind) (us : List Under) → s.terms ≡ length ks → 0 < s.terms
    → AllAreInside s.terms s.versions us → IsWithin s (one_of (map (meets_whole ks) us))
one_within s ks us e some all = all_within s (meets_whole ks) us (λ u h. whole_within s ks u e some h) all

-- one bound, or more
pub is_one : (bs : List BoundAssertion) (b : BoundAssertion) → length bs ≡ 1 → b ≡ get_or bs 0 b → bs ≡ b ∷ []
is_one [] b n is = absurd (omega (arith, n))
is_one (a ∷ []) b n is = ap (λ (x : BoundAssertion). x ∷ []) (sym is)
is_one (a ∷ c ∷ bs) b n is = absurd (omega (arith, n))

pub several_placed : (ks : List Kind) (i : ℕ) (u : Under) (bs : List BoundAssertion) → 2 ≤ length bs
    → alternatives_formulas ks i u (map under_of bs) ≡ one_of (map (placed_of ks i u) (map under_of bs)) ∷ []
several_placed ks i u [] n = absurd (omega (arith, n))
several_placed ks i u (a ∷ []) n = absurd (omega (arith, n))
several_placed ks i u (a ∷ c ∷ bs) n = refl

pub several_met : (ks : List Kind) (bs : List BoundAssertion) → 2 ≤ length bs
    → meets_one_of ks (map under_of bs) ≡ one_of (map (meets_whole ks) (map under_of bs)) ∷ []
several_met ks [] n = absurd (omega (arith, n))
several_met ks (a ∷ []) n = absurd (omega (arith, n))
several_met ks (a ∷ c ∷ bs) n = refl
