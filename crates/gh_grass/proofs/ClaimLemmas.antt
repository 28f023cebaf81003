-- Lists of formulas that are made one by one.
use Rattle.std.specs.Prelude.{◌≡◌, ℕ, ◌+◌, ◌<◌, ◌≤◌, List, [], ◌∷◌, ◌++◌, map, length, drop, get_or}
use Rattle.std.proofs.Common.{refl, sym, ◌∙◌, ap, append_assoc, add-one, arith, Vec, Global}
use Rattle.std.proofs.Math.Seq.{drop-cons}
use Rattle.std.proofs.lemmas.List.{map-append, append-nil, drop_all}
use Rattle.std.proofs.lemmas.List.FromFn.{map-range_with_len_more}
use Rattle.gh_base.specs.declared.atom.Term.{Term}
use Rattle.gh_base.specs.Atoms.{term, terms_below}
use Rattle.gh_ast.specs.declared.Assertion.{Assertion}
use Rattle.gh_ast.specs.declared.Cond.{Cond}
use Rattle.gh_ast.specs.Plain.{cond_of, conds_view, cond_first, assertion_of, assertions_of, assertions_view}
use Rattle.gh_ast.specs.Plain.{assertion_first, star, Assertion as Plain}
use Rattle.gh_grass.specs.declared.formula.Formula.{Formula}
use Rattle.gh_grass.specs.declared.formula.Formula.TheOpen.{Formula-F}
use Rattle.gh_grass.specs.declared.formula.Formula.TheFolds.{fold-roll-Formula}
use Rattle.gh_grass.specs.declared.formula.Formula.TheVariants.{And, rolls-And}
use Rattle.gh_grass.specs.Claims.{GroundFormula, ground_formula_step, ground_formula_of, ground_formulas_of}
use Rattle.gh_grass.specs.Claims.{ground_formula_list, ground_formulas_view, conjunction_of}
use Rattle.gh_grass.specs.Footprints.{Variables, members, all_apart, structure, structures}

-- a formula is put last, and the claim of it was the first of those to come
pub put_more : (fs : List Formula) (f : Formula) (here rest total : List GroundFormula)
    → ground_formula_list fs ++ here ≡ total → here ≡ ground_formula_of f ∷ rest
    → ground_formula_list (fs ++ f ∷ []) ++ rest ≡ total
put_more fs f here rest total so first =
    ap (λ ps. ps ++ rest) (map-append ground_formula_of fs (f ∷ []))
    ∙ append_assoc (ground_formula_list fs) (ground_formula_of f ∷ []) rest
    ∙ ap (λ ps. ground_formula_list fs ++ ps) (sym first)
    ∙ so

pub put_all : (xs here total : List GroundFormula) → xs ++ here ≡ total → here ≡ [] → xs ≡ total
put_all xs here total so none = sym (append-nil xs) ∙ ap (λ ps. xs ++ ps) (sym none) ∙ so

-- the terms up to the next one
pub below_more : (n : ℕ) → terms_below (n + 1) ≡ terms_below n ++ term n ∷ []
below_more n = map-range_with_len_more term 0 n n (omega arith)

pub map_below_more : {X : Type 0} (f : Term → X) (n : ℕ)
    → map f (terms_below (n + 1)) ≡ map f (terms_below n) ++ f (term n) ∷ []
map_below_more f n = ap (map f) (below_more n) ∙ map-append f (terms_below n) (term n ∷ [])

pub put_term : (f : Term → GroundFormula) (fs : List Formula) (g : Formula) (first : List GroundFormula) (n : ℕ)
    → ground_formula_list fs ≡ first ++ map f (terms_below n) → ground_formula_of g ≡ f (term n) →
    ground_formula_list (fs ++ g ∷ []) ≡ first ++ map f (terms_below (n + 1))
put_term f fs g first n so is =
    map-append ground_formula_of fs (g ∷ [])
    ∙ ap (λ ps. ps ++ ground_formula_of g ∷ []) so
    ∙ append_assoc first (map f (terms_below n)) (ground_formula_of g ∷ [])
    ∙ ap (λ c. first ++ (map f (terms_below n) ++ c ∷ [])) is
    ∙ ap (λ ps. first ++ ps) (sym (map_below_more f n))

-- the members from a place on
pub formulas_from : (xs : List Assertion) (i : ℕ) (x : Assertion) → i < length xs → x ≡ get_or xs i x
    → assertions_view (drop i xs) ≡ assertion_first (assertion_of x) (assertions_view (drop (i + 1) xs))
formulas_from xs i x within is = ap assertions_view (drop-cons xs i x within) ∙ rw (← is, add-one i) refl

pub formula_list_from : (xs : List Assertion) (i : ℕ) (x : Assertion) → i < length xs → x ≡ get_or xs i x
    → map assertion_of (drop i xs) ≡ assertion_of x ∷ map assertion_of (drop (i + 1) xs)
formula_list_from xs i x within is = ap (map assertion_of) (drop-cons xs i x within) ∙ rw (← is, add-one i) refl

pub tests_from : (xs : List Cond) (i : ℕ) (x : Cond) → i < length xs → x ≡ get_or xs i x
    → conds_view (drop i xs) ≡ cond_first (cond_of x) (conds_view (drop (i + 1) xs))
tests_from xs i x within is = ap conds_view (drop-cons xs i x within) ∙ rw (← is, add-one i) refl

pub none_from : {A : Type 0} {B : Type 0} (f : List A → B) (xs : List A) (i : ℕ) → length xs ≤ i → f (drop i xs) ≡ f []
none_from f xs i far = ap f (drop_all i xs far)

-- some claims are put last, and they were the first of those to come
pub put_some : (now old more here rest total : List GroundFormula) → now ≡ old ++ more → old ++ here ≡ total
    → here ≡ more ++ rest → now ++ rest ≡ total
put_some now old more here rest total is so first =
    ap (λ ps. ps ++ rest) is ∙ append_assoc old more rest ∙ ap (λ ps. old ++ ps) (sym first) ∙ so

-- the plain form of a variant
pub claim_of-And : (v : Vec Formula Global) → ground_formula_of (And v) ≡ conjunction_of (ground_formulas_view v.items)
claim_of-And v =
    ap ground_formula_of (sym (rolls-And v)) ∙ fold-roll-Formula GroundFormula ground_formula_step (Formula-F.And v)

members_are : (fs : List Plain) → members (assertions_of fs) ≡ fs
members_are [] = refl
members_are (f ∷ fs) = ap (λ gs. f ∷ gs) (members_are fs)

pub star_structure : (v : Vec Formula Global) (f : Plain) (b : Variables) (next : Term → Term) (i n : ℕ)
    (xs : List Assertion) (first : List GroundFormula) →
    f ≡ star (assertions_view xs) → first ≡ structures b next i n (assertions_view xs)
    → ground_formula_list v.items ≡ first ++ all_apart b i n (map assertion_of xs) →
    ground_formula_of (And v) ≡ structure b next i n f
star_structure v f b next i n xs first is parts so =
    claim_of-And v
    ∙ ap (λ cs. conjunction_of (ground_formulas_of cs))
    (so ∙ ap (λ cs. cs ++ all_apart b i n (map assertion_of xs)) parts
    ∙ ap (λ ms. structures b next i n (assertions_view xs) ++ all_apart b i n ms)
    (sym (members_are (map assertion_of xs))))
    ∙ ap (structure b next i n) (sym is)
