-- The definitions of formulas, by their kinds.
use Rattle.std.specs.Prelude.{◌≡◌, ℕ, zero, suc, ◌+◌, ◌<◌, List, [], ◌∷◌, ◌++◌, length, drop, get_or}
use Rattle.std.proofs.Common.{refl, sym, ◌∙◌, ap, subst, add-one, arith, Vec, Box, Global}
use Rattle.std.proofs.Math.Seq.{drop-cons}
use Rattle.gh_base.specs.declared.atom.Lit.{Lit}
use Rattle.gh_base.specs.Atoms.{IsInRange, AreInRange}
use Rattle.gh_base.specs.Grounds.{Problem}
use Rattle.gh_grass.specs.declared.formula.Formula.{Formula}
use Rattle.gh_grass.specs.declared.formula.Formula.TheOpen.{Formula-F}
use Rattle.gh_grass.specs.declared.formula.Formula.TheFolds.{fold-roll-Formula}
use Rattle.gh_grass.specs.declared.formula.Formula.TheVariants.{Not, And, Or, Iff, rolls-Not, rolls-Or, rolls-Iff}
use Rattle.gh_grass.specs.Claims.{GroundFormula, ground_formula_step, ground_formula_of, ground_formulas_view, atom}
use Rattle.gh_grass.specs.Claims.{negation_of, conjunction_of, disjunction_of, equivalence_of, GroundFormulas}
use Rattle.gh_grass.specs.Claims.{no_ground_formulas, ground_formula_first}
use Rattle.gh_grass.specs.Clauses.{made, all_made, conjunction_clauses, disjunction_clauses, equivalence_clauses}
use Rattle.gh_grass.proofs.ClaimLemmas.{claim_of-And}
use Rattle.gh_grass.proofs.LawLemmas.{made_grows}
use Rattle.gh_reduce.specs.Growth.{grown, defined_in, all_defined_in, IsWithin, AreWithin}
use Rattle.gh_reduce.proofs.GrowthLemmas.{in_range_more, within_more, made_within, all_made_within, grown_grown}

claim_of-Or : (v : Vec Formula Global) → ground_formula_of (Or v) ≡ disjunction_of (ground_formulas_view v.items)
claim_of-Or v =
    ap ground_formula_of (sym (rolls-Or v)) ∙ fold-roll-Formula GroundFormula ground_formula_step (Formula-F.Or v)

claim_of-Iff : (a b : Box Formula Global)
    → ground_formula_of (Iff a b) ≡ equivalence_of (ground_formula_of a.value) (ground_formula_of b.value)
claim_of-Iff a b =
    ap ground_formula_of (sym (rolls-Iff a b)) ∙ fold-roll-Formula GroundFormula ground_formula_step (Formula-F.Iff a b)

-- the members from a place on
pub claims_from : (xs : List Formula) (i : ℕ) (x : Formula) → i < length xs → x ≡ get_or xs i x
    → ground_formulas_view (drop i xs)
    ≡ ground_formula_first (ground_formula_of x) (ground_formulas_view (drop (i + 1) xs))
claims_from xs i x within is = ap ground_formulas_view (drop-cons xs i x within) ∙ rw (← is, add-one i) refl

pub literals_in_range : (p q : Problem) (fs : GroundFormulas) (ls : List Lit) → AreWithin p.sizes fs
    → ls ≡ (all_made fs p.sizes.defs).lits → q ≡ all_defined_in p fs → AreInRange q.sizes ls
literals_in_range p q fs ls h is e =
    subst (λ (x : Problem). AreInRange x.sizes ls) (sym e)
    (subst (λ (xs : List Lit). AreInRange (all_defined_in p fs).sizes xs) (sym is)
    (all_made_within p.sizes fs p.sizes.defs h))

pub literal_in_range : (p q : Problem) (f : GroundFormula) (l : Lit) → IsWithin p.sizes f
    → l ≡ (made f p.sizes.defs).lit → q ≡ defined_in p f → IsInRange q.sizes l.atom
literal_in_range p q f l h is e =
    subst (λ (x : Problem). IsInRange x.sizes l.atom) (sym e)
    (subst (λ (x : Lit). IsInRange (defined_in p f).sizes x.atom) (sym is) (made_within p.sizes f p.sizes.defs h))

-- after the definitions of one formula, another one is still in range
pub other_within : (p q : Problem) (f g : GroundFormula) → IsWithin p.sizes g → q ≡ defined_in p f → IsWithin q.sizes g
other_within p q f g h e =
    subst (λ (x : Problem). IsWithin x.sizes g) (sym e)
    (within_more p.sizes p.sizes.defs (made f p.sizes.defs).next (made_grows f p.sizes.defs) g h)

pub literal_stays : (p q r : Problem) (f g : GroundFormula) (l : Lit) → IsWithin p.sizes f
    → l ≡ (made f p.sizes.defs).lit → q ≡ defined_in p f → r ≡ defined_in q g → IsInRange r.sizes l.atom
literal_stays p q r f g l h is e k =
    let d = (made f p.sizes.defs).next in
    let both : r ≡ defined_in (defined_in p f) g = k ∙ ap (λ (x : Problem). defined_in x g) e in
    subst (λ (x : Problem). IsInRange x.sizes l.atom) (sym both)
    (subst (λ (x : Lit). IsInRange (defined_in (defined_in p f) g).sizes x.atom) (sym is)
    (in_range_more p.sizes d (made g d).next (made_grows g d) (made f p.sizes.defs).lit.atom
    (made_within p.sizes f p.sizes.defs h)))

pub conjunction_defined : (p q r : Problem) (f : GroundFormula) (fs : GroundFormulas) (ls : List Lit)
    → f ≡ conjunction_of fs → ls ≡ (all_made fs p.sizes.defs).lits → q ≡ all_defined_in p fs
    → r ≡ grown q (q.sizes.defs + 1) (conjunction_clauses q.sizes.defs ls) → r ≡ defined_in p f
conjunction_defined p q r f fs ls form is e h =
    let s = all_made fs p.sizes.defs in
    h
    ∙ ap (λ (x : Problem). grown x (x.sizes.defs + 1) (conjunction_clauses x.sizes.defs ls)) e
    ∙ ap (λ (xs : List Lit). grown (all_defined_in p fs) (s.next + 1) (conjunction_clauses s.next xs)) is
    ∙ grown_grown p s.next (s.next + 1) s.clauses (conjunction_clauses s.next s.lits)
    ∙ ap (defined_in p) (sym form)

pub disjunction_defined : (p q r : Problem) (f : GroundFormula) (fs : GroundFormulas) (ls : List Lit)
    → f ≡ disjunction_of fs → ls ≡ (all_made fs p.sizes.defs).lits → q ≡ all_defined_in p fs
    → r ≡ grown q (q.sizes.defs + 1) (disjunction_clauses q.sizes.defs ls) → r ≡ defined_in p f
disjunction_defined p q r f fs ls form is e h =
    let s = all_made fs p.sizes.defs in
    h
    ∙ ap (λ (x : Problem). grown x (x.sizes.defs + 1) (disjunction_clauses x.sizes.defs ls)) e
    ∙ ap (λ (xs : List Lit). grown (all_defined_in p fs) (s.next + 1) (disjunction_clauses s.next xs)) is
    ∙ grown_grown p s.next (s.next + 1) s.clauses (disjunction_clauses s.next s.lits)
    ∙ ap (defined_in p) (sym form)

pub equivalence_defined : (p q r e : Problem) (f a b : GroundFormula) (l m : Lit) → f ≡ equivalence_of a b
    → l ≡ (made a p.sizes.defs).lit → q ≡ defined_in p a → m ≡ (made b q.sizes.defs).lit → r ≡ defined_in q b
    → e ≡ grown r (r.sizes.defs + 1) (equivalence_clauses r.sizes.defs l m) → e ≡ defined_in p f
equivalence_defined p q r e f a b l m form left first right second h =
    let s = made a p.sizes.defs in
    let t = made b s.next in
    let both : r ≡ defined_in (defined_in p a) b = second ∙ ap (λ (x : Problem). defined_in x b) first in
    let right_is : m ≡ t.lit = right ∙ ap (λ (x : Problem). (made b x.sizes.defs).lit) first in
    h
    ∙ ap (λ (x : Problem). grown x (x.sizes.defs + 1) (equivalence_clauses x.sizes.defs l m)) both
    ∙ ap (λ (x : Lit). grown (defined_in (defined_in p a) b) (t.next + 1) (equivalence_clauses t.next x m)) left
    ∙ ap (λ (x : Lit). grown (defined_in (defined_in p a) b) (t.next + 1) (equivalence_clauses t.next s.lit x)) right_is
    ∙ ap (λ (x : Problem). grown x (t.next + 1) (equivalence_clauses t.next s.lit t.lit))
    (grown_grown p s.next t.next s.clauses t.clauses)
    ∙ grown_grown p t.next (t.next + 1) (s.clauses ++ t.clauses) (equivalence_clauses t.next s.lit t.lit)
    ∙ ap (defined_in p) (sym form)

claim_of-Not : (b : Box Formula Global) → ground_formula_of (Not b) ≡ negation_of (ground_formula_of b.value)
claim_of-Not b =
    ap ground_formula_of (sym (rolls-Not b)) ∙ fold-roll-Formula GroundFormula ground_formula_step (Formula-F.Not b)

-- what a formula says, by its form and what its members are
pub says_not : (f a : Formula) (b : Box Formula Global) → f ≡ Not b → a ≡ b.value
    → ground_formula_of f ≡ negation_of (ground_formula_of a)
says_not f a b form one =
    ap ground_formula_of form ∙ claim_of-Not b ∙ ap (λ (x : Formula). negation_of (ground_formula_of x)) (sym one)

pub says_all : (f : Formula) (xs : List Formula) (v : Vec Formula Global) → f ≡ And v → xs ≡ v.items
    → ground_formula_of f ≡ conjunction_of (ground_formulas_view xs)
says_all f xs v form same =
    ap ground_formula_of form ∙ claim_of-And v
    ∙ ap (λ (ys : List Formula). conjunction_of (ground_formulas_view ys)) (sym same)

pub says_any : (f : Formula) (xs : List Formula) (v : Vec Formula Global) → f ≡ Or v → xs ≡ v.items
    → ground_formula_of f ≡ disjunction_of (ground_formulas_view xs)
says_any f xs v form same =
    ap ground_formula_of form ∙ claim_of-Or v
    ∙ ap (λ (ys : List Formula). disjunction_of (ground_formulas_view ys)) (sym same)

pub says_both : (f x y : Formula) (a b : Box Formula Global) → f ≡ Iff a b → x ≡ a.value → y ≡ b.value
    → ground_formula_of f ≡ equivalence_of (ground_formula_of x) (ground_formula_of y)
says_both f x y a b form one other =
    ap ground_formula_of form ∙ claim_of-Iff a b
    ∙ ap (λ (z : Formula). equivalence_of (ground_formula_of z) (ground_formula_of b.value)) (sym one)
    ∙ ap (λ (z : Formula). equivalence_of (ground_formula_of x) (ground_formula_of z)) (sym other)

-- how many formulas are in a formula, below itself
abbrev mutual
  pub size : GroundFormula → ℕ
  size (atom a) = 0
  size (negation_of f) = 1 + size f
  size (conjunction_of fs) = 1 + sizes fs
  size (disjunction_of fs) = 1 + sizes fs
  size (equivalence_of f g) = 1 + size f + size g

  pub sizes : GroundFormulas → ℕ
  sizes no_ground_formulas = 0
  sizes (ground_formula_first f fs) = 1 + size f + sizes fs

pub member_smaller : (xs : List Formula) (i : ℕ) (x : Formula) → i < length xs → x ≡ get_or xs i x
    → size (ground_formula_of x) < sizes (ground_formulas_view xs)
member_smaller [] i x within is = absurd (omega (arith, within))
member_smaller (y ∷ ys) zero x within is = let e = ap (λ (z : Formula). size (ground_formula_of z)) is in
    omega (arith, e)
member_smaller (y ∷ ys) (suc i) x within is = let h = member_smaller ys i x (omega (arith, within)) is in
    omega (arith, h)
