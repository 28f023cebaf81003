-- Ground clauses that grow: by definitions, and by formulas that are stated.
use Rattle.std.specs.Prelude.{◌≡◌, ℕ, zero, suc, ◌+◌, ◌≤◌, List, [], ◌∷◌, ◌++◌, get_or}
use Rattle.std.specs.List.{flat_map, range_with_len}
use Rattle.std.proofs.Common.{refl, sym, ◌∙◌, ap, subst, append_assoc, arith}
use Rattle.std.proofs.lemmas.List.{append-nil}
use Rattle.std.proofs.lemmas.List.Concat.{flat_map-append}
use Rattle.std.proofs.lemmas.List.Elements.{All-cons}
use Rattle.gh_base.specs.declared.atom.Term.{Term}
use Rattle.gh_base.specs.declared.atom.Atom.{Atom}
use Rattle.gh_base.specs.declared.atom.Atom.TheVariants.{Eq, Btwn, Hop, Alloc, Def}
use Rattle.gh_base.specs.declared.atom.Lit.{Lit}
use Rattle.gh_base.specs.declared.sizes.Sizes.{Sizes}
use Rattle.gh_base.specs.Atoms.{IsInRange, AreInRange, term, terms_below}
use Rattle.gh_base.specs.Grounds.{Problem}
use Rattle.gh_grass.specs.Claims.{GroundFormula, atom, negation_of, conjunction_of, disjunction_of, equivalence_of}
use Rattle.gh_grass.specs.Claims.{GroundFormulas, no_ground_formulas, ground_formula_first}
use Rattle.gh_grass.specs.Clauses.{made, all_made, stated, next_after, clauses_from}
use Rattle.gh_grass.proofs.LawLemmas.{made_grows, all_made_grows}
use Rattle.gh_grass.proofs.ClaimLemmas.{below_more, map_below_more}
use Rattle.gh_symb.specs.Formulas.{each}
use Rattle.gh_reduce.specs.Growth.{sized, grown, with_clauses, defined_in, all_defined_in, stated_in, IsWithin}
use Rattle.gh_reduce.specs.Growth.{AreWithin}

-- what is in range stays in range
pub in_range_more : (s : Sizes) (d e : ℕ) → d ≤ e → (a : Atom) → IsInRange (sized s d) a → IsInRange (sized s e) a
in_range_more s d e l (Eq x y) h = h
in_range_more s d e l (Btwn v x y z) h = h
in_range_more s d e l (Hop v x y) h = h
in_range_more s d e l (Alloc v x) h = h
in_range_more s d e l (Def number) h = omega arith

pub all_in_range_more : (s : Sizes) (d e : ℕ) → d ≤ e → (ls : List Lit) → AreInRange (sized s d) ls
    → AreInRange (sized s e) ls
all_in_range_more s d e l ls h = λ k x within. in_range_more s d e l (get_or ls k x).atom (h k x within)

mutual
  pub within_more : (s : Sizes) (d e : ℕ) → d ≤ e → (f : GroundFormula) → IsWithin (sized s d) f
      → IsWithin (sized s e) f
  within_more s d e l (atom a) h = in_range_more s d e l a h
  within_more s d e l (negation_of f) h = within_more s d e l f h
  within_more s d e l (conjunction_of fs) h = all_within_more s d e l fs h
  within_more s d e l (disjunction_of fs) h = all_within_more s d e l fs h
  within_more s d e l (equivalence_of f g) h = (within_more s d e l f h.0, within_more s d e l g h.1)

  pub all_within_more : (s : Sizes) (d e : ℕ) → d ≤ e → (fs : GroundFormulas) → AreWithin (sized s d) fs
      → AreWithin (sized s e) fs
  all_within_more s d e l no_ground_formulas h = tt
  all_within_more s d e l (ground_formula_first f fs) h = (within_more s d e l f h.0, all_within_more s d e l fs h.1)

-- the literals of formulas in range are in range
mutual
  pub made_within : (s : Sizes) (f : GroundFormula) (d : ℕ) → IsWithin (sized s d) f
      → IsInRange (sized s (made f d).next) (made f d).lit.atom
  made_within s (atom a) d h = h
  made_within s (negation_of f) d h = made_within s f d h
  made_within s (conjunction_of fs) d h = omega arith
  made_within s (disjunction_of fs) d h = omega arith
  made_within s (equivalence_of f g) d h = omega arith

  pub all_made_within : (s : Sizes) (fs : GroundFormulas) (d : ℕ) → AreWithin (sized s d) fs
      → AreInRange (sized s (all_made fs d).next) (all_made fs d).lits
  all_made_within s no_ground_formulas d h = λ k x l. absurd (omega (arith, l))
  all_made_within s (ground_formula_first f fs) d h =
      let r = made f d in
      let e = (all_made fs r.next).next in
      All-cons (λ (l : Lit). IsInRange (sized s e) l.atom) r.lit (all_made fs r.next).lits
      (in_range_more s r.next e (all_made_grows fs r.next) r.lit.atom (made_within s f d h.0))
      (all_made_within s fs r.next (all_within_more s d r.next (made_grows f d) fs h.1))

abbrev put : Problem → ℕ → List (List Lit) → Problem
put p next clauses = record { sizes = sized p.sizes next; clauses = clauses }

pub grown_grown : (p : Problem) (d e : ℕ) (xs ys : List (List Lit)) → grown (grown p d xs) e ys ≡ grown p e (xs ++ ys)
grown_grown p d e xs ys = ap (put p e) (append_assoc p.clauses xs ys)

-- a definition is taken, and clauses are added twice
pub defined_twice : (p q r s : Problem) (n : ℕ) (xs ys : List (List Lit)) → q ≡ record p { sizes = sized p.sizes n }
    → r ≡ with_clauses q xs → s ≡ with_clauses r ys → s ≡ grown p n (xs ++ ys)
defined_twice p q r s n xs ys e f g =
    g ∙ ap (λ (x : Problem). with_clauses x ys) (f ∙ ap (λ (x : Problem). with_clauses x xs) e)
    ∙ ap (put p n) (append_assoc p.clauses xs ys)

next_append : (fs gs : List GroundFormula) (d : ℕ) → next_after (fs ++ gs) d ≡ next_after gs (next_after fs d)
next_append [] gs d = refl
next_append (f ∷ fs) gs d = next_append fs gs (made f d).next

clauses_append : (fs gs : List GroundFormula) (d : ℕ)
    → clauses_from (fs ++ gs) d ≡ clauses_from fs d ++ clauses_from gs (next_after fs d)
clauses_append [] gs d = refl
clauses_append (f ∷ fs) gs d =
    let r = made f d in
    ap (λ cs. stated r ++ cs) (clauses_append fs gs r.next)
    ∙ sym (append_assoc (stated r) (clauses_from fs r.next) (clauses_from gs (next_after fs r.next)))

-- some formulas, and then others
pub stated_append : (p : Problem) (fs gs : List GroundFormula) → stated_in (stated_in p fs) gs ≡ stated_in p (fs ++ gs)
stated_append p fs gs =
    let d = p.sizes.defs in
    grown_grown p (next_after fs d) (next_after gs (next_after fs d)) (clauses_from fs d)
    (clauses_from gs (next_after fs d))
    ∙ ap (grown p (next_after gs (next_after fs d))) (sym (clauses_append fs gs d))
    ∙ ap (λ n. grown p n (clauses_from (fs ++ gs) d)) (sym (next_append fs gs d))

pub stated_none : (p : Problem) → stated_in p [] ≡ p
stated_none p = ap (λ cs. let q : Problem = record { sizes = p.sizes; clauses = cs } in q) (append-nil p.clauses)

-- one formula: its definitions, and the clause of its literal
pub stated_one : (p q r : Problem) (f : GroundFormula) (l : Lit) → q ≡ defined_in p f → l ≡ (made f p.sizes.defs).lit
    → r ≡ with_clauses q ((l ∷ []) ∷ []) → r ≡ stated_in p (f ∷ [])
stated_one p q r f l e g h =
    let m = made f p.sizes.defs in
    h
    ∙ ap (λ (x : Problem). with_clauses x ((l ∷ []) ∷ [])) e
    ∙ ap (λ (x : Lit). with_clauses (defined_in p f) ((x ∷ []) ∷ [])) g
    ∙ ap (put p m.next) (append_assoc p.clauses m.clauses ((m.lit ∷ []) ∷ [])
    ∙ ap (λ cs. p.clauses ++ cs) (sym (append-nil (stated m))))

-- after more formulas
pub stated_more : (p q r : Problem) (fs gs : List GroundFormula) → q ≡ stated_in p fs → r ≡ stated_in q gs
    → r ≡ stated_in p (fs ++ gs)
stated_more p q r fs gs e f = f ∙ ap (λ (x : Problem). stated_in x gs) e ∙ stated_append p fs gs

-- the first of the formulas that are left were stated
pub stated_first : (p q total : Problem) (here more rest : List GroundFormula) → stated_in p here ≡ total
    → here ≡ more ++ rest → q ≡ stated_in p more → stated_in q rest ≡ total
stated_first p q total here more rest so split e =
    ap (λ (x : Problem). stated_in x rest) e ∙ stated_append p more rest ∙ ap (stated_in p) (sym split) ∙ so

pub stated_all : (p total : Problem) (here : List GroundFormula) → stated_in p here ≡ total → here ≡ [] → p ≡ total
stated_all p total here so none = sym (stated_none p) ∙ ap (stated_in p) (sym none) ∙ so

-- one term more
pub each_more : (f : Term → GroundFormula) (k : ℕ) (p q r : Problem) (g : GroundFormula) → q ≡ stated_in p (each k f)
    → g ≡ f (term k) → r ≡ stated_in q (g ∷ []) → r ≡ stated_in p (each (k + 1) f)
each_more f k p q r g e is h =
    stated_more p q r (each k f) (g ∷ []) e h ∙ ap (λ (x : GroundFormula). stated_in p (each k f ++ x ∷ [])) is
    ∙ ap (stated_in p) (sym (map_below_more f k))

-- one term more, with some formulas each
pub flat_more : (f : Term → List GroundFormula) (k : ℕ) (p q r : Problem) (gs : List GroundFormula)
    → q ≡ stated_in p (flat_map f (terms_below k)) → gs ≡ f (term k) → r ≡ stated_in q gs
    → r ≡ stated_in p (flat_map f (terms_below (k + 1)))
flat_more f k p q r gs e is h =
    stated_more p q r (flat_map f (terms_below k)) gs e h
    ∙ ap (stated_in p) (ap (λ xs. flat_map f (terms_below k) ++ xs) (is ∙ sym (append-nil (f (term k))))
    ∙ sym (flat_map-append f (terms_below k) (term k ∷ [])) ∙ ap (flat_map f) (sym (below_more k)))

range_end : (a n : ℕ) → range_with_len a (suc n) ≡ range_with_len a n ++ (a + n) ∷ []
range_end a zero = let e : a ≡ a + 0 = omega arith in ap (λ k. k ∷ []) e
range_end a (suc n) = let e : (a + 1) + n ≡ a + suc n = omega arith in
    ap (λ ks. a ∷ ks) (range_end (a + 1) n ∙ ap (λ k. range_with_len (a + 1) n ++ k ∷ []) e)

range_more : (n : ℕ) → range_with_len 0 (n + 1) ≡ range_with_len 0 n ++ n ∷ []
range_more n =
    let e : n + 1 ≡ suc n = omega arith in
    let f : 0 + n ≡ n = omega arith in
    ap (range_with_len 0) e ∙ (range_end 0 n ∙ ap (λ k. range_with_len 0 n ++ k ∷ []) f)

-- one number more
pub numbers_more : (f : ℕ → List GroundFormula) (k : ℕ) (p q r : Problem)
    → q ≡ stated_in p (flat_map f (range_with_len 0 k)) → r ≡ stated_in q (f k)
    → r ≡ stated_in p (flat_map f (range_with_len 0 (k + 1)))
numbers_more f k p q r e h =
    stated_more p q r (flat_map f (range_with_len 0 k)) (f k) e h
    ∙ ap (stated_in p) (ap (λ xs. flat_map f (range_with_len 0 k) ++ xs) (sym (append-nil (f k)))
    ∙ sym (flat_map-append f (range_with_len 0 k) (k ∷ [])) ∙ ap (flat_map f) (sym (range_more k)))

-- terms and versions stay
pub same_terms : (p q : Problem) (fs : List GroundFormula) → q ≡ stated_in p fs → q.sizes.terms ≡ p.sizes.terms
same_terms p q fs e = ap (λ (x : Problem). x.sizes.terms) e

pub same_versions : (p q : Problem) (fs : List GroundFormula) → q ≡ stated_in p fs → q.sizes.versions ≡ p.sizes.versions
same_versions p q fs e = ap (λ (x : Problem). x.sizes.versions) e

-- the literals so far and those that are left are all; the same for what was added
pub record Going (p : Problem) (lits : List Lit) (fs : GroundFormulas) (total : Problem) (all : List Lit) : Type 0 where
  pub lits_are : lits ++ (all_made fs p.sizes.defs).lits ≡ all
  pub state_is : all_defined_in p fs ≡ total
  pub within : AreWithin p.sizes fs

pub goes_on : (p q : Problem) (lits : List Lit) (here rest : GroundFormulas) (f : GroundFormula) (l : Lit)
    (total : Problem) (all : List Lit) → Going p lits here total all → here ≡ ground_formula_first f rest
    → l ≡ (made f p.sizes.defs).lit → q ≡ defined_in p f → Going q (lits ++ l ∷ []) rest total all
goes_on p q lits here rest f l total all g split is e =
    let r = made f p.sizes.defs in
    let s = all_made rest r.next in
    let h = subst (λ (fs : GroundFormulas). Going p lits fs total all) split g in
    subst (λ (x : Problem). Going x (lits ++ l ∷ []) rest total all) (sym e) (record {
      lits_are = append_assoc lits (l ∷ []) s.lits ∙ ap (λ (x : Lit). lits ++ x ∷ s.lits) is ∙ h.lits_are;
      state_is = grown_grown p r.next s.next r.clauses s.clauses ∙ h.state_is;
      within = all_within_more p.sizes p.sizes.defs r.next (made_grows f p.sizes.defs) rest h.within.1;
    })

pub goes_at : (p : Problem) (lits : List Lit) (here rest : GroundFormulas) (f : GroundFormula) (total : Problem)
    (all : List Lit) → Going p lits here total all → here ≡ ground_formula_first f rest → IsWithin p.sizes f
goes_at p lits here rest f total all g split =
    (subst (λ (fs : GroundFormulas). Going p lits fs total all) split g).within.0

pub gone : (p : Problem) (lits : List Lit) (here : GroundFormulas) (total : Problem) (all : List Lit)
    → Going p lits here total all → here ≡ no_ground_formulas → (lits ≡ all) × (p ≡ total)
gone p lits here total all g none =
    let h = subst (λ (fs : GroundFormulas). Going p lits fs total all) none g in (
      sym (append-nil lits) ∙ h.lits_are,
      ap (λ cs. let q : Problem = record { sizes = p.sizes; clauses = cs } in q) (sym (append-nil p.clauses))
          ∙ h.state_is,
    )
