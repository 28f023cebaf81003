-- The clauses of formulas mean what the formulas mean.
use Rattle.std.specs.Prelude.{◌≡◌, ℕ, suc, get_or, ◌+◌, ◌<◌, ◌≤◌, List, [], ◌∷◌, ◌++◌, Bool, true, false, not, ◌&&◌}
use Rattle.std.specs.Prelude.{◌||◌, cond, nat_eq, All}
use Rattle.std.proofs.Common.{refl, sym, ◌∙◌, ap, arith, eq-eqb}
use Rattle.std.proofs.lemmas.List.Elements.{All-cons}
use Rattle.gh_base.specs.declared.atom.Atom.{Atom}
use Rattle.gh_base.specs.declared.atom.Atom.TheVariants.{Eq, Btwn, Hop, Alloc, Def}
use Rattle.gh_base.specs.declared.atom.Lit.{Lit}
use Rattle.gh_base.specs.Meaning.{Interpretation, atom_truth, lit_truth}
use Rattle.gh_base.proofs.UnitLemmas.{truth_of_opposite}
use Rattle.gh_grass.specs.Claims.{GroundFormula, atom, negation_of, conjunction_of, disjunction_of, equivalence_of}
use Rattle.gh_grass.specs.Claims.{GroundFormulas, no_ground_formulas, ground_formula_first}
use Rattle.gh_grass.specs.Clauses.{Made, AllMade, made, all_made, stated, clauses_from, conjunction_clauses}
use Rattle.gh_grass.specs.Clauses.{disjunction_clauses, equivalence_clauses}
use Rattle.gh_grass.specs.Truth.{agree, truth, all_true, some_true, AreTrue, IsEarlier, HasEarlier, HaveEarlier}
use Rattle.gh_grass.specs.Truth.{IsOneBefore, LiteralsAreFormulas, ClausesMeanFormulas, DefinitionsExist}
use Rattle.gh_grass.specs.Truth.{FormulasGiveClauses}
use Rattle.gh_grass.proofs.TruthLemmas.{some_lit, all_lits, all_clauses, both, joined, and_same, or_same, agree_same}
use Rattle.gh_grass.proofs.TruthLemmas.{agree_is, agree_self, clauses_true, true_clauses, all_append, conj_clauses}
use Rattle.gh_grass.proofs.TruthLemmas.{disj_clauses, equiv_clauses}

-- clauses of which the first ones and the last ones are true
two : (m : Interpretation) (xs ys : List (List Lit)) → all_clauses m (xs ++ ys) ≡ true
    → (all_clauses m xs ≡ true) × (all_clauses m ys ≡ true)
two m xs ys h = both (all_clauses m xs) (all_clauses m ys) (sym (all_append m xs ys) ∙ h)

put_two : (m : Interpretation) (xs ys : List (List Lit)) → all_clauses m xs ≡ true → all_clauses m ys ≡ true
    → all_clauses m (xs ++ ys) ≡ true
put_two m xs ys h k = all_append m xs ys ∙ joined (all_clauses m xs) (all_clauses m ys) h k

record AllTruth (m : Interpretation) (s : AllMade) (fs : GroundFormulas) : Type 0 where
  all : all_lits m s.lits ≡ all_true m fs
  some : some_lit m s.lits ≡ some_true m fs

mutual
  made_truth : (m : Interpretation) (f : GroundFormula) (d : ℕ) → all_clauses m (made f d).clauses ≡ true
      → lit_truth m (made f d).lit ≡ truth m f
  made_truth m (atom a) d h = refl
  made_truth m (negation_of f) d h = truth_of_opposite m (made f d).lit ∙ ap not (made_truth m f d h)
  made_truth m (conjunction_of fs) d h =
      let s = all_made fs d in
      let p = two m s.clauses (conjunction_clauses s.next s.lits) h in
      agree_is (m.table (Def s.next)) (all_lits m s.lits) (sym (conj_clauses m s.next s.lits) ∙ p.1)
      ∙ (all_truth m fs d p.0).all
  made_truth m (disjunction_of fs) d h =
      let s = all_made fs d in
      let p = two m s.clauses (disjunction_clauses s.next s.lits) h in
      agree_is (m.table (Def s.next)) (some_lit m s.lits) (sym (disj_clauses m s.next s.lits) ∙ p.1)
      ∙ (all_truth m fs d p.0).some
  made_truth m (equivalence_of f g) d h =
      let r = made f d in
      let s = made g r.next in
      let p = two m (r.clauses ++ s.clauses) (equivalence_clauses s.next r.lit s.lit) h in
      let q = two m r.clauses s.clauses p.0 in
      agree_is (m.table (Def s.next)) (agree (lit_truth m r.lit) (lit_truth m s.lit))
      (sym (equiv_clauses m s.next r.lit s.lit) ∙ p.1)
      ∙ agree_same (lit_truth m r.lit) (truth m f) (lit_truth m s.lit) (truth m g) (made_truth m f d q.0)
      (made_truth m g r.next q.1)

  all_truth : (m : Interpretation) (fs : GroundFormulas) (d : ℕ) → all_clauses m (all_made fs d).clauses ≡ true
      → AllTruth m (all_made fs d) fs
  all_truth m no_ground_formulas d h = record { all = refl; some = refl }
  all_truth m (ground_formula_first f fs) d h =
      let r = made f d in
      let s = all_made fs r.next in
      let p = two m r.clauses s.clauses h in
      let here = made_truth m f d p.0 in
      let later = all_truth m fs r.next p.1 in
      record {
        all = and_same (lit_truth m r.lit) (truth m f) (all_lits m s.lits) (all_true m fs) here later.all;
        some = or_same (lit_truth m r.lit) (truth m f) (some_lit m s.lits) (some_true m fs) here later.some;
      }

pub literals_are_formulas : LiteralsAreFormulas
literals_are_formulas m f d h = made_truth m f d (true_clauses m (made f d).clauses h)

mean_formulas : (m : Interpretation) (fs : List GroundFormula) (d : ℕ) → all_clauses m (clauses_from fs d) ≡ true
    → AreTrue m fs
mean_formulas m [] d h = λ k e l. absurd (omega (arith, l))
mean_formulas m (f ∷ fs) d h =
    let r = made f d in
    let p = two m (stated r) (clauses_from fs r.next) h in
    let q = two m r.clauses ((r.lit ∷ []) ∷ []) p.0 in
    let unit = both (lit_truth m r.lit || false) true q.1 in
    All-cons (λ g. truth m g ≡ true) f fs (sym (made_truth m f d q.0) ∙ alone (lit_truth m r.lit) unit.0)
    (mean_formulas m fs r.next p.1)
  where
    alone : (b : Bool) → b || false ≡ true → b ≡ true
    alone true e = refl
    alone false e = e

pub clauses_mean_formulas : ClausesMeanFormulas
clauses_mean_formulas m fs d h = mean_formulas m fs d (true_clauses m (clauses_from fs d) h)

-- later numbers
onto : (a b c : ℕ) → a ≤ b → b ≤ c → a ≤ c
onto a b c h k = omega arith

mutual
  pub made_grows : (f : GroundFormula) (d : ℕ) → d ≤ (made f d).next
  made_grows (atom a) d = omega arith
  made_grows (negation_of f) d = made_grows f d
  made_grows (conjunction_of fs) d =
      onto d (all_made fs d).next ((all_made fs d).next + 1) (all_made_grows fs d) (omega arith)
  made_grows (disjunction_of fs) d =
      onto d (all_made fs d).next ((all_made fs d).next + 1) (all_made_grows fs d) (omega arith)
  made_grows (equivalence_of f g) d =
      let e = (made f d).next in
      onto d e ((made g e).next + 1) (made_grows f d)
      (onto e (made g e).next ((made g e).next + 1) (made_grows g e) (omega arith))

  pub all_made_grows : (fs : GroundFormulas) (d : ℕ) → d ≤ (all_made fs d).next
  all_made_grows no_ground_formulas d = omega arith
  all_made_grows (ground_formula_first f fs) d =
      onto d (made f d).next (all_made fs (made f d).next).next (made_grows f d) (all_made_grows fs (made f d).next)

earlier_more : (d e : ℕ) → d ≤ e → (a : Atom) → IsEarlier d a → IsEarlier e a
earlier_more d e l (Eq x y) h = tt
earlier_more d e l (Btwn v x y z) h = tt
earlier_more d e l (Hop v x y) h = tt
earlier_more d e l (Alloc v x) h = tt
earlier_more d e l (Def number) h = omega arith

mutual
  has_more : (d e : ℕ) → d ≤ e → (f : GroundFormula) → HasEarlier d f → HasEarlier e f
  has_more d e l (atom a) h = earlier_more d e l a h
  has_more d e l (negation_of f) h = has_more d e l f h
  has_more d e l (conjunction_of fs) h = have_more d e l fs h
  has_more d e l (disjunction_of fs) h = have_more d e l fs h
  has_more d e l (equivalence_of f g) h = (has_more d e l f h.0, has_more d e l g h.1)

  have_more : (d e : ℕ) → d ≤ e → (fs : GroundFormulas) → HaveEarlier d fs → HaveEarlier e fs
  have_more d e l no_ground_formulas h = tt
  have_more d e l (ground_formula_first f fs) h = (has_more d e l f h.0, have_more d e l fs h.1)

-- interpretations that differ in later definitions alone
before_less : (d e : ℕ) (m n : Interpretation) → d ≤ e → IsOneBefore e m n → IsOneBefore d m n
before_less d e m n l o = record { class = o.class; table = λ a h. o.table a (earlier_more d e l a h) }

before_onto : (d e : ℕ) (m n k : Interpretation) → d ≤ e → IsOneBefore d m n → IsOneBefore e n k → IsOneBefore d m k
before_onto d e m n k l o p =
    record { class = p.class ∙ o.class; table = λ a h. p.table a (earlier_more d e l a h) ∙ o.table a h }

same_atom : (d : ℕ) (m n : Interpretation) → IsOneBefore d m n → (a : Atom) → IsEarlier d a
    → atom_truth n a ≡ atom_truth m a
same_atom d m n o (Eq x y) h = ap (λ (c : ℕ → ℕ). nat_eq (c x.0) (c y.0)) o.class
same_atom d m n o (Btwn v x y z) h = o.table (Btwn v x y z) h
same_atom d m n o (Hop v x y) h = o.table (Hop v x y) h
same_atom d m n o (Alloc v x) h = o.table (Alloc v x) h
same_atom d m n o (Def number) h = o.table (Def number) h

mutual
  same_truth : (d : ℕ) (m n : Interpretation) → IsOneBefore d m n → (f : GroundFormula) → HasEarlier d f
      → truth n f ≡ truth m f
  same_truth d m n o (atom a) h = same_atom d m n o a h
  same_truth d m n o (negation_of f) h = ap not (same_truth d m n o f h)
  same_truth d m n o (conjunction_of fs) h = (same_truths d m n o fs h).0
  same_truth d m n o (disjunction_of fs) h = (same_truths d m n o fs h).1
  same_truth d m n o (equivalence_of f g) h =
      agree_same (truth n f) (truth m f) (truth n g) (truth m g) (same_truth d m n o f h.0) (same_truth d m n o g h.1)

  same_truths : (d : ℕ) (m n : Interpretation) → IsOneBefore d m n → (fs : GroundFormulas) → HaveEarlier d fs
      → (all_true n fs ≡ all_true m fs) × (some_true n fs ≡ some_true m fs)
  same_truths d m n o no_ground_formulas h = (refl, refl)
  same_truths d m n o (ground_formula_first f fs) h =
      let here = same_truth d m n o f h.0 in
      let later = same_truths d m n o fs h.1 in (
        and_same (truth n f) (truth m f) (all_true n fs) (all_true m fs) here later.0,
        or_same (truth n f) (truth m f) (some_true n fs) (some_true m fs) here later.1,
      )

-- the clauses of a formula have no later definitions
record Same (m n : Interpretation) (r : Made) : Type 0 where
  lit : lit_truth n r.lit ≡ lit_truth m r.lit
  clauses : all_clauses n r.clauses ≡ all_clauses m r.clauses

record AllSame (m n : Interpretation) (s : AllMade) : Type 0 where
  all : all_lits n s.lits ≡ all_lits m s.lits
  some : some_lit n s.lits ≡ some_lit m s.lits
  clauses : all_clauses n s.clauses ≡ all_clauses m s.clauses

same_append : (m n : Interpretation) (xs ys : List (List Lit)) → all_clauses n xs ≡ all_clauses m xs
    → all_clauses n ys ≡ all_clauses m ys → all_clauses n (xs ++ ys) ≡ all_clauses m (xs ++ ys)
same_append m n xs ys e f =
    all_append n xs ys ∙ and_same (all_clauses n xs) (all_clauses m xs) (all_clauses n ys) (all_clauses m ys) e f
    ∙ sym (all_append m xs ys)

one_more : (d : ℕ) → d ≤ d + 1
one_more d = omega arith

the_last : (d : ℕ) → d < d + 1
the_last d = omega arith

mutual
  same_made : (m n : Interpretation) (f : GroundFormula) (d : ℕ) → HasEarlier d f → IsOneBefore (made f d).next m n
      → Same m n (made f d)
  same_made m n (atom a) d h o = record { lit = same_atom d m n o a h; clauses = refl }
  same_made m n (negation_of f) d h o =
      let r = same_made m n f d h o in
      record {
        lit = truth_of_opposite n (made f d).lit ∙ ap not r.lit ∙ sym (truth_of_opposite m (made f d).lit);
        clauses = r.clauses;
      }
  same_made m n (conjunction_of fs) d h o =
      let s = all_made fs d in
      let r = same_all m n fs d h (before_less s.next (s.next + 1) m n (one_more s.next) o) in
      let lit = o.table (Def s.next) (the_last s.next) in
      record {
        lit = lit;
        clauses = same_append m n s.clauses (conjunction_clauses s.next s.lits) r.clauses
            (conj_clauses n s.next s.lits
            ∙ agree_same (n.table (Def s.next)) (m.table (Def s.next)) (all_lits n s.lits) (all_lits m s.lits) lit
            r.all ∙ sym (conj_clauses m s.next s.lits));
      }
  same_made m n (disjunction_of fs) d h o =
      let s = all_made fs d in
      let r = same_all m n fs d h (before_less s.next (s.next + 1) m n (one_more s.next) o) in
      let lit = o.table (Def s.next) (the_last s.next) in
      record {
        lit = lit;
        clauses = same_append m n s.clauses (disjunction_clauses s.next s.lits) r.clauses
            (disj_clauses n s.next s.lits
            ∙ agree_same (n.table (Def s.next)) (m.table (Def s.next)) (some_lit n s.lits) (some_lit m s.lits) lit
            r.some ∙ sym (disj_clauses m s.next s.lits));
      }
  same_made m n (equivalence_of f g) d h o =
      let r = made f d in
      let s = made g r.next in
      let before = before_less s.next (s.next + 1) m n (one_more s.next) o in
      let a = same_made m n f d h.0 (before_less r.next s.next m n (made_grows g r.next) before) in
      let b = same_made m n g r.next (has_more d r.next (made_grows f d) g h.1) before in
      let lit = o.table (Def s.next) (the_last s.next) in
      record {
        lit = lit;
        clauses =
            same_append m n (r.clauses ++ s.clauses) (equivalence_clauses s.next r.lit s.lit)
            (same_append m n r.clauses s.clauses a.clauses b.clauses)
            (equiv_clauses n s.next r.lit s.lit
            ∙ agree_same (n.table (Def s.next)) (m.table (Def s.next)) (agree (lit_truth n r.lit) (lit_truth n s.lit))
            (agree (lit_truth m r.lit) (lit_truth m s.lit)) lit
            (agree_same (lit_truth n r.lit) (lit_truth m r.lit) (lit_truth n s.lit) (lit_truth m s.lit) a.lit b.lit)
            ∙ sym (equiv_clauses m s.next r.lit s.lit));
      }

  same_all : (m n : Interpretation) (fs : GroundFormulas) (d : ℕ) → HaveEarlier d fs
      → IsOneBefore (all_made fs d).next m n → AllSame m n (all_made fs d)
  same_all m n no_ground_formulas d h o = record { all = refl; some = refl; clauses = refl }
  same_all m n (ground_formula_first f fs) d h o =
      let r = made f d in
      let s = all_made fs r.next in
      let a = same_made m n f d h.0 (before_less r.next s.next m n (all_made_grows fs r.next) o) in
      let b = same_all m n fs r.next (have_more d r.next (made_grows f d) fs h.1) o in
      record {
        all = and_same (lit_truth n r.lit) (lit_truth m r.lit) (all_lits n s.lits) (all_lits m s.lits) a.lit b.all;
        some = or_same (lit_truth n r.lit) (lit_truth m r.lit) (some_lit n s.lits) (some_lit m s.lits) a.lit b.some;
        clauses = same_append m n r.clauses s.clauses a.clauses b.clauses;
      }

-- one definition gets a value
given : ℕ → Bool → (Atom → Bool) → Atom → Bool
given d b t (Eq x y) = t (Eq x y)
given d b t (Btwn v x y z) = t (Btwn v x y z)
given d b t (Hop v x y) = t (Hop v x y)
given d b t (Alloc v x) = t (Alloc v x)
given d b t (Def number) = cond (nat_eq number d) b (t (Def number))

abbrev with_definition : ℕ → Bool → Interpretation → Interpretation
with_definition d b m = record { class = m.class; table = given d b m.table }

not_itself : (k d : ℕ) → k < d → nat_eq k d ≡ false
not_itself k d l = grind arith

given_earlier : (d : ℕ) (b : Bool) (t : Atom → Bool) (a : Atom) → IsEarlier d a → given d b t a ≡ t a
unfolding given
given_earlier d b t (Eq x y) h = refl
given_earlier d b t (Btwn v x y z) h = refl
given_earlier d b t (Hop v x y) h = refl
given_earlier d b t (Alloc v x) h = refl
given_earlier d b t (Def number) h = ap (λ c. cond c b (t (Def number))) (not_itself number d h)

given_here : (d : ℕ) (b : Bool) (t : Atom → Bool) → given d b t (Def d) ≡ b
unfolding given
given_here d b t = ap (λ c. cond c b (t (Def d))) (eq-eqb d d refl)

is_before : (d : ℕ) (b : Bool) (m : Interpretation) → IsOneBefore d m (with_definition d b m)
is_before d b m = record { class = refl; table = λ a h. given_earlier d b m.table a h }

-- the definitions of a formula get values
record Defined (d : ℕ) (m : Interpretation) (clauses : List (List Lit)) : Type 0 where
  found : Interpretation
  before : IsOneBefore d m found
  holds : all_clauses found clauses ≡ true

-- a last definition gets the value of what it stands for
last_defined : (d : ℕ) (m : Interpretation) (e : ℕ) (earlier later : List (List Lit)) (b : Bool) → d ≤ e
    → (r : Defined d m earlier)
    → all_clauses (with_definition e b r.found) earlier ≡ all_clauses r.found earlier
    → all_clauses (with_definition e b r.found) later ≡ true
    → Defined d m (earlier ++ later)
last_defined d m e earlier later b l r same holds =
    let n = with_definition e b r.found in
    record {
      found = n;
      before = before_onto d e m r.found n l r.before (is_before e b r.found);
      holds = put_two n earlier later (same ∙ r.holds) holds;
    }

agrees_with : (a b c : Bool) → a ≡ b → c ≡ b → agree a c ≡ true
agrees_with a b c e f = agree_same a b c b e f ∙ agree_self b

mutual
  define_made : (m : Interpretation) (f : GroundFormula) (d : ℕ) → HasEarlier d f → Defined d m (made f d).clauses
  define_made m (atom a) d h = record { found = m; before = record { class = refl; table = λ a h. refl }; holds = refl }
  define_made m (negation_of f) d h = define_made m f d h
  define_made m (conjunction_of fs) d h =
      let s = all_made fs d in
      let r = define_all m fs d h in
      let b = all_lits r.found s.lits in
      let n = with_definition s.next b r.found in
      let same = same_all r.found n fs d h (is_before s.next b r.found) in
      last_defined d m s.next s.clauses (conjunction_clauses s.next s.lits) b (all_made_grows fs d) r same.clauses
      (conj_clauses n s.next s.lits
      ∙ agrees_with (n.table (Def s.next)) b (all_lits n s.lits) (given_here s.next b r.found.table) same.all)
  define_made m (disjunction_of fs) d h =
      let s = all_made fs d in
      let r = define_all m fs d h in
      let b = some_lit r.found s.lits in
      let n = with_definition s.next b r.found in
      let same = same_all r.found n fs d h (is_before s.next b r.found) in
      last_defined d m s.next s.clauses (disjunction_clauses s.next s.lits) b (all_made_grows fs d) r same.clauses
      (disj_clauses n s.next s.lits
      ∙ agrees_with (n.table (Def s.next)) b (some_lit n s.lits) (given_here s.next b r.found.table) same.some)
  define_made m (equivalence_of f g) d h =
      let r = made f d in
      let s = made g r.next in
      let first = define_made m f d h.0 in
      let more = has_more d r.next (made_grows f d) g h.1 in
      let second = define_made first.found g r.next more in
      let kept = same_made first.found second.found f d h.0 second.before in
      let whole : Defined d m (r.clauses ++ s.clauses) = record {
        found = second.found;
        before = before_onto d r.next m first.found second.found (made_grows f d) first.before second.before;
        holds = put_two second.found r.clauses s.clauses (kept.clauses ∙ first.holds) second.holds;
      } in
      let b = agree (lit_truth second.found r.lit) (lit_truth second.found s.lit) in
      let n = with_definition s.next b second.found in
      let one = is_before s.next b second.found in
      let left =
      same_made second.found n f d h.0 (before_less r.next s.next second.found n (made_grows g r.next) one) in
      let right = same_made second.found n g r.next more one in
      last_defined d m s.next (r.clauses ++ s.clauses) (equivalence_clauses s.next r.lit s.lit) b
      (onto d r.next s.next (made_grows f d) (made_grows g r.next)) whole
      (same_append second.found n r.clauses s.clauses left.clauses right.clauses)
      (equiv_clauses n s.next r.lit s.lit
      ∙ agrees_with (n.table (Def s.next)) b (agree (lit_truth n r.lit) (lit_truth n s.lit))
      (given_here s.next b second.found.table)
      (agree_same (lit_truth n r.lit) (lit_truth second.found r.lit) (lit_truth n s.lit) (lit_truth second.found s.lit)
      left.lit right.lit))

  define_all : (m : Interpretation) (fs : GroundFormulas) (d : ℕ) → HaveEarlier d fs
      → Defined d m (all_made fs d).clauses
  define_all m no_ground_formulas d h =
      record { found = m; before = record { class = refl; table = λ a h. refl }; holds = refl }
  define_all m (ground_formula_first f fs) d h =
      let r = made f d in
      let s = all_made fs r.next in
      let first = define_made m f d h.0 in
      let more = have_more d r.next (made_grows f d) fs h.1 in
      let second = define_all first.found fs r.next more in
      let kept = same_made first.found second.found f d h.0 second.before in
      record {
        found = second.found;
        before = before_onto d r.next m first.found second.found (made_grows f d) first.before second.before;
        holds = put_two second.found r.clauses s.clauses (kept.clauses ∙ first.holds) second.holds;
      }

pub definitions_exist : DefinitionsExist
definitions_exist m f d h =
    let r = define_made m f d h in
    (r.found, r.before, clauses_true r.found (made f d).clauses r.holds)

alone : (b : Bool) → b ≡ true → (b || false) && true ≡ true
alone true e = refl
alone false e = absurd cc

give_clauses : (m : Interpretation) (fs : List GroundFormula) (d : ℕ) → All (HasEarlier d) fs → AreTrue m fs
    → Defined d m (clauses_from fs d)
give_clauses m [] d h t = record { found = m; before = record { class = refl; table = λ a h. refl }; holds = refl }
give_clauses m (f ∷ fs) d h t =
    let r = made f d in
    let here = h 0 f (omega arith) in
    let first = define_made m f d here in
    let is : lit_truth first.found r.lit ≡ true =
    made_truth first.found f d first.holds ∙ (same_truth d m first.found first.before f here ∙ t 0 f (omega arith)) in
    let later : All (HasEarlier r.next) fs =
    λ k e l. has_more d r.next (made_grows f d) (get_or fs k e) (h (suc k) e (omega (arith, l))) in
    let true_later : AreTrue first.found fs = λ k e l.
    same_truth d m first.found first.before (get_or fs k e) (h (suc k) e (omega (arith, l)))
    ∙ t (suc k) e (omega (arith, l)) in
    let second = give_clauses first.found fs r.next later true_later in
    let kept = same_made first.found second.found f d here second.before in
    record {
      found = second.found;
      before = before_onto d r.next m first.found second.found (made_grows f d) first.before second.before;
      holds = put_two second.found (stated r) (clauses_from fs r.next)
          (put_two second.found r.clauses ((r.lit ∷ []) ∷ []) (kept.clauses ∙ first.holds)
          (alone (lit_truth second.found r.lit) (kept.lit ∙ is)))
          second.holds;
    }

pub formulas_give_clauses : FormulasGiveClauses
formulas_give_clauses m fs d h t =
    let r = give_clauses m fs d h t in
    (r.found, r.before, clauses_true r.found (clauses_from fs d) r.holds)
