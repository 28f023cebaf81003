-- Truth of clauses as a test, and what the clauses of each kind of definition say.
use Rattle.std.specs.Prelude.{◌≡◌, ◌⊎◌, ℕ, zero, suc, List, [], ◌∷◌, ◌++◌, map, All, Bool, true, false, not, ◌&&◌, ◌||◌}
use Rattle.std.proofs.Common.{refl, ◌∙◌, ap, inl, inr, arith}
use Rattle.std.proofs.lemmas.List.Elements.{All-cons}
use Rattle.gh_base.specs.declared.atom.Atom.TheVariants.{Def}
use Rattle.gh_base.specs.declared.atom.Lit.{Lit}
use Rattle.gh_base.specs.Atoms.{opposite}
use Rattle.gh_base.specs.Meaning.{Interpretation, lit_truth, IsClauseTrue}
use Rattle.gh_base.proofs.UnitLemmas.{truth_of_opposite}
use Rattle.gh_grass.specs.Clauses.{defined, conjunction_clauses, disjunction_clauses, equivalence_clauses}
use Rattle.gh_grass.specs.Truth.{agree}

abbrev pub some_lit : Interpretation → List Lit → Bool
some_lit m [] = false
some_lit m (l ∷ ls) = lit_truth m l || some_lit m ls

abbrev pub all_lits : Interpretation → List Lit → Bool
all_lits m [] = true
all_lits m (l ∷ ls) = lit_truth m l && all_lits m ls

abbrev pub all_clauses : Interpretation → List (List Lit) → Bool
all_clauses m [] = true
all_clauses m (c ∷ cs) = some_lit m c && all_clauses m cs

pub both : (a b : Bool) → a && b ≡ true → (a ≡ true) × (b ≡ true)
both true b e = (refl, e)
both false b e = absurd cc

pub joined : (a b : Bool) → a ≡ true → b ≡ true → a && b ≡ true
joined true b e f = f
joined false b e f = absurd cc

or_left : (a b : Bool) → a ≡ true → a || b ≡ true
or_left true b e = refl
or_left false b e = absurd cc

or_right : (a b : Bool) → b ≡ true → a || b ≡ true
or_right true b e = refl
or_right false b e = e

one_of_two : (a b : Bool) → a || b ≡ true → (a ≡ true) ⊎ (b ≡ true)
one_of_two true b e = inl refl
one_of_two false b e = inr e

pub and_same : (a a' b b' : Bool) → a ≡ a' → b ≡ b' → a && b ≡ a' && b'
and_same a a' b b' e f = rw (e, f) refl

pub or_same : (a a' b b' : Bool) → a ≡ a' → b ≡ b' → a || b ≡ a' || b'
or_same a a' b b' e f = rw (e, f) refl

pub agree_same : (a a' b b' : Bool) → a ≡ a' → b ≡ b' → agree a b ≡ agree a' b'
agree_same a a' b b' e f = rw (e, f) refl

pub agree_is : (a b : Bool) → agree a b ≡ true → a ≡ b
agree_is true true e = refl
agree_is true false e = absurd cc
agree_is false true e = absurd cc
agree_is false false e = refl

pub agree_self : (a : Bool) → agree a a ≡ true
agree_self true = refl
agree_self false = refl

-- the test is the truth of a clause
pub clause_true : (m : Interpretation) (c : List Lit) → some_lit m c ≡ true → IsClauseTrue m c
clause_true m [] e = absurd cc
clause_true m (l ∷ ls) e = elim (one_of_two (lit_truth m l) (some_lit m ls) e) [
  | inl t ↦ (0, l, omega arith, refl, t)
  | inr t ↦ let w = clause_true m ls t in (suc w.0, w.1, omega (arith, w.2), w.3, w.4)
]

pub true_clause : (m : Interpretation) (c : List Lit) → IsClauseTrue m c → some_lit m c ≡ true
true_clause m [] (k, x, h, e, t) = absurd (omega (arith, h))
true_clause m (l ∷ ls) (zero, x, h, e, t) = or_left (lit_truth m l) (some_lit m ls) (ap (lit_truth m) e ∙ t)
true_clause m (l ∷ ls) (suc k, x, h, e, t) =
    or_right (lit_truth m l) (some_lit m ls) (true_clause m ls (k, x, omega (arith, h), e, t))

pub clauses_true : (m : Interpretation) (cs : List (List Lit)) → all_clauses m cs ≡ true → All (IsClauseTrue m) cs
clauses_true m [] e = λ k d h. absurd (omega (arith, h))
clauses_true m (c ∷ cs) e =
    let p = both (some_lit m c) (all_clauses m cs) e in
    All-cons (IsClauseTrue m) c cs (clause_true m c p.0) (clauses_true m cs p.1)

pub true_clauses : (m : Interpretation) (cs : List (List Lit)) → All (IsClauseTrue m) cs → all_clauses m cs ≡ true
true_clauses m [] h = refl
true_clauses m (c ∷ cs) h =
    joined (some_lit m c) (all_clauses m cs) (true_clause m c (h 0 c (omega arith)))
    (true_clauses m cs (λ k d l. h (suc k) d (omega (arith, l))))

and_assoc : (a b c : Bool) → a && (b && c) ≡ (a && b) && c
and_assoc true b c = refl
and_assoc false b c = refl

pub all_append : (m : Interpretation) (xs ys : List (List Lit))
    → all_clauses m (xs ++ ys) ≡ all_clauses m xs && all_clauses m ys
all_append m [] ys = refl
all_append m (c ∷ cs) ys =
    ap (λ b. some_lit m c && b) (all_append m cs ys) ∙ and_assoc (some_lit m c) (all_clauses m cs) (all_clauses m ys)

or_true : (a : Bool) → true ≡ a || true
or_true true = refl
or_true false = refl

-- a definition of a conjunction
conj_member : (x l a : Bool) → (x || (l || false)) && (x || a) ≡ x || (l && a)
conj_member true l a = refl
conj_member false true a = refl
conj_member false false a = refl

conj_members : (m : Interpretation) (d : ℕ) (ls : List Lit)
    → all_clauses m (map (λ l. opposite (defined d) ∷ l ∷ []) ls) ≡ not (m.table (Def d)) || all_lits m ls
conj_members m d [] = or_true (not (m.table (Def d)))
conj_members m d (l ∷ ls) =
    ap (λ b. (not (m.table (Def d)) || (lit_truth m l || false)) && b) (conj_members m d ls)
    ∙ conj_member (not (m.table (Def d))) (lit_truth m l) (all_lits m ls)

not_and : (a b : Bool) → not a || not b ≡ not (a && b)
not_and true b = refl
not_and false b = refl

opposites : (m : Interpretation) (ls : List Lit) → some_lit m (map opposite ls) ≡ not (all_lits m ls)
opposites m [] = refl
opposites m (l ∷ ls) =
    or_same (lit_truth m (opposite l)) (not (lit_truth m l)) (some_lit m (map opposite ls)) (not (all_lits m ls))
    (truth_of_opposite m l) (opposites m ls)
    ∙ not_and (lit_truth m l) (all_lits m ls)

conj_last : (d a : Bool) → (not d || a) && ((d || not a) && true) ≡ agree d a
conj_last true true = refl
conj_last true false = refl
conj_last false true = refl
conj_last false false = refl

pub conj_clauses : (m : Interpretation) (d : ℕ) (ls : List Lit)
    → all_clauses m (conjunction_clauses d ls) ≡ agree (m.table (Def d)) (all_lits m ls)
conj_clauses m d ls =
    all_append m (map (λ l. opposite (defined d) ∷ l ∷ []) ls) ((defined d ∷ map opposite ls) ∷ [])
    ∙ ap (λ b. b && ((m.table (Def d) || some_lit m (map opposite ls)) && true)) (conj_members m d ls)
    ∙ ap (λ b. (not (m.table (Def d)) || all_lits m ls) && ((m.table (Def d) || b) && true)) (opposites m ls)
    ∙ conj_last (m.table (Def d)) (all_lits m ls)

-- a definition of a disjunction
disj_member : (x l s : Bool) → (x || (not l || false)) && (x || not s) ≡ x || not (l || s)
disj_member true l s = refl
disj_member false true s = refl
disj_member false false s = refl

disj_members : (m : Interpretation) (d : ℕ) (ls : List Lit)
    → all_clauses m (map (λ l. defined d ∷ opposite l ∷ []) ls) ≡ m.table (Def d) || not (some_lit m ls)
disj_members m d [] = or_true (m.table (Def d))
disj_members m d (l ∷ ls) =
    ap (λ b. (m.table (Def d) || (lit_truth m (opposite l) || false)) && b) (disj_members m d ls)
    ∙ ap (λ b. (m.table (Def d) || (b || false)) && (m.table (Def d) || not (some_lit m ls))) (truth_of_opposite m l)
    ∙ disj_member (m.table (Def d)) (lit_truth m l) (some_lit m ls)

disj_last : (d s : Bool) → (d || not s) && ((not d || s) && true) ≡ agree d s
disj_last true true = refl
disj_last true false = refl
disj_last false true = refl
disj_last false false = refl

pub disj_clauses : (m : Interpretation) (d : ℕ) (ls : List Lit)
    → all_clauses m (disjunction_clauses d ls) ≡ agree (m.table (Def d)) (some_lit m ls)
disj_clauses m d ls =
    all_append m (map (λ l. defined d ∷ opposite l ∷ []) ls) ((opposite (defined d) ∷ ls) ∷ [])
    ∙ ap (λ b. b && ((not (m.table (Def d)) || some_lit m ls) && true)) (disj_members m d ls)
    ∙ disj_last (m.table (Def d)) (some_lit m ls)

-- a definition of an equivalence
equiv_cases : (d l k : Bool) →
    (not d || (not l || (k || false)))
    && ((not d || (l || (not k || false)))
    && ((d || (l || (k || false))) && ((d || (not l || (not k || false))) && true)))
    ≡ agree d (agree l k)
equiv_cases true true true = refl
equiv_cases true true false = refl
equiv_cases true false true = refl
equiv_cases true false false = refl
equiv_cases false true true = refl
equiv_cases false true false = refl
equiv_cases false false true = refl
equiv_cases false false false = refl

equiv_bools : (d l k l' k' : Bool) → l' ≡ not l → k' ≡ not k →
    (not d || (l' || (k || false)))
    && ((not d || (l || (k' || false))) && ((d || (l || (k || false))) && ((d || (l' || (k' || false))) && true)))
    ≡ agree d (agree l k)
equiv_bools d l k l' k' e f = rw (e, f) (equiv_cases d l k)

pub equiv_clauses : (m : Interpretation) (d : ℕ) (l k : Lit)
    → all_clauses m (equivalence_clauses d l k) ≡ agree (m.table (Def d)) (agree (lit_truth m l) (lit_truth m k))
equiv_clauses m d l k =
    equiv_bools (m.table (Def d)) (lit_truth m l) (lit_truth m k) (lit_truth m (opposite l)) (lit_truth m (opposite k))
    (truth_of_opposite m l) (truth_of_opposite m k)
