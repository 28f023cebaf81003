-- How many instances have no line yet.
use Rattle.std.proofs.Common.{◌≡◌, ◌⊎◌, ℕ, zero, suc, ◌+◌, ◌<◌, ◌≤◌, List, [], ◌∷◌, ◌++◌, length, get_or, map, Option}
use Rattle.std.proofs.Common.{Some, Bool, true, false, inl, inr, refl, sym, ap, ◌∙◌, subst, arith, All, Contains}
use Rattle.std.specs.Prelude.{nat_eq, ◌&&◌, ◌||◌}
use Rattle.std.proofs.lemmas.Bool.{eqb-true, eq-eqb, false≢true}
use Rattle.std.proofs.lemmas.List.Elements.{All-contains, All-head, Contains-append_left, Contains-get_or}
use Rattle.gh_base.specs.declared.atom.Term.{Term}
use Rattle.gh_base.specs.declared.atom.Lit.{Lit}
use Rattle.gh_base.specs.declared.sizes.Sizes.{Sizes}
use Rattle.gh_base.specs.Grounds.{Problem}
use Rattle.gh_base.specs.Meaning.{Interpretation, IsClauseTrue, IsCongruence}
use Rattle.gh_base.specs.Structures.{Tables, interpretation_of}
use Rattle.gh_inst.specs.declared.naming.InstanceName.{InstanceName}
use Rattle.gh_inst.specs.Collecting.{IsFalseInstance}
use Rattle.gh_inst.specs.Instances.{instances, IsInstance, clause_of}
use Rattle.gh_inst.specs.Violations.{AreInstancesTrue}
use Rattle.gh_inst.proofs.ListedLemmas.{all_are_listed}
use Rattle.gh_log.specs.Lines.{LogLine}
use Rattle.gh_log.specs.Lines as line
use Rattle.gh_log.specs.Sections.{line_clause}
use Rattle.gh_sat.specs.Trail.{SearchState}
use Rattle.gh_sat.proofs.ListLemmas.{lt_le}
use Rattle.gh_ground.specs.Kept.{HasLineEach, KeepsLines, AddsInstance}
use Rattle.gh_ground.specs.Solving.{IsModelOf}

abbrev same_terms : List Term → List Term → Bool
same_terms [] [] = true
same_terms [] (y ∷ ys) = false
same_terms (x ∷ xs) [] = false
same_terms (x ∷ xs) (y ∷ ys) = nat_eq x.0 y.0 && same_terms xs ys

abbrev same_name : InstanceName → InstanceName → Bool
same_name a b =
    (nat_eq a.row b.row && nat_eq a.version b.version) && (nat_eq a.arity b.arity && same_terms a.terms b.terms)

abbrev is_named : InstanceName → LogLine → Bool
is_named n (line.Axiom m) = same_name n m
is_named n (line.Clause k) = false
is_named n (line.Lemma c) = false
is_named n (line.Learnt c) = false
is_named n (line.Hinted c hints) = false
is_named n (line.Delete positions) = false

-- a line has the name
abbrev has_name : InstanceName → List LogLine → Bool
has_name n [] = false
has_name n (l ∷ ls) = is_named n l || has_name n ls

abbrev one_missing : Bool → ℕ
one_missing true = 0
one_missing false = 1

-- how many of the names stand in no line
unfoldable pub missing : List LogLine → List InstanceName → ℕ
missing ls [] = 0
missing ls (n ∷ ns) = one_missing (has_name n ls) + missing ls ns

-- how many instances have no line
unfoldable pub unlisted : Sizes → List LogLine → ℕ
unlisted z ls = missing ls (instances z.terms z.versions)

and_true : (a b : Bool) → a && b ≡ true → (a ≡ true) × (b ≡ true)
and_true true b e = (refl, e)
and_true false b e = cc

both_true : (a b : Bool) → a ≡ true → b ≡ true → a && b ≡ true
both_true true b e f = f
both_true false b e f = cc

or_true : (a b : Bool) → a || b ≡ true → (a ≡ true) ⊎ (b ≡ true)
or_true true b e = inl refl
or_true false b e = inr e

first_true : (a b : Bool) → a ≡ true → a || b ≡ true
first_true true b e = refl
first_true false b e = cc

second_true : (a b : Bool) → b ≡ true → a || b ≡ true
second_true true b e = refl
second_true false b e = e

same_terms_is : (xs ys : List Term) → same_terms xs ys ≡ true → xs ≡ ys
same_terms_is [] [] e = λ i. []
same_terms_is [] (y ∷ ys) e = cc
same_terms_is (x ∷ xs) [] e = cc
same_terms_is (x ∷ xs) (y ∷ ys) e =
    let t = and_true (nat_eq x.0 y.0) (same_terms xs ys) e in
    let here : x.0 ≡ y.0 = eqb-true x.0 y.0 t.0 in
    let rest = same_terms_is xs ys t.1 in
    λ i. (record { 0 = here i }) ∷ rest i

terms_same : (xs : List Term) → same_terms xs xs ≡ true
terms_same [] = refl
terms_same (x ∷ xs) = both_true (nat_eq x.0 x.0) (same_terms xs xs) (eq-eqb x.0 x.0 refl) (terms_same xs)

same_name_is : (a b : InstanceName) → same_name a b ≡ true → a ≡ b
same_name_is a b e =
    let t =
    and_true (nat_eq a.row b.row && nat_eq a.version b.version)
    (nat_eq a.arity b.arity && same_terms a.terms b.terms) e in
    let u = and_true (nat_eq a.row b.row) (nat_eq a.version b.version) t.0 in
    let v = and_true (nat_eq a.arity b.arity) (same_terms a.terms b.terms) t.1 in
    let row : a.row ≡ b.row = eqb-true a.row b.row u.0 in
    let version : a.version ≡ b.version = eqb-true a.version b.version u.1 in
    let arity : a.arity ≡ b.arity = eqb-true a.arity b.arity v.0 in
    let terms = same_terms_is a.terms b.terms v.1 in
    λ i. record { row = row i; version = version i; terms = terms i; arity = arity i }

name_same : (a : InstanceName) → same_name a a ≡ true
name_same a =
    both_true (nat_eq a.row a.row && nat_eq a.version a.version) (nat_eq a.arity a.arity && same_terms a.terms a.terms)
    (both_true (nat_eq a.row a.row) (nat_eq a.version a.version) (eq-eqb a.row a.row refl)
    (eq-eqb a.version a.version refl))
    (both_true (nat_eq a.arity a.arity) (same_terms a.terms a.terms) (eq-eqb a.arity a.arity refl) (terms_same a.terms))

named_is : (n : InstanceName) (l : LogLine) → is_named n l ≡ true → l ≡ line.Axiom n
named_is n (line.Axiom m) e = ap line.Axiom (sym (same_name_is n m e))
named_is n (line.Clause k) e = cc
named_is n (line.Lemma c) e = cc
named_is n (line.Learnt c) e = cc
named_is n (line.Hinted c hints) e = cc
named_is n (line.Delete positions) e = cc

axiom_named : (n : InstanceName) → is_named n (line.Axiom n) ≡ true
axiom_named n = name_same n

has_is : (n : InstanceName) (ls : List LogLine) → has_name n ls ≡ true → Contains ls (line.Axiom n)
has_is n [] e = cc
has_is n (l ∷ ls) e = elim (or_true (is_named n l) (has_name n ls) e) [
  | inl h ↦ (zero, omega arith, named_is n l h)
  | inr t ↦ let r = has_is n ls t in (suc r.0, omega (arith, r.1), r.2)
]

is_had : (n : InstanceName) (ls : List LogLine) → Contains ls (line.Axiom n) → has_name n ls ≡ true
is_had n [] w = absurd (let lt = w.1 in omega arith)
is_had n (l ∷ ls) (zero, lt, e) =
    first_true (is_named n l) (has_name n ls) (subst (λ (x : LogLine). is_named n x ≡ true) (sym e) (axiom_named n))
is_had n (l ∷ ls) (suc i, lt, e) = second_true (is_named n l) (has_name n ls) (is_had n ls (i, omega arith, e))

had_more : (n : InstanceName) (ls more all : List LogLine) → all ≡ ls ++ more → has_name n ls ≡ true
    → has_name n all ≡ true
had_more n ls more all is h =
    is_had n all (subst (λ (xs : List LogLine). Contains xs (line.Axiom n)) (sym is)
    (Contains-append_left ls more (line.Axiom n) (has_is n ls h)))

one_less : (a b : Bool) → (a ≡ true → b ≡ true) → one_missing b ≤ one_missing a
one_less true true h = omega arith
one_less true false h = absurd (false≢true (h refl))
one_less false true h = omega arith
one_less false false h = omega arith

one_found : (a b : Bool) → a ≡ false → b ≡ true → one_missing b < one_missing a
one_found true b e f = cc
one_found false true e f = omega arith
one_found false false e f = cc

missing_less : (ls ms : List LogLine) → ((n : InstanceName) → has_name n ls ≡ true → has_name n ms ≡ true)
    → (ns : List InstanceName) → missing ms ns ≤ missing ls ns
unfolding missing
missing_less ls ms h [] = omega arith
missing_less ls ms h (n ∷ ns) = omega (arith, one_less (has_name n ls) (has_name n ms) (h n), missing_less ls ms h ns)

missing_found : (ls ms : List LogLine) → ((n : InstanceName) → has_name n ls ≡ true → has_name n ms ≡ true)
    → (ns : List InstanceName) (n : InstanceName) → Contains ns n → has_name n ls ≡ false → has_name n ms ≡ true
    → missing ms ns < missing ls ns
unfolding missing
missing_found ls ms h [] n w e f = absurd (let lt = w.1 in omega arith)
missing_found ls ms h (x ∷ ns) n (zero, lt, is) e f =
    let e' : has_name x ls ≡ false = ap (λ (y : InstanceName). has_name y ls) is ∙ e in
    let f' : has_name x ms ≡ true = ap (λ (y : InstanceName). has_name y ms) is ∙ f in
    omega (arith, one_found (has_name x ls) (has_name x ms) e' f', missing_less ls ms h ns)
missing_found ls ms h (x ∷ ns) n (suc i, lt, is) e f =
    omega (arith, one_less (has_name x ls) (has_name x ms) (h x), missing_found ls ms h ns n (i, omega arith, is) e f)

in_map : (p : Problem) (ls : List LogLine) (l : LogLine) → Contains ls l
    → Contains (map (line_clause p) ls) (line_clause p l)
in_map p [] l w = absurd (let lt = w.1 in omega arith)
in_map p (x ∷ ls) l (zero, lt, e) = (zero, omega arith, ap (line_clause p) e)
in_map p (x ∷ ls) l (suc i, lt, e) = let r = in_map p ls l (i, omega arith, e) in (suc r.0, omega (arith, r.1), r.2)

bool_is : (b : Bool) → (b ≡ true → ⊥) → b ≡ false
bool_is true h = absurd (h refl)
bool_is false h = refl

in_some : (cs : List (List Lit)) (c : List Lit) → Contains (map Some cs) (Some c) → Contains cs c
in_some [] c w = absurd (let lt = w.1 in omega arith)
in_some (x ∷ cs) c (zero, lt, e) = (zero, omega arith, cc)
in_some (x ∷ cs) c (suc i, lt, e) = let r = in_some cs c (i, omega arith, e) in (suc r.0, omega (arith, r.1), r.2)

-- a line that is there isn't false
pub listed_true : (p : Problem) (s : SearchState) (ls : List LogLine) (m : Interpretation) (n : InstanceName)
    → HasLineEach p s ls → All (IsClauseTrue m) s.clauses → Contains ls (line.Axiom n) → IsClauseTrue m (clause_of n)
listed_true p s ls m n kept all w =
    All-contains (IsClauseTrue m) s.clauses (clause_of n) all
    (in_some s.clauses (clause_of n)
    (subst (λ (cs : List (Option (List Lit))). Contains cs (Some (clause_of n))) kept.clauses
    (in_map p ls (line.Axiom n) w)))

-- a false instance has no line, and then it has one
pub adds_instance : (p : Problem) (s : SearchState) (before after : List LogLine) (m : Interpretation) (z : Sizes)
    (names : List InstanceName) → z ≡ s.sizes → HasLineEach p s before → All (IsClauseTrue m) s.clauses
    → All (IsFalseInstance z m) names
    → (names ≡ [] → ⊥) → All (λ n. Contains after (line.Axiom n)) names → AddsInstance s before after
adds_instance p s before after m z [] same kept all falses some added = absurd (some (λ i. []))
adds_instance p s before after m z (n ∷ ns) same kept all falses some added =
    let is_false = All-head (IsFalseInstance z m) n ns falses in
    record {
      name = n;
      instance = subst (λ (w : Sizes). IsInstance w.terms w.versions n) same is_false.0;
      absent = λ there. is_false.1 (listed_true p s before m n kept all there);
      there = All-head (λ (x : InstanceName). Contains after (line.Axiom x)) n ns added;
    }

-- fewer are missing with a line for one that had none
fewer_missing : (z : Sizes) (l0 l1 l2 first then : List LogLine) (n : InstanceName) → l1 ≡ l0 ++ first → l2 ≡ l1 ++ then
    → IsInstance z.terms z.versions n → (Contains l1 (line.Axiom n) → ⊥) → Contains l2 (line.Axiom n)
    → unlisted z l2 < unlisted z l0
unfolding unlisted
fewer_missing z l0 l1 l2 first then n longer longest instance absent there =
    let listed : Contains (instances z.terms z.versions) n = (all_are_listed z.terms z.versions n).1 instance in
    let none : has_name n l1 ≡ false = bool_is (has_name n l1) (λ e. absent (has_is n l1 e)) in
    let less =
    missing_found l1 l2 (λ x h. had_more x l1 then l2 longest h) (instances z.terms z.versions) n listed none
    (is_had n l2 there) in
    let no_more = missing_less l0 l1 (λ x h. had_more x l0 first l1 longer h) (instances z.terms z.versions) in
    lt_le less no_more

-- after a round fewer are missing
pub round_less : (s0 s1 s2 : SearchState) (l0 l1 l2 : List LogLine) → s1.sizes ≡ s0.sizes → s2.sizes ≡ s0.sizes
    → KeepsLines s0 l0 s1 l1 → AddsInstance s1 l1 l2 → KeepsLines s1 l1 s2 l2
    → unlisted s2.sizes l2 < unlisted s0.sizes l0
round_less s0 s1 s2 l0 l1 l2 same stays first added then =
    let instance = subst (λ (w : Sizes). IsInstance w.terms w.versions added.name) same added.instance in
    let less =
    fewer_missing s0.sizes l0 l1 l2 first.more then.more added.name first.longer then.longer instance added.absent
    added.there in
    subst (λ (w : Sizes). unlisted w l2 < unlisted s0.sizes l0) (sym stays) less

-- what a test of emptiness says
pub none_there : (len : ℕ) (xs : List InstanceName) (b : Bool) → length xs ≡ len → b ≡ nat_eq len 0 → b ≡ true → xs ≡ []
none_there len [] b long e holds = λ i. []
none_there len (x ∷ xs) b long e holds = absurd (let none : len ≡ 0 = eqb-true len 0 (sym e ∙ holds) in omega arith)

pub some_there : (len : ℕ) (xs : List InstanceName) (b : Bool) → length xs ≡ len → b ≡ nat_eq len 0 → b ≡ false
    → xs ≡ [] → ⊥
some_there len xs b long e fails none =
    let zero_long : len ≡ 0 = sym long ∙ ap length none in
    false≢true (sym fails ∙ e ∙ eq-eqb len 0 zero_long)

pub are_instances : (z s : Sizes) (m : Interpretation) (names slice : List InstanceName) → z ≡ s → slice ≡ names
    → All (IsFalseInstance z m) names → All (IsInstance s.terms s.versions) slice
are_instances z s m names slice same e all =
    subst (All (IsInstance s.terms s.versions)) (sym e)
    (λ k d lt. subst (λ (w : Sizes). IsInstance w.terms w.versions (get_or names k d)) same (all k d lt).0)

pub model_is : (p : Problem) (s : SearchState) (lines : List LogLine) (t : Tables) → HasLineEach p s lines
    → t.sizes ≡ s.sizes → All (IsClauseTrue (interpretation_of t)) s.clauses
    → IsCongruence s.sizes (interpretation_of t)
    → AreInstancesTrue t.sizes (interpretation_of t) → IsModelOf p t
model_is p s lines t kept same clauses congruence instances = record {
  sizes = same ∙ kept.sizes;
  clauses =
      λ k d lt. All-contains (IsClauseTrue (interpretation_of t)) s.clauses (get_or p.clauses k d) clauses
      (kept.ground (get_or p.clauses k d) (Contains-get_or p.clauses k d lt));
  instances = subst (λ (z : Sizes). AreInstancesTrue z (interpretation_of t)) (same ∙ kept.sizes) instances;
  congruence = subst (λ (z : Sizes). IsCongruence z (interpretation_of t)) kept.sizes congruence;
}
