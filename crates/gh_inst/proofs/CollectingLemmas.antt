-- Lists to which false instances are added.
use Rattle.std.proofs.Common.{◌≡◌, ◌⊎◌, inl, inr, ℕ, zero, suc, get_or, ◌+◌, ◌-◌, ◌<◌, ◌≤◌, List, [], ◌∷◌, ◌++◌}
use Rattle.std.proofs.Common.{append_assoc, append-nil, length, length-append, take, map, All, Some, None, refl, sym}
use Rattle.std.proofs.Common.{ap, subst, ◌∙◌, arith}
use Rattle.std.specs.Prelude.{slice_get, Contains}
use Rattle.std.specs.List.{flat_map, range_with_len}
use Rattle.std.proofs.lemmas.List.{take_all}
use Rattle.std.proofs.lemmas.List.Elements.{All-append, All-nil, All-cons, All-map, All-weaker, All-contains, All-more}
use Rattle.gh_base.specs.declared.atom.Term.{Term}
use Rattle.gh_base.specs.Meaning.{IsClauseTrue}
use Rattle.gh_inst.specs.declared.schema.Pattern.{Pattern}
use Rattle.gh_inst.specs.Table.{AxiomRow, row, table, row_with}
use Rattle.gh_inst.specs.Tuples.{tuples}
use Rattle.gh_inst.specs.Instances.{name_of, row_instances}
use Rattle.gh_inst.proofs.TupleLemmas.{term_there, terms_length}
use Rattle.gh_inst.specs.Search.{IsSearched, IsRowTrue, tuples_with}
use Rattle.gh_inst.proofs.ListedLemmas.{one_listed}
use Rattle.gh_inst.proofs.SearchLemmas.{IsTuple, tuples_are, among, none_in_block, blocks_end, all_joined, range_below}
use Rattle.gh_inst.proofs.ViolationLemmas.{clause_there, names_searched}
use Rattle.gh_inst.specs.Violations.{IsInstanceTrue, AreInstancesTrue}
use Rattle.gh_base.specs.declared.sizes.Sizes.{Sizes}
use Rattle.gh_base.specs.Meaning.{Interpretation}
use Rattle.gh_base.specs.Atoms.{terms_below, term}
use Rattle.gh_inst.specs.declared.naming.InstanceName.{InstanceName}
use Rattle.gh_inst.specs.Collecting.{IsFalseInstance, Gathers, RowHolds, VersionHolds}

pub nothing_added : {G : Type 0} (s : Sizes) (m : Interpretation) (old : List InstanceName) → G → Gathers s m old old G
nothing_added s m old g =
    record { more = []; added = sym (append-nil old); each = All-nil (IsFalseInstance s m); none = λ e. g }

pub one_added : {G : Type 0} (s : Sizes) (m : Interpretation) (old : List InstanceName) (name : InstanceName)
    → IsFalseInstance s m name → Gathers s m old (old ++ name ∷ []) G
one_added s m old name f =
    record {
      more = name ∷ [];
      added = refl;
      each = All-cons (IsFalseInstance s m) name [] f (All-nil (IsFalseInstance s m));
      none = λ e. cc;
    }

front_nil : {X : Type 0} (a b : List X) → a ++ b ≡ [] → a ≡ []
front_nil [] b e = refl
front_nil (x ∷ xs) b e = cc

back_nil : {X : Type 0} (a b : List X) → a ++ b ≡ [] → b ≡ []
back_nil [] b e = e
back_nil (x ∷ xs) b e = cc

pub added_on : {F G H : Type 0} (s : Sizes) (m : Interpretation) (old mid new : List InstanceName)
    → Gathers s m old mid F → Gathers s m mid new G → (F → G → H) → Gathers s m old new H
added_on s m old mid new a b f = record {
  more = a.more ++ b.more;
  added = b.added ∙ ap (λ l. l ++ b.more) a.added ∙ append_assoc old a.more b.more;
  each = All-append (IsFalseInstance s m) a.more b.more a.each b.each;
  none = λ e. f (a.none (front_nil a.more b.more e)) (b.none (back_nil a.more b.more e));
}

-- a list that grew
pub some_added : {F G : Type 0} (s : Sizes) (m : Interpretation) (old new : List InstanceName) → Gathers s m old new F
    → length old < length new → Gathers s m old new G
some_added s m old new a longer = record {
  more = a.more;
  added = a.added;
  each = a.each;
  none = λ e.
      let same : new ≡ old = a.added ∙ ap (λ l. old ++ l) e ∙ append-nil old in
      let equal : length new ≡ length old = ap length same in
      absurd (omega (arith, longer));
}

-- the tuples that begin with some terms in range, and have so many more
with_are : (more n k : ℕ) (first : List Term) → length first + more ≡ k → All (λ t. t.0 < n) first
    → All (IsTuple k n) (tuples_with more n first)
with_are more n k first e below =
    All-map (IsTuple k n) (λ rest. first ++ rest) (tuples more n)
    (All-weaker (IsTuple more n) (λ rest. IsTuple k n (first ++ rest))
    (λ rest r. let long : length (first ++ rest) ≡ length first + length rest = length-append first rest in
    (omega (arith, long, e, r.0), All-append (λ t. t.0 < n) first rest below r.1))
    (tuples more n) (tuples_are more n))

-- what a search through a row's tuples finds names a false instance
pub found_false : (s : Sizes) (m : Interpretation) (number version variables first : ℕ) (lits : List Pattern)
    (start found : List Term) → row_with number table ≡ Some (row number variables lits)
    → version < s.versions → first ≤ variables → length start ≡ first → All (λ t. t.0 < s.terms) start
    → IsSearched (IsRowTrue m version lits) (tuples_with (variables - first) s.terms start) (Some found)
    → IsFalseInstance s m (name_of number version found)
found_false s m number version variables first lits start found e v few long below search =
    let f = search.comes in
    let all : All (IsTuple variables s.terms) (tuples_with (variables - first) s.terms start) =
    with_are (variables - first) s.terms variables start (omega (arith, long, few)) below in
    let member : Contains (tuples_with (variables - first) s.terms start) found =
    subst (λ l. Contains l found) (sym f.here) (among f.before found f.after) in
    let tuple =
    All-contains (IsTuple variables s.terms) (tuples_with (variables - first) s.terms start) found all member in (
      one_listed s.terms s.versions number version (row number variables lits) found e v tuple,
      subst (λ c. ¬ IsClauseTrue m c) (sym (clause_there number version (row number variables lits) found e)) f.without,
    )

pub blocks_more : {X Y : Type 0} (P : Y → Type 0) (f : X → List Y) (xs : List X) (k : ℕ) (x : X)
    → slice_get xs k ≡ Some x → All P (flat_map f (take k xs)) → All P (f x)
    → All P (flat_map f (take (k + 1) xs))
blocks_more P f xs k x e a b =
    (none_in_block P f xs k x None refl e (record { comes = a }) (record { comes = b })).comes

pub blocks_all : {X Y : Type 0} (P : Y → Type 0) (f : X → List Y) (xs : List X) (k : ℕ) → length xs ≤ k
    → All P (flat_map f (take k xs)) → All P (flat_map f xs)
blocks_all P f xs k e a = (blocks_end P f xs k e (record { comes = a })).comes

-- the turn of a loop over the terms that come next
pub next_added : (s : Sizes) (m : Interpretation) (old mid new : List InstanceName) (P : List Term → Type 0)
    (f : Term → List (List Term)) (k : ℕ) → k < s.terms
    → Gathers s m old mid (All P (flat_map f (take k (terms_below s.terms)))) → Gathers s m mid new (All P (f (term k)))
    → Gathers s m old new (All P (flat_map f (take (k + 1) (terms_below s.terms))))
next_added s m old mid new P f k below a b =
    added_on s m old mid new a b
    (λ x y. blocks_more P f (terms_below s.terms) k (term k) (term_there s.terms k below) x y)

-- and its end
pub all_added : (s : Sizes) (m : Interpretation) (old new : List InstanceName) (P : List Term → Type 0)
    (f : Term → List (List Term)) (k : ℕ) → s.terms ≤ k
    → Gathers s m old new (All P (flat_map f (take k (terms_below s.terms))))
    → Gathers s m old new (All P (flat_map f (terms_below s.terms)))
all_added s m old new P f k past a = record {
  more = a.more;
  added = a.added;
  each = a.each;
  none = λ e. blocks_all P f (terms_below s.terms) k (let long = terms_length s.terms in omega (arith, long, past))
      (a.none e);
}

-- from the tuples of a row to its instances in a version
pub row_added : (s : Sizes) (m : Interpretation) (old new : List InstanceName) (version v : ℕ) (lits : List Pattern)
    (r : AxiomRow) → row_with r.number table ≡ Some r → r.variables ≡ v → r.lits ≡ lits
    → Gathers s m old new (All (IsRowTrue m version lits) (tuples_with (v - 0) s.terms []))
    → Gathers s m old new (RowHolds s m version r)
row_added s m old new version v lits r found ev el a =
    let back : All (IsRowTrue m version lits) (tuples_with (v - 0) s.terms [])
    → All (IsRowTrue m version r.lits) (tuples_with (r.variables - 0) s.terms []) =
    λ h. subst (λ k. All (IsRowTrue m version r.lits) (tuples_with (k - 0) s.terms [])) (sym ev)
    (subst (λ ls. All (IsRowTrue m version ls) (tuples_with (v - 0) s.terms [])) (sym el) h) in
    record {
      more = a.more;
      added = a.added;
      each = a.each;
      none = λ e. record {
        holds =
            (names_searched m r.number version r.variables s.terms r None found
            (record { comes = back (a.none e) })).comes;
      };
    }

there : {X : Type 0} (xs : List X) (k : ℕ) (x : X) → slice_get xs k ≡ Some x → (k < length xs) × (get_or xs k x ≡ x)
there [] k x e = cc
there (y ∷ ys) zero x e = (omega arith, cc)
there (y ∷ ys) (suc k) x e = let t = there ys k x e in (omega (arith, t.0), t.1)

pub take_more_all : {X : Type 0} (P : X → Type 0) (xs : List X) (k : ℕ) (x : X) → slice_get xs k ≡ Some x
    → All P (take k xs) → P x → All P (take (k + 1) xs)
take_more_all P xs k x e a holds = let t = there xs k x e in All-more P xs k x t.0 a (subst P (sym t.1) holds)

last_or : {P : ℕ → Type 0} (k v : ℕ) → (v < k) ⊎ (v ≡ k) → ((u : ℕ) → u < k → P u) → P k → P v
last_or k v (inl below) earlier now = earlier v below
last_or {P = P} k v (inr same) earlier now = subst P (sym same) now

one_up : (k v : ℕ) → (v < k) ⊎ (v ≡ k) → (suc v < suc k) ⊎ (suc v ≡ suc k)
one_up k v (inl below) = inl (omega (arith, below))
one_up k v (inr same) = inr (ap suc same)

less_or : (k v : ℕ) → v < k + 1 → (v < k) ⊎ (v ≡ k)
less_or zero zero below = inr refl
less_or zero (suc v) below = absurd (omega (arith, below))
less_or (suc k) zero below = inl (omega arith)
less_or (suc k) (suc v) below = one_up k v (less_or k v (omega (arith, below)))

pub earlier_or : {P : ℕ → Type 0} (k v : ℕ) → v < k + 1 → ((u : ℕ) → u < k → P u) → P k → P v
earlier_or {P = P} k v below earlier now = last_or {P = P} k v (less_or k v below) earlier now

-- the turn of a loop over rows
pub row_next : (s : Sizes) (m : Interpretation) (old mid new : List InstanceName) (version k : ℕ) (r : AxiomRow)
    → slice_get table k ≡ Some r
    → Gathers s m old mid (All (RowHolds s m version) (take k table)) → Gathers s m mid new (RowHolds s m version r)
    → Gathers s m old new (All (RowHolds s m version) (take (k + 1) table))
row_next s m old mid new version k r e a b =
    added_on s m old mid new a b (λ x y. take_more_all (RowHolds s m version) table k r e x y)

-- all versions together
pub versions_hold : (s : Sizes) (m : Interpretation) → ((version : ℕ) → version < s.versions → VersionHolds s m version)
    → AreInstancesTrue s m
versions_hold s m h =
    all_joined (IsInstanceTrue m) (row_instances s.terms s.versions) table
    (λ k d l. all_joined (IsInstanceTrue m)
    (λ version. map (name_of (get_or table k d).number version) (tuples (get_or table k d).variables s.terms))
    (range_with_len 0 s.versions)
    (All-weaker (λ v. v < s.versions)
    (λ v. All (IsInstanceTrue m)
    (map (name_of (get_or table k d).number v) (tuples (get_or table k d).variables s.terms)))
    (λ v below. (((h v below).holds) k d l).holds) (range_with_len 0 s.versions)
    (range_below 0 s.versions s.versions (omega arith))))

-- the turn of a loop over versions
pub version_next : (s : Sizes) (m : Interpretation) (old mid new : List InstanceName) (k : ℕ)
    → Gathers s m old mid ((v : ℕ) → v < k → VersionHolds s m v) → Gathers s m mid new (VersionHolds s m k)
    → Gathers s m old new ((v : ℕ) → v < k + 1 → VersionHolds s m v)
version_next s m old mid new k a b = added_on s m old mid new a b (λ x y v below. earlier_or k v below x y)

-- the end of a loop over rows
pub rows_hold : (s : Sizes) (m : Interpretation) (old new : List InstanceName) (version k : ℕ) → length table ≤ k
    → Gathers s m old new (All (RowHolds s m version) (take k table)) → Gathers s m old new (VersionHolds s m version)
rows_hold s m old new version k past a = record {
  more = a.more;
  added = a.added;
  each = a.each;
  none = λ e. record { holds = subst (All (RowHolds s m version)) (take_all k table past) (a.none e) };
}
