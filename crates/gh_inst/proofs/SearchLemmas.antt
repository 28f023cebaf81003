-- Searches for the first one without a property, and what rows say at tuples.
use Rattle.std.proofs.Common.{◌≡◌, ℕ, zero, suc, ◌+◌, ◌-◌, ◌<◌, ◌≤◌, List, [], ◌∷◌, ◌++◌, map, length, Option, Some}
use Rattle.std.proofs.Common.{None, option_map, refl, sym, ap, subst, ◌∙◌, arith, append_assoc, append-nil, take, set}
use Rattle.std.proofs.Common.{get_or, length-append, All, true, false}
use Rattle.std.specs.Prelude.{slice_get, slice_index_or, Contains, IfSome}
use Rattle.std.specs.List.{flat_map, range_with_len}
use Rattle.std.specs.Option.{is_some}
use Rattle.std.proofs.lemmas.List.{take_all, map-append, take_more_set, get_or_at}
use Rattle.std.proofs.lemmas.List.Elements.{All-append, All-nil, All-cons, All-head, All-tail, All-weaker, All-map}
use Rattle.std.proofs.lemmas.List.Elements.{All-contains}
use Rattle.gh_base.specs.declared.atom.Term.{Term}
use Rattle.gh_base.specs.Meaning.{Interpretation, IsLitTrue}
use Rattle.gh_base.specs.Atoms.{term, terms_below}
use Rattle.gh_inst.specs.declared.schema.Shape.{Shape}
use Rattle.gh_inst.specs.declared.schema.Shape.TheVariants.{Equal, Btwn, Hop, Alloc}
use Rattle.gh_inst.specs.declared.schema.Pattern.{Pattern}
use Rattle.gh_inst.specs.Schemas.{places_of, term_at, atom_of, lit_over}
use Rattle.gh_inst.specs.Tuples.{tuples}
use Rattle.gh_inst.specs.Violations.{IsFirstWithout}
use Rattle.gh_inst.specs.Search.{IsAmong, IsSearched, IsRowTrue, tuples_with}

-- all have the property
pub all_have : {X : Type 0} (P : X → Type 0) (all : List X) → All P all → IsSearched P all None
all_have P all h = record { comes = h }

pub is_first : {X : Type 0} (P : X → Type 0) (x : X) → ¬ P x → IsSearched P (x ∷ []) (Some x)
is_first P x h = record { comes = record { before = []; after = []; here = refl; earlier = All-nil P; without = h } }

pub searched_on : {X : Type 0} (P : X → Type 0) (front back : List X) (found : Option X)
    → IsSearched P front None → IsSearched P back found → IsSearched P (front ++ back) found
searched_on P front back None a b = record { comes = All-append P front back a.comes b.comes }
searched_on P front back (Some x) a b =
    let f = b.comes in
    record {
      comes = record {
        before = front ++ f.before;
        after = f.after;
        here = ap (λ l. front ++ l) f.here ∙ sym (append_assoc front f.before (x ∷ f.after));
        earlier = All-append P front f.before a.comes f.earlier;
        without = f.without;
      };
    }

pub searched_here : {X : Type 0} (P : X → Type 0) (front back : List X) (x : X) → IsSearched P front (Some x)
    → IsSearched P (front ++ back) (Some x)
searched_here P front back x a =
    let f = a.comes in
    record {
      comes = record {
        before = f.before;
        after = f.after ++ back;
        here = ap (λ l. l ++ back) f.here ∙ append_assoc f.before (x ∷ f.after) back;
        earlier = f.earlier;
        without = f.without;
      };
    }

-- through a function that keeps the property
pub searched_map : {X Y : Type 0} (P : X → Type 0) (Q : Y → Type 0) (f : X → Y) → ((x : X) → P x → Q (f x))
    → ((x : X) → Q (f x) → P x)
    → (all : List X) (found : Option X) → IsSearched P all found → IsSearched Q (map f all) (option_map f found)
searched_map P Q f there back all None a =
    record { comes = All-map Q f all (λ k d l. there (get_or all k d) (a.comes k d l)) }
searched_map P Q f there back all (Some x) a =
    let found = a.comes in
    record {
      comes = record {
        before = map f found.before;
        after = map f found.after;
        here = ap (map f) found.here ∙ map-append f found.before (x ∷ found.after);
        earlier = All-map Q f found.before (λ k d l. there (get_or found.before k d) (found.earlier k d l));
        without = λ q. found.without (back x q);
      };
    }

-- lists joined end to end, one after another
split_at : {X Y : Type 0} (f : X → List Y) (xs : List X) (k : ℕ) (x : X) → slice_get xs k ≡ Some x
    → (rest : List X) × (flat_map f xs ≡ flat_map f (take k xs) ++ (f x ++ flat_map f rest))
    × (flat_map f (take (k + 1) xs) ≡ flat_map f (take k xs) ++ f x)
split_at f [] k x e = cc
split_at f (y ∷ ys) zero x e =
    let same : y ≡ x = cc in
    (ys, ap (λ z. f z ++ flat_map f ys) same, append-nil (f y) ∙ ap f same)
split_at f (y ∷ ys) (suc k) x e =
    let t = split_at f ys k x e in
    let s : suc k + 1 ≡ suc (k + 1) = omega arith in (
      t.0,
      ap (λ l. f y ++ l) t.1 ∙ sym (append_assoc (f y) (flat_map f (take k ys)) (f x ++ flat_map f t.0)),
      rw s (ap (λ l. f y ++ l) t.2 ∙ sym (append_assoc (f y) (flat_map f (take k ys)) (f x))),
    )

pub block_without : {X Y : Type 0} (P : Y → Type 0) (f : X → List Y) (xs : List X) (k : ℕ) (x : X)
    → slice_get xs k ≡ Some x
    → IsSearched P (flat_map f (take k xs)) None → IsSearched P (f x) None
    → IsSearched P (flat_map f (take (k + 1) xs)) None
block_without P f xs k x e a b =
    let t = split_at f xs k x e in
    rw t.2 (searched_on P (flat_map f (take k xs)) (f x) None a b)

pub block_with : {X Y : Type 0} (P : Y → Type 0) (f : X → List Y) (xs : List X) (k : ℕ) (x : X) (y : Y)
    → slice_get xs k ≡ Some x
    → IsSearched P (flat_map f (take k xs)) None → IsSearched P (f x) (Some y) → IsSearched P (flat_map f xs) (Some y)
block_with P f xs k x y e a b =
    let t = split_at f xs k x e in
    rw t.1 (searched_on P (flat_map f (take k xs)) (f x ++ flat_map f t.0) (Some y) a
    (searched_here P (f x) (flat_map f t.0) y b))

pub blocks_end : {X Y : Type 0} (P : Y → Type 0) (f : X → List Y) (xs : List X) (k : ℕ) → length xs ≤ k
    → IsSearched P (flat_map f (take k xs)) None → IsSearched P (flat_map f xs) None
blocks_end P f xs k h a = subst (λ l. IsSearched P (flat_map f l) None) (take_all k xs h) a

-- the term of a place that is used is that of any tuple which begins with the terms of its variables
pub index_front : (first : ℕ) (tuple rest : List Term) (x : ℕ) → x < first → first ≤ length tuple
    → slice_index_or (take first tuple ++ rest) x (term 0) ≡ slice_index_or tuple x (term 0)
index_front zero tuple rest x a b = absurd (omega arith)
index_front (suc first) [] rest x a b = absurd (omega arith)
index_front (suc first) (t ∷ ts) rest zero a b = refl
index_front (suc first) (t ∷ ts) rest (suc x) a b = index_front first ts rest x (omega arith) (omega (arith, b))

pub place_among : (n : ℕ) (places : List ℕ) (first k : ℕ) → All (λ x. x < first) (take n places) → k < n
    → n ≤ length places → slice_index_or places k 0 < first
place_among zero places first k h a b = absurd (omega arith)
place_among (suc n) [] first k h a b = absurd (omega arith)
place_among (suc n) (x ∷ xs) first zero h a b = h zero x (omega arith)
place_among (suc n) (x ∷ xs) first (suc k) h a b =
    place_among n xs first k (λ j d l. h (suc j) d (omega (arith, l))) (omega arith) (omega (arith, b))

pub few_places : (s : Shape) → places_of s ≤ 3
few_places Equal = omega arith
few_places Btwn = omega arith
few_places Hop = omega arith
few_places Alloc = omega arith

same_atom : (s : Shape) (version : ℕ) (f g : ℕ → Term) → ((k : ℕ) → k < places_of s → f k ≡ g k)
    → atom_of s version f ≡ atom_of s version g
same_atom Equal version f g h = rw (h 0 (omega arith), h 1 (omega arith)) refl
same_atom Btwn version f g h = rw (h 0 (omega arith), h 1 (omega arith), h 2 (omega arith)) refl
same_atom Hop version f g h = rw (h 0 (omega arith), h 1 (omega arith)) refl
same_atom Alloc version f g h = rw (h 0 (omega arith)) refl

pub same_lit : (version first : ℕ) (tuple rest : List Term) (p : Pattern) → IsAmong first p → length p.places ≡ 3
    → first ≤ length tuple
    → lit_over version (take first tuple ++ rest) p ≡ lit_over version tuple p
same_lit version first tuple rest p among three long =
    let few = few_places p.shape in
    let atoms = same_atom p.shape version (term_at (take first tuple ++ rest) p.places) (term_at tuple p.places)
    (λ k h. index_front first tuple rest (slice_index_or p.places k 0)
    (place_among (places_of p.shape) p.places first k among h (omega (arith, few, three))) long) in
    ap (λ a. record { atom = a; positive = p.positive }) atoms

-- the terms of a pattern are in range
pub index_below : (first n : ℕ) (tuple : List Term) (x : ℕ) → x < first → first ≤ length tuple
    → All (λ t. t.0 < n) (take first tuple) → (slice_index_or tuple x (term 0)).0 < n
index_below zero n tuple x a b h = absurd (omega arith)
index_below (suc first) n [] x a b h = absurd (omega arith)
index_below (suc first) n (t ∷ ts) zero a b h = h zero t (omega arith)
index_below (suc first) n (t ∷ ts) (suc x) a b h =
    index_below first n ts x (omega arith) (omega (arith, b)) (λ j d l. h (suc j) d (omega (arith, l)))

pub terms_there : (first n : ℕ) (tuple : List Term) (p : Pattern) → IsAmong first p → length p.places ≡ 3
    → first ≤ length tuple → All (λ t. t.0 < n) (take first tuple)
    → (k : ℕ) → k < places_of p.shape → (term_at tuple p.places k).0 < n
terms_there first n tuple p among three long below k h =
    let few = few_places p.shape in
    index_below first n tuple (slice_index_or p.places k 0)
    (place_among (places_of p.shape) p.places first k among h (omega (arith, few, three))) long below

-- a row with a true literal is true
pub true_at : (m : Interpretation) (version : ℕ) (tuple : List Term) (lits : List Pattern) (i : ℕ) (p : Pattern)
    → slice_get lits i ≡ Some p
    → IsLitTrue m (lit_over version tuple p) → IsRowTrue m version lits tuple
true_at m version tuple [] i p e h = cc
true_at m version tuple (q ∷ qs) zero p e h =
    let same : q ≡ p = cc in
    (0, lit_over version tuple q, omega arith, refl, subst (λ r. IsLitTrue m (lit_over version tuple r)) (sym same) h)
true_at m version tuple (q ∷ qs) (suc i) p e h =
    let t = true_at m version tuple qs i p e h in (suc t.0, t.1, omega (arith, t.2), t.3, t.4)

pub false_row : (m : Interpretation) (version : ℕ) (tuple : List Term) (lits : List Pattern)
    → All (λ p. ¬ IsLitTrue m (lit_over version tuple p)) lits → ¬ IsRowTrue m version lits tuple
false_row m version tuple [] h (k, l, below, at, t) = absurd (omega arith)
false_row m version tuple (q ∷ qs) h (zero, l, below, at, t) = h zero q (omega arith) (subst (IsLitTrue m) (sym at) t)
false_row m version tuple (q ∷ qs) h (suc k, l, below, at, t) =
    false_row m version tuple qs (λ j d b. h (suc j) d (omega (arith, b))) (k, l, omega (arith, below), at, t)

append_both : {X : Type 0} {a b c d : List X} → a ≡ b → c ≡ d → a ++ c ≡ b ++ d
append_both {a = a} {d = d} p q = ap (λ l. a ++ l) q ∙ ap (λ l. l ++ d) p

cons_both : {X : Type 0} {x y : X} {xs ys : List X} → x ≡ y → xs ≡ ys → x ∷ xs ≡ y ∷ ys
cons_both {x = x} {ys = ys} p q = ap (λ l. x ∷ l) q ∙ ap (λ z. z ∷ ys) p

led : (v n : ℕ) (first : List Term) (t : Term) (rests : List (List Term))
    → map (λ rest. first ++ rest) (map (λ rest. t ∷ rest) rests) ≡ map (λ rest. (first ++ t ∷ []) ++ rest) rests
led v n first t [] = refl
led v n first t (r ∷ rs) = cons_both (sym (append_assoc first (t ∷ []) r)) (led v n first t rs)

-- the tuples with one term more
more_with : (v n : ℕ) (first : List Term) (ts : List Term)
    → map (λ rest. first ++ rest) (flat_map (λ t. map (λ rest. t ∷ rest) (tuples v n)) ts)
    ≡ flat_map (λ t. tuples_with v n (first ++ t ∷ [])) ts
more_with v n first [] = refl
more_with v n first (t ∷ ts) =
    map-append (λ rest. first ++ rest) (map (λ rest. t ∷ rest) (tuples v n))
    (flat_map (λ t. map (λ rest. t ∷ rest) (tuples v n)) ts)
    ∙ append_both (led v n first t (tuples v n)) (more_with v n first ts)

pub one_more : (v n : ℕ) (first : List Term)
    → tuples_with (suc v) n first ≡ flat_map (λ t. tuples_with v n (first ++ t ∷ [])) (terms_below n)
one_more v n first = more_with v n first (terms_below n)

pub got : {X : Type 0} (xs : List X) (i : ℕ) (d : X) → i < length xs → slice_get xs i ≡ Some (slice_index_or xs i d)
got [] i d h = absurd (omega arith)
got (x ∷ xs) zero d h = refl
got (x ∷ xs) (suc i) d h = got xs i d (omega arith)

pub weaker : (first v : ℕ) (p : Pattern) → first ≤ v → IsAmong first p → IsAmong v p
weaker first v p h a = λ k d l. let b = a k d l in omega (arith, b)

pub same_alone : (version first : ℕ) (tuple : List Term) (p : Pattern) → IsAmong first p → length p.places ≡ 3
    → first ≤ length tuple
    → lit_over version (take first tuple) p ≡ lit_over version tuple p
same_alone version first tuple p among three long =
    ap (λ ts. lit_over version ts p) (sym (append-nil (take first tuple)))
    ∙ same_lit version first tuple [] p among three long

-- with the variables of all its literals among the first ones, a row in which none of those is true is false
pub none_true : (m : Interpretation) (version first : ℕ) (tuple : List Term) (lits : List Pattern)
    → All (λ p. IsAmong first p → ¬ IsLitTrue m (lit_over version tuple p)) lits → All (IsAmong first) lits
    → ¬ IsRowTrue m version lits tuple
none_true m version first tuple lits h among = false_row m version tuple lits (λ k d l. h k d l (among k d l))

-- a block in which all are true
pub block_true : (m : Interpretation) (version more n : ℕ) (lits : List Pattern) (first : List Term)
    → ((rest : List Term) → IsRowTrue m version lits (first ++ rest))
    → IsSearched (IsRowTrue m version lits) (tuples_with more n first) None
block_true m version more n lits first h =
    all_have (IsRowTrue m version lits) (tuples_with more n first)
    (All-map (IsRowTrue m version lits) (λ rest. first ++ rest) (tuples more n)
    (λ k d l. h (get_or (tuples more n) k d)))

-- what the members of joined lists have
pub all_joined : {X Y : Type 0} (P : Y → Type 0) (f : X → List Y) (xs : List X) → All (λ x. All P (f x)) xs
    → All P (flat_map f xs)
all_joined P f [] h = All-nil P
all_joined P f (x ∷ xs) h =
    All-append P (f x) (flat_map f xs) (All-head (λ y. All P (f y)) x xs h)
    (all_joined P f xs (All-tail (λ y. All P (f y)) x xs h))

pub range_below : (a n m : ℕ) → a + n ≤ m → All (λ k. k < m) (range_with_len a n)
range_below a zero m h = All-nil (λ k. k < m)
range_below a (suc n) m h =
    All-cons (λ k. k < m) a (range_with_len (a + 1) n) (omega (arith, h)) (range_below (a + 1) n m (omega (arith, h)))

terms_are_below : (n : ℕ) → All (λ t. t.0 < n) (terms_below n)
terms_are_below n = All-map (λ t. t.0 < n) term (range_with_len 0 n) (range_below 0 n n (omega arith))

-- a tuple of so many terms in range
abbrev pub IsTuple : ℕ → ℕ → List Term → Type 0
IsTuple v n tuple = (length tuple ≡ v) × All (λ t. t.0 < n) tuple

pub tuples_are : (v n : ℕ) → All (IsTuple v n) (tuples v n)
tuples_are zero n = All-cons (IsTuple zero n) [] [] (refl, All-nil (λ t. t.0 < n)) (All-nil (IsTuple zero n))
tuples_are (suc v) n =
    all_joined (IsTuple (suc v) n) (λ t. map (λ rest. t ∷ rest) (tuples v n)) (terms_below n)
    (All-weaker (λ t. t.0 < n) (λ t. All (IsTuple (suc v) n) (map (λ rest. t ∷ rest) (tuples v n)))
    (λ t h. All-map (IsTuple (suc v) n) (λ rest. t ∷ rest) (tuples v n)
    (All-weaker (IsTuple v n) (λ rest. IsTuple (suc v) n (t ∷ rest))
    (λ rest r. (ap suc r.0, All-cons (λ u. u.0 < n) t rest h r.1)) (tuples v n) (tuples_are v n)))
    (terms_below n) (terms_are_below n))

-- a block in which all are true, for terms in range
pub block_ruled_out : (m : Interpretation) (version more n : ℕ) (lits : List Pattern) (first : List Term)
    → ((rest : List Term) → length rest ≡ more → All (λ t. t.0 < n) rest → IsRowTrue m version lits (first ++ rest))
    → IsSearched (IsRowTrue m version lits) (tuples_with more n first) None
block_ruled_out m version more n lits first h =
    all_have (IsRowTrue m version lits) (tuples_with more n first)
    (All-map (IsRowTrue m version lits) (λ rest. first ++ rest) (tuples more n)
    (All-weaker (IsTuple more n) (λ rest. IsRowTrue m version lits (first ++ rest)) (λ rest r. h rest r.0 r.1)
    (tuples more n) (tuples_are more n)))

-- a block of one tuple, which is false
pub block_false : (m : Interpretation) (version variables first n : ℕ) (lits : List Pattern) (tuple : List Term)
    → first ≡ variables → ¬ IsRowTrue m version lits (take first tuple)
    → IsSearched (IsRowTrue m version lits) (tuples_with (variables - first) n (take first tuple))
    (Some (take variables tuple))
block_false m version variables first n lits tuple e h =
    let none : variables - first ≡ 0 = omega arith in
    let one : tuples_with (variables - first) n (take first tuple) ≡ take variables tuple ∷ [] =
    ap (λ k. tuples_with k n (take first tuple)) none
    ∙ ap (λ ts. ts ∷ []) (append-nil (take first tuple) ∙ ap (λ k. take k tuple) e) in
    let false_there : ¬ IsRowTrue m version lits (take variables tuple) =
    subst (λ k. ¬ IsRowTrue m version lits (take k tuple)) e h in
    subst (λ all. IsSearched (IsRowTrue m version lits) all (Some (take variables tuple))) (sym one)
    (is_first (IsRowTrue m version lits) (take variables tuple) false_there)

-- the block of some first terms is made of those with one term more
pub blocks_of : (variables first n : ℕ) (start : List Term) → first < variables
    → tuples_with (variables - first) n start
    ≡ flat_map (λ t. tuples_with (variables - (first + 1)) n (start ++ t ∷ [])) (terms_below n)
blocks_of variables first n start h =
    let e : variables - first ≡ suc (variables - (first + 1)) = omega arith in
    ap (λ k. tuples_with k n start) e ∙ one_more (variables - (first + 1)) n start

-- the turn of a loop over blocks: what was found in the next block, if anything
pub found_in_block : {X Y : Type 0} (P : Y → Type 0) (f : X → List Y) (xs : List X) (k : ℕ) (x : X) (found : Option Y)
    → is_some found ≡ true
    → slice_get xs k ≡ Some x → IsSearched P (flat_map f (take k xs)) None → IsSearched P (f x) found
    → IsSearched P (flat_map f xs) found
found_in_block P f xs k x None h e a b = cc
found_in_block P f xs k x (Some y) h e a b = block_with P f xs k x y e a b

pub none_in_block : {X Y : Type 0} (P : Y → Type 0) (f : X → List Y) (xs : List X) (k : ℕ) (x : X) (found : Option Y)
    → is_some found ≡ false
    → slice_get xs k ≡ Some x → IsSearched P (flat_map f (take k xs)) None → IsSearched P (f x) found
    → IsSearched P (flat_map f (take (k + 1) xs)) None
none_in_block P f xs k x None h e a b = block_without P f xs k x e a b
none_in_block P f xs k x (Some z) h e a b = cc

pub is_some_map : {X Y : Type 0} (g : X → Y) (found : Option X) → is_some (option_map g found) ≡ is_some found
is_some_map g None = refl
is_some_map g (Some x) = refl

pub among : {X : Type 0} (before : List X) (x : X) (after : List X) → Contains (before ++ x ∷ after) x
among before x after = (
  length before,
  omega (arith, length-append before (x ∷ after)),
  get_or_at before x after x (length before) refl,
)

-- none was found exactly where all have the property, and what was found is the first without it
pub none_found : {X : Type 0} (P : X → Type 0) (all : List X) (found : Option X) → IsSearched P all found
    → (found ≡ None → All P all) × (All P all → found ≡ None)
none_found P all None s = (λ e. s.comes, λ h. refl)
none_found P all (Some x) s =
    let f = s.comes in
    (λ e. cc, λ h. absurd (f.without (All-contains P all x h (rw f.here (among f.before x f.after)))))

pub first_found : {X : Type 0} (P : X → Type 0) (all : List X) (found : Option X) → IsSearched P all found
    → IfSome found (λ x. IsFirstWithout P all x)
first_found P all None s = tt
first_found P all (Some x) s = s.comes

-- the first terms of a tuple with one term more
pub one_term_more : (P : List Term → Type 0) (more n first k : ℕ) (tuple start : List Term) (found : Option (List Term))
    → first < length tuple → take first tuple ≡ take first start
    → IsSearched P (tuples_with more n (take (first + 1) (set tuple first (term k)))) found
    → IsSearched P (tuples_with more n (take first start ++ term k ∷ [])) found
one_term_more P more n first k tuple start found h e s =
    let t : take (first + 1) (set tuple first (term k)) ≡ take first start ++ term k ∷ [] =
    take_more_set tuple first (term k) h ∙ ap (λ ts. ts ++ term k ∷ []) e in
    subst (λ ts. IsSearched P (tuples_with more n ts) found) t s
