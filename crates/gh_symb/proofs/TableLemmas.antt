-- Tests and look-ups over lists that are seen by another form, and entries that are added last.
use Rattle.std.specs.Prelude.{◌≡◌, ℕ, zero, ◌+◌, ◌<◌, List, [], ◌∷◌, ◌++◌, map, length, take, set, Bool, false, Some}
use Rattle.std.specs.Prelude.{None, cond, position, unwrap_or}
use Rattle.std.specs.List.{position_or_len}
use Rattle.std.proofs.Common.{refl, sym, ◌∙◌, ap, arith, inl, inr, drop, get_or}
use Rattle.std.specs.Prelude.{slice_get, ◌≤◌, suc}
use Rattle.std.specs.Str.{bytes_eq}
use Rattle.std.proofs.lemmas.Slice.Eq.{bytes_eq-Decides}
use Rattle.std.proofs.lemmas.Bool.{cases_Bool}
use Rattle.std.proofs.Math.Seq.{drop-cons}
use Rattle.std.proofs.Math.ListN.{drop_of_length-le}
use Rattle.std.proofs.lemmas.Option.{slice_get_within, get_or_from_slice_get, slice_get_cases}
use Rattle.std.proofs.lemmas.List.{length-map, map-append, take_more}
use Rattle.gh_ast.specs.Programs.{Name, names}
use Rattle.gh_ast.specs.declared.Occ.{Occ}
use Rattle.gh_path.specs.Terms.{Bindings, bound, unbound, all_bound}
use Rattle.gh_grass.proofs.Bonds.{same_name, other_name}
use Rattle.gh_symb.specs.Tables.{Pairs, bound_from, bound_by, pair_of, NoneFrom, IsLastAt}
use Rattle.gh_symb.specs.declared.scope.Entry.{Entry}

first_map : {A B : Type 0} (p : B → Bool) (f : A → B) (xs : List A)
    → position_or_len p (map f xs) ≡ position_or_len (λ x. p (f x)) xs
first_map p f [] = refl
first_map p f (x ∷ xs) = rw (first_map p f xs) refl

pub position_map : {A B : Type 0} (p : B → Bool) (f : A → B) (xs : List A)
    → position p (map f xs) ≡ position (λ x. p (f x)) xs
position_map p f xs = rw (first_map p f xs, length-map xs f) refl

from_more : (b : Bindings) (es : Pairs) (x : Name) (t : ℕ)
    → bound_from b (es ++ (x, t) ∷ []) ≡ bound (bound_from b es) x t
from_more b [] x t = refl
from_more b ((y, u) ∷ es) x t = from_more (bound b y u) es x t

-- an entry that is added last counts first
pub bound_more : (es : Pairs) (x : Name) (t : ℕ) → bound_by (es ++ (x, t) ∷ []) ≡ bound (bound_by es) x t
bound_more es x t = from_more unbound es x t

pub bound_push : (es : List Entry) (e : Entry)
    → bound_by (map pair_of (es ++ e ∷ [])) ≡ bound (bound_by (map pair_of es)) e.name.now e.term
bound_push es e = ap bound_by (map-append pair_of es (e ∷ [])) ∙ bound_more (map pair_of es) e.name.now e.term

-- a name's term, once it is bound
pub bound_term : (old new : Bindings) (x : Name) (t : ℕ) → new ≡ bound old x t → t ≡ unwrap_or (new x) 0
bound_term old new x t is =
    let here : bound old x t x ≡ Some t = rw (same_name x x refl) refl in
    sym (ap (λ (b : Bindings). unwrap_or (b x) 0) is ∙ ap (λ o. unwrap_or o 0) here)

-- what is bound to a name shows at no other, whatever is bound before
others_from : (b c : Bindings) (es : List Entry) (y : Name) → b y ≡ c y
    → bound_from b (map pair_of es) y ≡ bound_from c (map pair_of es) y
others_from b c [] y same = same
others_from b c (e ∷ es) y same =
    others_from (bound b e.name.now e.term) (bound c e.name.now e.term) es y
    (ap (cond (bytes_eq y e.name.now) (Some e.term)) same)

none_after : (e : Entry) (es : List Entry) (x : Name) (i : ℕ) → NoneFrom (e ∷ es) x (suc i) → NoneFrom es x i
none_after e es x i none = λ k d l w. none (suc k) d (omega (arith, l)) (omega (arith, w))

-- a name without an entry keeps what it was bound to
kept_from : (b : Bindings) (es : List Entry) (x : Name) → NoneFrom es x 0 → bound_from b (map pair_of es) x ≡ b x
kept_from b [] x none = refl
kept_from b (e ∷ es) x none =
    kept_from (bound b e.name.now e.term) es x (none_after e es x 0 (λ k d l w. none k d (omega arith) w))
    ∙ rw (other_name x e.name.now (λ same. none 0 e (omega arith) (omega arith) (sym same))) refl

pub lacks_term : (es : List Entry) (x : Name) → NoneFrom es x 0 → bound_by (map pair_of es) x ≡ None
lacks_term es x none = kept_from unbound es x none

last_after : (e : Entry) (es : List Entry) (x : Name) (i : ℕ) → IsLastAt (e ∷ es) x (suc i) → IsLastAt es x i
last_after e es x i at = record {
  within = omega (arith, at.within);
  named = at.named;
  later = λ k d l w. at.later (suc k) d (omega (arith, l)) (omega (arith, w));
}

-- the term of the last entry of a name counts
last_from : (b : Bindings) (es : List Entry) (x : Name) (i : ℕ) (d : Entry) → IsLastAt es x i
    → bound_from b (map pair_of es) x ≡ Some (get_or es i d).term
last_from b [] x i d at = absurd (omega (arith, at.within))
last_from b (e ∷ es) x zero d at =
    kept_from (bound b e.name.now e.term) es x (none_after e es x 0 (λ k q l w. at.later k q (omega (arith, l)) w))
    ∙ rw (same_name x e.name.now (sym (at.named d))) refl
last_from b (e ∷ es) x (suc i) d at = last_from (bound b e.name.now e.term) es x i d (last_after e es x i at)

pub last_term : (es : List Entry) (x : Name) (i : ℕ) (d : Entry) → IsLastAt es x i
    → bound_by (map pair_of es) x ≡ Some (get_or es i d).term
last_term es x i d at = last_from unbound es x i d at

-- another entry of the name in the place of the last one is as one that is added
changed_from : (b : Bindings) (es : List Entry) (i : ℕ) (e : Entry) → IsLastAt es e.name.now i → (y : Name) →
    bound_from b (map pair_of (set es i e)) y ≡ bound (bound_from b (map pair_of es)) e.name.now e.term y
changed_from b [] i e at y = absurd (omega (arith, at.within))
changed_from b (f ∷ es) zero e at y = elim (cases_Bool (bytes_eq y e.name.now)) [
  | inl same ↦
      let is : y ≡ e.name.now = (bytes_eq-Decides y e.name.now).0 same in
      let rest : NoneFrom es e.name.now 0 =
      none_after f es e.name.now 0 (λ k q l w. at.later k q (omega (arith, l)) w) in
      let there : bound_from (bound b e.name.now e.term) (map pair_of es) e.name.now ≡ Some e.term =
      kept_from (bound b e.name.now e.term) es e.name.now rest ∙ rw (same_name e.name.now e.name.now refl) refl in
      ap (bound_from (bound b e.name.now e.term) (map pair_of es)) is ∙ there ∙ rw same refl
  | inr other ↦
      let named : f.name.now ≡ e.name.now = at.named f in
      let first : bytes_eq y f.name.now ≡ false = ap (bytes_eq y) named ∙ other in
      let before : bound b e.name.now e.term y ≡ bound b f.name.now f.term y = rw (other, first) refl in
      others_from (bound b e.name.now e.term) (bound b f.name.now f.term) es y before ∙ rw other refl
]
changed_from b (f ∷ es) (suc i) e at y =
    changed_from (bound b f.name.now f.term) es i e (last_after f es e.name.now i at) y

pub bound_again : (es : List Entry) (i : ℕ) (e : Entry) → IsLastAt es e.name.now i
    → bound_by (map pair_of (set es i e)) ≡ bound (bound_by (map pair_of es)) e.name.now e.term
bound_again es i e at = λ j. λ y. changed_from unbound es i e at y j

-- where no terms are left, nothing more is bound
pub none_left : (b : Bindings) (xs : List Name) → all_bound b xs [] ≡ b
none_left b [] = refl
none_left b (x ∷ xs) = refl

pub head_of : {X : Type 0} (xs : List X) (i : ℕ) (x : X) → i < length xs → x ≡ get_or xs i x
    → drop i xs ≡ x ∷ drop (i + 1) xs
head_of xs i x within is =
    let one : suc i ≡ i + 1 = omega arith in
    drop-cons xs i x within ∙ ap (λ y. y ∷ drop (suc i) xs) (sym is) ∙ ap (λ n. x ∷ drop n xs) one

pub bound_here : (b c : Bindings) (os : List Occ) (o : Occ) (ts : List ℕ) (t i : ℕ) → i < length os → o ≡ get_or os i o
    → slice_get ts i ≡ Some t → c ≡ bound b o.name t →
    all_bound c (names (drop (i + 1) os)) (drop (i + 1) ts) ≡ all_bound b (names (drop i os)) (drop i ts)
bound_here b c os o ts t i within is got e =
    let occs : drop i os ≡ o ∷ drop (i + 1) os = head_of os i o within is in
    let terms : drop i ts ≡ t ∷ drop (i + 1) ts =
    head_of ts i t (slice_get_within ts i t got) (sym (get_or_from_slice_get ts i t t got)) in
    rw (occs, terms, e) refl

pub bound_past : (b : Bindings) (os : List Occ) (ts : List ℕ) (i : ℕ) → slice_get ts i ≡ None →
    all_bound b (names (drop (i + 1) os)) (drop (i + 1) ts) ≡ all_bound b (names (drop i os)) (drop i ts)
bound_past b os ts i none =
    let past : length ts ≤ i = past_of ts i none in
    let now : drop i ts ≡ [] = drop_of_length-le ts past in
    let later : drop (i + 1) ts ≡ [] = drop_of_length-le ts (omega (arith, past)) in
    rw (now, later, none_left b (names (drop i os))) (none_left b (names (drop (i + 1) os)))
  where
    past_of : (ts : List ℕ) (i : ℕ) → slice_get ts i ≡ None → length ts ≤ i
    past_of ts i none = elim ((slice_get_cases ts i).1) [ inl some ↦ absurd cc | inr out ↦ out.0 ]

-- the entries up to one more
pub latest_more : (es : List Entry) (i : ℕ) (e : Entry) → i < length es → e ≡ get_or es i e → (y : Name) →
    bound_by (map pair_of (take (i + 1) es)) y
    ≡ cond (bytes_eq y e.name.now) (Some e.term) (bound_by (map pair_of (take i es)) y)
latest_more es i e within is y =
    ap (λ xs. bound_by (map pair_of xs) y) (take_more es i e within ∙ ap (λ d. take i es ++ d ∷ []) (sym is))
    ∙ ap (λ b. b y) (bound_push (take i es) e)
