-- Classes of terms under links.
use Rattle.std.proofs.Common.{◌≡◌, ◌≢◌, ◌⊎◌, inl, inr, ℕ, zero, suc, ◌+◌, ◌-◌, ◌<◌, ◌≤◌, Bool, true, false, cond, eqb}
use Rattle.std.proofs.Common.{List, [], ◌∷◌, ◌++◌, length, get_or, take, Some, refl, sym, ap, ◌∙◌, subst, arith}
use Rattle.std.specs.Prelude.{slice_get}
use Rattle.std.proofs.lemmas.Bool.{cases_eq, eq-eqb, ne_eqb}
use Rattle.std.proofs.lemmas.Bool.Decides.{eqb_tells}
use Rattle.std.proofs.lemmas.Option.{get_or_from_slice_get, slice_get_read, slice_get-map}
use Rattle.std.proofs.lemmas.List.{length-take-le, length_push, length-map, length-set}
use Rattle.std.proofs.lemmas.List.Elements.{All-contains, All-set}
use Rattle.std.specs.Prelude.{Contains, map, option_map, slice_set}
use Rattle.gh_base.specs.declared.atom.Term.{Term}
use Rattle.gh_base.specs.Atoms.{term}
use Rattle.gh_cc.specs.declared.partition.Link.{Link}
use Rattle.gh_cc.specs.Partitions.{no_link, relabel, rep, AreMerges, IsPartition, moved}
use Rattle.gh_cc.specs.Uses.{one_if}
use Rattle.gh_base.proofs.ListLemmas.{get_within, get_push, get_last, get_some, get_take, get_set_same, get_set_other}

pub slice_get-contains : {X : Type 0} (xs : List X) (i : ℕ) (x : X) → slice_get xs i ≡ Some x → Contains xs x
slice_get-contains xs i x at = (i, get_within xs i x at, get_or_from_slice_get xs i x x at)

pub contains-slice_get : {X : Type 0} (xs : List X) (x : X) → Contains xs x → (i : ℕ) × (slice_get xs i ≡ Some x)
contains-slice_get xs x w = (w.0, slice_get_read xs (length xs) w.0 x refl w.1 (sym w.2))

cond_true : (b : Bool) (x y : ℕ) → b ≡ true → cond b x y ≡ x
cond_true true x y e = refl
cond_true false x y e = cc

cond_false : (b : Bool) (x y : ℕ) → b ≡ false → cond b x y ≡ y
cond_false true x y e = cc
cond_false false x y e = refl

-- a term of the merged class goes to the other class, and each other one stays
pub relabel_cases : (r : ℕ → ℕ) (l : Link) (t : ℕ)
    → ((r t ≡ r l.from.0) × (relabel r l t ≡ r l.to.0)) ⊎ ((r t ≢ r l.from.0) × (relabel r l t ≡ r t))
relabel_cases r l t =
    elim (eqb_tells (r t) (r l.from.0)) as (λ _. ((r t ≡ r l.from.0) × (relabel r l t ≡ r l.to.0))
    ⊎ ((r t ≢ r l.from.0) × (relabel r l t ≡ r t))) [
      | inl h ↦ inl (h.1, cond_true _ _ _ h.0)
      | inr h ↦ inr (h.1, cond_false _ _ _ h.0)
    ]

-- terms of one class stay in one class
pub relabel_same : (r : ℕ → ℕ) (l : Link) (t u : ℕ) → r t ≡ r u → relabel r l t ≡ relabel r l u
relabel_same r l t u e = ap (λ x. cond (eqb x (r l.from.0)) (r l.to.0) x) e

pub link_at : (links : List Link) (d : ℕ) (l : Link) → slice_get links d ≡ Some l → get_or links d no_link ≡ l
link_at links d l at = get_or_from_slice_get links d l no_link at

pub rep_step : (links : List Link) (d : ℕ) (l : Link) (t : ℕ) → slice_get links d ≡ Some l
    → rep links (suc d) t ≡ relabel (rep links d) l t
rep_step links d l t at = ap (λ (k : Link). relabel (rep links d) k t) (link_at links d l at)

-- representatives depend on the first links alone
pub rep_agree : (links more : List Link) (d : ℕ) → ((i : ℕ) → i < d → get_or links i no_link ≡ get_or more i no_link)
    → (t : ℕ) → rep links d t ≡ rep more d t
rep_agree links more zero same t = refl
rep_agree links more (suc d) same t =
    let before = rep_agree links more d (λ i h. same i (omega arith)) in
    let here = same d (omega arith) in
    ap (λ (r : ℕ → ℕ). relabel r (get_or links d no_link) t) (λ i. λ u. before u i)
    ∙ ap (λ (k : Link). relabel (rep more d) k t) here

get_or_front : (xs ys : List Link) (i : ℕ) → i < length xs → get_or xs i no_link ≡ get_or (xs ++ ys) i no_link
get_or_front [] ys i h = absurd (omega arith)
get_or_front (x ∷ xs) ys zero h = refl
get_or_front (x ∷ xs) ys (suc i) h = get_or_front xs ys i (omega arith)

get_or_take : (n : ℕ) (xs : List Link) (i : ℕ) → i < n → get_or (take n xs) i no_link ≡ get_or xs i no_link
get_or_take zero xs i h = absurd (omega arith)
get_or_take (suc n) [] i h = refl
get_or_take (suc n) (x ∷ xs) zero h = refl
get_or_take (suc n) (x ∷ xs) (suc i) h = get_or_take n xs i (omega arith)

pub rep_front : (links more : List Link) (d t : ℕ) → d ≤ length links → rep (links ++ more) d t ≡ rep links d t
rep_front links more d t h =
    sym (rep_agree links (links ++ more) d (λ i below. get_or_front links more i (omega arith)) t)

pub rep_take : (m : ℕ) (links : List Link) (d t : ℕ) → d ≤ m → rep (take m links) d t ≡ rep links d t
rep_take m links d t h = rep_agree (take m links) links d (λ i below. get_or_take m links i (omega arith)) t

-- where links lead to terms below a bound, representatives stand below it
pub rep_below : (n : ℕ) (links : List Link) (d t : ℕ) → ((i : ℕ) (l : Link) → slice_get links i ≡ Some l → l.to.0 < n)
    → d ≤ length links → t < n → rep links d t < n
rep_below n links zero t m h below = below
rep_below n links (suc d) t m h below =
    let w = get_some links d (omega arith) in
    let l = w.0 in
    let step = rep_step links d l t w.1 in
    elim (relabel_cases (rep links d) l t) as (λ _. rep links (suc d) t < n) [
      | inl c ↦ rw (step ∙ c.1) (rep_below n links d l.to.0 m (omega arith) (m d l w.1))
      | inr c ↦ rw (step ∙ c.1) (rep_below n links d t m (omega arith) below)
    ]

pub rep_range : (n : ℕ) (links : List Link) (d t : ℕ) → AreMerges n links → d ≤ length links → t < n → rep links d t < n
rep_range n links d t m h below = rep_below n links d t (λ i l at. (m i l at).1) h below

-- no link joins a term that isn't there
pub rep_past : (n : ℕ) (links : List Link) (d t : ℕ) → AreMerges n links → d ≤ length links → n ≤ t → rep links d t ≡ t
rep_past n links zero t m h past = refl
rep_past n links (suc d) t m h past =
    let w = get_some links d (omega arith) in
    let l = w.0 in
    let facts = m d l w.1 in
    let step = rep_step links d l t w.1 in
    let before = rep_past n links d t m (omega arith) past in
    let below = rep_range n links d l.from.0 m (omega arith) facts.0 in
    elim (relabel_cases (rep links d) l t) as (λ _. rep links (suc d) t ≡ t) [
      | inl c ↦ let joined = c.0 in absurd (omega (arith, before, below, joined, past))
      | inr c ↦ step ∙ c.1 ∙ before
    ]

-- a representative is its own
pub rep_own : (links : List Link) (d t : ℕ) → rep links d (rep links d t) ≡ rep links d t
rep_own links zero t = refl
rep_own links (suc d) t =
    let l = get_or links d no_link in
    let r = rep links d in
    elim (relabel_cases r l t) as (λ _. relabel r l (relabel r l t) ≡ relabel r l t) [
      | inl c ↦
          let own : r (r l.to.0) ≡ r l.to.0 = rep_own links d l.to.0 in
          elim (relabel_cases r l (r l.to.0)) as (λ _. relabel r l (relabel r l t) ≡ relabel r l t) [
            | inl k ↦ ap (relabel r l) c.1 ∙ k.1 ∙ sym c.1
            | inr k ↦ ap (relabel r l) c.1 ∙ k.1 ∙ own ∙ sym c.1
          ]
      | inr c ↦
          let own : r (r t) ≡ r t = rep_own links d t in
          elim (relabel_cases r l (r t)) as (λ _. relabel r l (relabel r l t) ≡ relabel r l t) [
            | inl k ↦ absurd (c.0 (sym own ∙ k.0))
            | inr k ↦ ap (relabel r l) c.1 ∙ k.1 ∙ own ∙ sym c.1
          ]
    ]

-- later links keep classes together
pub rep_coarser : (links : List Link) (d more a b : ℕ) → rep links d a ≡ rep links d b
    → rep links (d + more) a ≡ rep links (d + more) b
rep_coarser links d zero a b e = let n : d ≡ d + zero = omega arith in subst (λ n. rep links n a ≡ rep links n b) n e
rep_coarser links d (suc more) a b e =
    let n : suc (d + more) ≡ d + suc more = omega arith in
    subst (λ n. rep links n a ≡ rep links n b) n
    (relabel_same (rep links (d + more)) (get_or links (d + more) no_link) a b (rep_coarser links d more a b e))

pub rep_later : (links : List Link) (d e a b : ℕ) → d ≤ e → rep links d a ≡ rep links d b
    → rep links e a ≡ rep links e b
rep_later links d e a b h same =
    let n : d + (e - d) ≡ e = omega arith in
    subst (λ n. rep links n a ≡ rep links n b) n (rep_coarser links d (e - d) a b same)

-- a link joins its terms
pub rep_joins : (links : List Link) (d : ℕ) (l : Link) → slice_get links d ≡ Some l
    → rep links (suc d) l.from.0 ≡ rep links (suc d) l.to.0
rep_joins links d l at =
    let r = rep links d in
    let joined : relabel r l l.from.0 ≡ relabel r l l.to.0 =
    elim (relabel_cases r l l.from.0) as (λ _. relabel r l l.from.0 ≡ relabel r l l.to.0) [
      | inl c ↦ elim (relabel_cases r l l.to.0) as (λ _. relabel r l l.from.0 ≡ relabel r l l.to.0) [
        | inl k ↦ c.1 ∙ sym k.1
        | inr k ↦ c.1 ∙ sym k.1
      ]
      | inr c ↦ absurd (c.0 refl)
    ]
    in
    rep_step links d l l.from.0 at ∙ joined ∙ sym (rep_step links d l l.to.0 at)

-- the function gives the two terms of each of the first links one value
abbrev pub Respects : (ℕ → ℕ) → List Link → ℕ → Type 0
Respects class links d = (i : ℕ) (l : Link) → i < d → slice_get links i ≡ Some l → class l.from.0 ≡ class l.to.0

-- such a function gives a term and its representative one value
pub rep_sound : (class : ℕ → ℕ) (links : List Link) (d t : ℕ) → d ≤ length links → Respects class links d
    → class (rep links d t) ≡ class t
rep_sound class links zero t h s = refl
rep_sound class links (suc d) t h s =
    let w = get_some links d (omega arith) in
    let l = w.0 in
    let r = rep links d in
    let inner : (u : ℕ) → class (r u) ≡ class u =
    λ u. rep_sound class links d u (omega arith) (λ i k below at. s i k (omega arith) at) in
    let step = rep_step links d l t w.1 in
    elim (relabel_cases r l t) as (λ _. class (rep links (suc d) t) ≡ class t) [
      | inl c ↦ ap class (step ∙ c.1) ∙ inner l.to.0 ∙ sym (s d l (omega arith) w.1) ∙ sym (inner l.from.0)
          ∙ ap class (sym c.0) ∙ inner t
      | inr c ↦ ap class (step ∙ c.1) ∙ inner t
    ]

pub same_sound : (class : ℕ → ℕ) (links : List Link) (d a b : ℕ) → d ≤ length links → Respects class links d
    → rep links d a ≡ rep links d b → class a ≡ class b
same_sound class links d a b h s e = sym (rep_sound class links d a h s) ∙ ap class e ∙ rep_sound class links d b h s

-- a link more
pub merges_more : (n : ℕ) (links : List Link) (l : Link) → AreMerges n links → l.from.0 < n → l.to.0 < n
    → rep links (length links) l.from.0 ≢ rep links (length links) l.to.0 → AreMerges n (links ++ l ∷ [])
merges_more n links l m from to apart d k at =
    elim (get_push links l d k at) as (λ _. (k.from.0 < n) × (k.to.0 < n)
    × (rep (links ++ l ∷ []) d k.from.0 ≢ rep (links ++ l ∷ []) d k.to.0)) [
      | inl old ↦
          let f = m d k old in
          let h = get_within links d k old in (
            f.0,
            f.1,
            λ e. f.2 (sym (rep_front links (l ∷ []) d k.from.0 (omega arith)) ∙ e
                ∙ rep_front links (l ∷ []) d k.to.0 (omega arith)),
          )
      | inr new ↦
          subst (λ (j : Link). (j.from.0 < n) × (j.to.0 < n)
          × (rep (links ++ l ∷ []) d j.from.0 ≢ rep (links ++ l ∷ []) d j.to.0)) new.1
          (subst (λ i. (l.from.0 < n) × (l.to.0 < n)
          × (rep (links ++ l ∷ []) i l.from.0 ≢ rep (links ++ l ∷ []) i l.to.0)) (sym new.0) (
            from,
            to,
            λ e. apart (sym (rep_front links (l ∷ []) (length links) l.from.0 (omega arith)) ∙ e
                ∙ rep_front links (l ∷ []) (length links) l.to.0 (omega arith)),
          ))
    ]

pub merges_take : (n m : ℕ) (links : List Link) → AreMerges n links → AreMerges n (take m links)
merges_take n m links f d k at =
    let w = get_take m links d k at in
    let h = f d k w.1 in
    (h.0, h.1, λ e. h.2 (sym (rep_take m links d k.from.0 (omega arith)) ∙ e ∙ rep_take m links d k.to.0 (omega arith)))

-- how many of the first numbers are their own
abbrev pub fixed : (ℕ → ℕ) → ℕ → ℕ
fixed r zero = 0
fixed r (suc n) = fixed r n + one_if (eqb (r n) n)

pub one_if_same : (a b : ℕ) → a ≡ b → one_if (eqb a b) ≡ 1
one_if_same a b e = ap one_if (eq-eqb a b e)

pub none_if_apart : (a b : ℕ) → a ≢ b → one_if (eqb a b) ≡ 0
none_if_apart a b e = ap one_if (ne_eqb a b e)

-- a number other than the merged representative is its own as before
stays_fixed : (r : ℕ → ℕ) (l : Link) (n : ℕ) → ((t : ℕ) → r (r t) ≡ r t) → r l.from.0 ≢ r l.to.0 → n ≢ r l.from.0
    → one_if (eqb (relabel r l n) n) ≡ one_if (eqb (r n) n)
stays_fixed r l n own apart other =
    elim (relabel_cases r l n) as (λ _. one_if (eqb (relabel r l n) n) ≡ one_if (eqb (r n) n)) [
      | inl c ↦
          let new : relabel r l n ≢ n = λ e.
          let at : r l.to.0 ≡ n = sym c.1 ∙ e in
          apart (sym c.0 ∙ ap r (sym at) ∙ own l.to.0) in
          let old : r n ≢ n = λ e. other (sym e ∙ c.0) in
          none_if_apart (relabel r l n) n new ∙ sym (none_if_apart (r n) n old)
      | inr c ↦ ap (λ x. one_if (eqb x n)) c.1
    ]

fixed_below : (r : ℕ → ℕ) (l : Link) (n : ℕ) → ((t : ℕ) → r (r t) ≡ r t) → r l.from.0 ≢ r l.to.0 → n ≤ r l.from.0
    → fixed (relabel r l) n ≡ fixed r n
fixed_below r l zero own apart h = refl
fixed_below r l (suc n) own apart h =
    let before = fixed_below r l n own apart (omega arith) in
    let here = stays_fixed r l n own apart (omega arith) in
    omega (arith, before, here)

-- a merge leaves one representative less
fewer_fixed : (r : ℕ → ℕ) (l : Link) (n : ℕ) → ((t : ℕ) → r (r t) ≡ r t) → r l.from.0 ≢ r l.to.0 → r l.from.0 < n
    → fixed (relabel r l) n + 1 ≡ fixed r n
fewer_fixed r l zero own apart h = absurd (omega arith)
fewer_fixed r l (suc n) own apart h =
    elim (cases_eq n (r l.from.0)) as (λ _. fixed (relabel r l) (suc n) + 1 ≡ fixed r (suc n)) [
      | inl e ↦
          let before = fixed_below r l n own apart (omega arith) in
          let was : one_if (eqb (r n) n) ≡ 1 = one_if_same (r n) n (ap r e ∙ own l.from.0 ∙ sym e) in
          let gone : relabel r l n ≢ n = λ same.
          elim (relabel_cases r l n) as (λ _. ⊥) [
            | inl c ↦ apart (sym e ∙ sym same ∙ c.1)
            | inr c ↦ c.0 (ap r e ∙ own l.from.0)
          ] in
          let here = none_if_apart (relabel r l n) n gone in
          omega (arith, before, was, here)
      | inr ne ↦
          let before = fewer_fixed r l n own apart (omega arith) in
          let here = stays_fixed r l n own apart ne in
          omega (arith, before, here)
    ]

all_fixed : (n : ℕ) → fixed (λ t. t) n ≡ n
all_fixed zero = refl
all_fixed (suc n) = omega (arith, all_fixed n, one_if_same n n refl)

-- each merge leaves a representative less
pub fixed_count : (n : ℕ) (links : List Link) (d : ℕ) → AreMerges n links → d ≤ length links
    → fixed (rep links d) n + d ≡ n
fixed_count n links zero m h = omega (arith, all_fixed n)
fixed_count n links (suc d) m h =
    let w = get_some links d (omega arith) in
    let l = w.0 in
    let f = m d l w.1 in
    let before = fixed_count n links d m (omega arith) in
    let inside = rep_range n links d l.from.0 m (omega arith) f.0 in
    let less = fewer_fixed (rep links d) l n (rep_own links d) f.2 inside in
    let step : fixed (rep links (suc d)) n ≡ fixed (relabel (rep links d) l) n =
    ap (λ (r : ℕ → ℕ). fixed r n) (λ i. λ t. rep_step links d l t w.1 i) in
    omega (arith, before, less, step)

pub links_few : (n : ℕ) (links : List Link) → AreMerges n links → length links ≤ n
links_few n links m = omega (arith, fixed_count n links (length links) m (omega arith))

-- some number that is its own counts
some_fixed : (r : ℕ → ℕ) (n a : ℕ) → a < n → r a ≡ a → 0 < fixed r n
some_fixed r zero a h own = absurd (omega arith)
some_fixed r (suc n) a h own =
    elim (cases_eq n a) as (λ _. 0 < fixed r (suc n)) [
      | inl e ↦ let here = one_if_same (r n) n (ap r e ∙ own ∙ sym e) in omega (arith, here)
      | inr ne ↦ let before = some_fixed r n a (omega arith) own in omega (arith, before)
    ]

-- there is room for a merge, where there is a term
pub room_left : (n : ℕ) (links : List Link) (a : ℕ) → AreMerges n links → a < n → length links < n
room_left n links a m h =
    let d = length links in
    let inside = rep_range n links d a m (omega arith) h in
    let some = some_fixed (rep links d) n (rep links d a) inside (rep_own links d a) in
    omega (arith, some, fixed_count n links d m (omega arith))

-- what a link that is read joins
pub link_read : (terms : ℕ) (links : List Link) (d : ℕ) (l : Link) → AreMerges terms links → d < length links
    → l ≡ get_or links d l → (l.from.0 < terms) × (l.to.0 < terms) × (rep links d l.from.0 ≢ rep links d l.to.0)
link_read terms links d l merges within read = merges d l (slice_get_read links (length links) d l refl within read)

-- a read of the table of representatives
pub rep_read : (links : List Link) (reps : List Term) (saved : List (List Term)) (room t : ℕ) (x : Term)
    → IsPartition links reps saved room → t < length reps
    → x ≡ get_or reps t x → (x.0 ≡ rep links (length links) t) × (x.0 < length reps)
rep_read links reps saved room t x p h read =
    let here : slice_get reps t ≡ Some x = slice_get_read reps (length reps) t x refl h read in
    let is : x.0 ≡ rep links (length links) t = cc (p.present t h, here) in
    (is, rw is (rep_range (length reps) links (length links) t p.merges (omega arith) h))

pub partition_cut : (links : List Link) (reps : List Term) (saved : List (List Term)) (room d : ℕ) (row : List Term)
    → IsPartition links reps saved room → d < length links
    → slice_get saved d ≡ Some row → IsPartition (take d links) row saved room
partition_cut links reps saved room d row p h at =
    let w = p.before d h in
    let same : w.0 ≡ row = cc (w.1, at) in
    let long : length row ≡ length reps = All-contains (λ (r : List Term). length r ≡ length reps) saved row p.long
    (slice_get-contains saved d row at) in
    let few : length (take d links) ≡ d = length-take-le d links (omega arith) in
    record {
      few = omega (arith, p.few);
      merges = rw long (merges_take (length reps) d links p.merges);
      present = λ t inside.
          let here = w.2 t (omega arith) in
          let value : rep (take d links) (length (take d links)) t ≡ rep links d t =
          ap (λ n. rep (take d links) n t) few ∙ rep_take d links d t (omega arith) in
          rw (← same) (here ∙ ap (λ (n : ℕ). Some (term n)) (sym value));
      before = λ e below.
          let v = p.before e (omega arith) in (
            v.0,
            v.1,
            λ t inside. v.2 t (omega arith)
                ∙ ap (λ (n : ℕ). Some (term n)) (sym (rep_take d links e t (omega arith))),
          );
      long = rw long p.long;
      rows = p.rows ∙ sym long;
      reserved = omega (arith, p.reserved);
    }

term_cond : (b : Bool) (x y : ℕ) → cond b (term x) (term y) ≡ term (cond b x y)
term_cond true x y = refl
term_cond false x y = refl

-- the table after a merge
moved_is : (r : ℕ → ℕ) (l : Link) (old new : Term) (t : ℕ) → old.0 ≡ r l.from.0 → new.0 ≡ r l.to.0
    → moved old new (term (r t)) ≡ term (relabel r l t)
moved_is r l old new t from to =
    ap (λ (x : ℕ). cond (eqb (r t) x) new (term (r t))) from
    ∙ ap (λ (x : ℕ). cond (eqb (r t) (r l.from.0)) (term x) (term (r t))) to
    ∙ term_cond (eqb (r t) (r l.from.0)) (r l.to.0) (r t)

pub rep_more : (links : List Link) (l : Link) (t : ℕ) → rep (links ++ l ∷ []) (length (links ++ l ∷ [])) t
    ≡ relabel (rep links (length links)) l t
rep_more links l t =
    let d = length links in
    let long : length (links ++ l ∷ []) ≡ suc d = omega (arith, length_push links l) in
    ap (λ (n : ℕ). rep (links ++ l ∷ []) n t) long
    ∙ rep_step (links ++ l ∷ []) d l t (get_last links l)
    ∙ ap (λ (r : ℕ → ℕ). relabel r l t) (λ i. λ u. rep_front links (l ∷ []) d u (omega arith) i)

pub partition_merge : (links : List Link) (reps : List Term) (saved : List (List Term)) (room : ℕ) (l : Link)
    (old new : Term) → IsPartition links reps saved room
    → l.from.0 < length reps → l.to.0 < length reps
    → rep links (length links) l.from.0 ≢ rep links (length links) l.to.0
    → old.0 ≡ rep links (length links) l.from.0 → new.0 ≡ rep links (length links) l.to.0
    → IsPartition (links ++ l ∷ []) (map (moved old new) reps) (slice_set saved (length links) reps) room
partition_merge links reps saved room l old new p from to apart is_old is_new =
    let d = length links in
    let n = length reps in
    let long : length (map (moved old new) reps) ≡ length reps = length-map reps (moved old new) in
    let left = room_left n links l.from.0 p.merges from in
    record {
      few = omega (arith, p.few, long);
      merges = rw long (merges_more n links l p.merges from to apart);
      present = λ t inside.
          let within : t < n = omega (arith, long) in
          slice_get-map (moved old new) reps t
          ∙ ap (option_map (moved old new)) (p.present t within)
          ∙ ap (λ (x : Term). Some x) (moved_is (rep links d) l old new t is_old is_new
          ∙ ap term (sym (rep_more links l t)));
      before = λ e below.
          let push = length_push links l in
          elim (cases_eq e d) as (λ _. (row : List Term) × (slice_get (slice_set saved d reps) e ≡ Some row)
          × ((t : ℕ) → t < length (map (moved old new) reps)
          → slice_get row t ≡ Some (term (rep (links ++ l ∷ []) e t)))) [
            | inl same ↦ (
              reps,
              ap (λ (k : ℕ). slice_get (slice_set saved d reps) k) same
                  ∙ get_set_same saved d reps (omega (arith, p.rows)),
              λ t inside. p.present t (omega (arith, long))
                  ∙ ap (λ (x : ℕ). Some (term x)) (sym (rep_front links (l ∷ []) d t (omega arith))
                  ∙ ap (λ (k : ℕ). rep (links ++ l ∷ []) k t) (sym same)),
            )
            | inr other ↦
                let v = p.before e (omega arith) in (
                  v.0,
                  get_set_other saved d e reps other ∙ v.1,
                  λ t inside. v.2 t (omega (arith, long))
                      ∙ ap (λ (x : ℕ). Some (term x)) (sym (rep_front links (l ∷ []) e t (omega arith))),
                )
          ];
      long = rw long (All-set (λ (row : List Term). length row ≡ n) saved d reps refl p.long);
      rows = length-set saved d reps ∙ p.rows ∙ sym long;
      reserved = omega (arith, p.reserved, long);
    }

-- a read of the table before a merge
pub row_read : (links : List Link) (reps : List Term) (saved : List (List Term)) (room d t : ℕ) (row items : List Term)
    (x : Term) → IsPartition links reps saved room
    → d < length links → t < length reps → row ≡ get_or saved d row → items ≡ row → x ≡ get_or items t x
    → x.0 ≡ rep links d t
row_read links reps saved room d t row items x p h inside at same read =
    let few = links_few (length reps) links p.merges in
    let here : slice_get saved d ≡ Some row =
    slice_get_read saved (length saved) d row refl (omega (arith, few, p.rows)) at in
    let w = p.before d h in
    let rows : w.0 ≡ items = cc (w.1, here, same) in
    let value : slice_get items t ≡ Some (term (rep links d t)) =
    subst (λ (r : List Term). slice_get r t ≡ Some (term (rep links d t))) rows (w.2 t inside) in
    ap (λ (y : Term). y.0) (read ∙ get_or_from_slice_get items t (term (rep links d t)) x value)

-- the two sides of the link that joined two terms
abbrev pub Crosses : (ℕ → ℕ) → Link → ℕ → ℕ → Type 0
Crosses r l a b = ((r a ≡ r l.from.0) × (r l.to.0 ≡ r b)) ⊎ ((r a ≡ r l.to.0) × (r l.from.0 ≡ r b))

pub relabel_crosses : (r : ℕ → ℕ) (l : Link) (a b : ℕ) → relabel r l a ≡ relabel r l b → r a ≢ r b → Crosses r l a b
relabel_crosses r l a b same apart =
    elim (relabel_cases r l a) as (λ _. ((r a ≡ r l.from.0) × (r l.to.0 ≡ r b))
    ⊎ ((r a ≡ r l.to.0) × (r l.from.0 ≡ r b))) [
      | inl p ↦ elim (relabel_cases r l b) as (λ _. ((r a ≡ r l.from.0) × (r l.to.0 ≡ r b))
          ⊎ ((r a ≡ r l.to.0) × (r l.from.0 ≡ r b))) [
            | inl q ↦ absurd (apart (p.0 ∙ sym q.0))
            | inr q ↦ inl (p.0, sym p.1 ∙ same ∙ q.1)
          ]
      | inr p ↦ elim (relabel_cases r l b) as (λ _. ((r a ≡ r l.from.0) × (r l.to.0 ≡ r b))
          ⊎ ((r a ≡ r l.to.0) × (r l.from.0 ≡ r b))) [
            | inl q ↦ inr (sym p.1 ∙ same ∙ q.1, sym q.0)
            | inr q ↦ absurd (apart (sym p.1 ∙ same ∙ q.1))
          ]
    ]
