-- Counts of mentions.
use Rattle.std.proofs.Common.{◌≡◌, ◌≢◌, inl, inr, ℕ, suc, ◌+◌, ◌-◌, ◌<◌, ◌≤◌, Bool, true, false, cond, eqb, ltb, List}
use Rattle.std.proofs.Common.{[], ◌∷◌, ◌++◌, length, Option, Some, None, All, refl, sym, ap, ◌∙◌, arith, length-set}
use Rattle.std.proofs.Common.{subst, get_or}
use Rattle.std.specs.Prelude.{slice_get, slice_set}
use Rattle.std.proofs.lemmas.Bool.{cases_eq, cases_lt, lt-ltb, le-ltb}
use Rattle.std.proofs.lemmas.Option.{same_Some, none-some, slice_get_read}
use Rattle.std.proofs.lemmas.List.Elements.{All-contains}
use Rattle.gh_base.specs.declared.atom.Term.{Term}
use Rattle.gh_cc.specs.declared.uses.Mention.{Mention}
use Rattle.gh_cc.specs.Uses.{terms_of, one_if, counted, times, class_times, AreCounts, AreUses}
use Rattle.gh_base.proofs.ListLemmas.{get_last, get_within, get_set_same, get_set_other}
use Rattle.gh_cc.proofs.PartitionLemmas.{one_if_same, none_if_apart, slice_get-contains}
use Rattle.gh_cc.proofs.UseLemmas.{terms_push}

counted_push : (has : ℕ → Bool) (list : List (Option Term)) (x : Option Term)
    → counted has (list ++ x ∷ []) ≡ counted has (x ∷ []) + counted has list
counted_push has [] None = refl
counted_push has [] (Some t) = omega arith
counted_push has (None ∷ list) x = counted_push has list x
counted_push has (Some u ∷ list) x = omega (arith, counted_push has list x)

at_most_one : (b : Bool) → one_if b ≤ 1
at_most_one true = omega arith
at_most_one false = omega arith

-- there are no more of them than mentions
counted_long : (has : ℕ → Bool) (list : List (Option Term)) → counted has list ≤ length list
counted_long has [] = omega arith
counted_long has (None ∷ list) = omega (arith, counted_long has list)
counted_long has (Some t ∷ list) = omega (arith, counted_long has list, at_most_one (has t.0))

pub class_long : (list : List (Option Term)) (r : ℕ → ℕ) (class n : ℕ) → class_times list r class n ≤ length list
class_long list r class n = counted_long (λ u. cond (ltb u n) (eqb (r u) class) false) list

pub times_long : (list : List (Option Term)) (t : ℕ) → times list t ≤ length list
times_long list t = counted_long (λ u. eqb u t) list

-- a property of two disjoint parts
counted_parts : (p q whole : ℕ → Bool) → ((u : ℕ) → one_if (whole u) ≡ one_if (p u) + one_if (q u))
    → (list : List (Option Term)) → counted whole list ≡ counted p list + counted q list
counted_parts p q whole h [] = refl
counted_parts p q whole h (None ∷ list) = counted_parts p q whole h list
counted_parts p q whole h (Some t ∷ list) = omega (arith, counted_parts p q whole h list, h t.0)

counted_none : (list : List (Option Term)) → counted (λ _. false) list ≡ 0
counted_none [] = refl
counted_none (None ∷ list) = counted_none list
counted_none (Some t ∷ list) = omega (arith, counted_none list)

if_below : (u n : ℕ) (b : Bool) → u < n → one_if (cond (ltb u n) b false) ≡ one_if b
if_below u n b h = ap (λ k. one_if (cond k b false)) (lt-ltb u n h)

if_past : (u n : ℕ) (b : Bool) → n ≤ u → one_if (cond (ltb u n) b false) ≡ 0
if_past u n b h = ap (λ k. one_if (cond k b false)) (le-ltb u n h)

-- a term more, of the class
pub class_more : (list : List (Option Term)) (r : ℕ → ℕ) (class k : ℕ) → r k ≡ class
    → class_times list r class (k + 1) ≡ class_times list r class k + times list k
class_more list r class k is =
    counted_parts (λ u. cond (ltb u k) (eqb (r u) class) false) (λ u. eqb u k)
    (λ u. cond (ltb u (k + 1)) (eqb (r u) class) false)
    (λ u. elim (cases_lt u k) as (λ _. one_if (cond (ltb u (k + 1)) (eqb (r u) class) false)
    ≡ one_if (cond (ltb u k) (eqb (r u) class) false) + one_if (eqb u k)) [
      | inl lt ↦ omega (
        arith,
        if_below u (k + 1) (eqb (r u) class) (omega arith),
        if_below u k (eqb (r u) class) lt,
        none_if_apart u k (omega arith),
      )
      | inr ge ↦ elim (cases_eq u k) as (λ _. one_if (cond (ltb u (k + 1)) (eqb (r u) class) false)
          ≡ one_if (cond (ltb u k) (eqb (r u) class) false) + one_if (eqb u k)) [
            | inl e ↦ omega (
              arith,
              if_below u (k + 1) (eqb (r u) class) (omega arith),
              if_past u k (eqb (r u) class) ge,
              one_if_same u k e,
              one_if_same (r u) class (ap r e ∙ is),
            )
            | inr ne ↦ omega (
              arith,
              if_past u (k + 1) (eqb (r u) class) (omega arith),
              if_past u k (eqb (r u) class) ge,
              none_if_apart u k ne,
            )
          ]
    ]) list

-- a term more, of another class
pub class_other : (list : List (Option Term)) (r : ℕ → ℕ) (class k : ℕ) → r k ≢ class
    → class_times list r class (k + 1) ≡ class_times list r class k
class_other list r class k other =
    let parts = counted_parts (λ u. cond (ltb u k) (eqb (r u) class) false) (λ _. false)
    (λ u. cond (ltb u (k + 1)) (eqb (r u) class) false)
    (λ u. elim (cases_lt u k) as (λ _. one_if (cond (ltb u (k + 1)) (eqb (r u) class) false)
    ≡ one_if (cond (ltb u k) (eqb (r u) class) false) + 0) [
      | inl lt ↦ omega (arith, if_below u (k + 1) (eqb (r u) class) (omega arith), if_below u k (eqb (r u) class) lt)
      | inr ge ↦ elim (cases_eq u k) as (λ _. one_if (cond (ltb u (k + 1)) (eqb (r u) class) false)
          ≡ one_if (cond (ltb u k) (eqb (r u) class) false) + 0) [
            | inl e ↦ omega (
              arith,
              if_below u (k + 1) (eqb (r u) class) (omega arith),
              if_past u k (eqb (r u) class) ge,
              none_if_apart (r u) class (λ same. other (ap r (sym e) ∙ same)),
            )
            | inr ne ↦ omega (
              arith,
              if_past u (k + 1) (eqb (r u) class) (omega arith),
              if_past u k (eqb (r u) class) ge,
            )
          ]
    ]) list in
    omega (arith, parts, counted_none list)

pub class_none : (list : List (Option Term)) (r : ℕ → ℕ) (class : ℕ) → class_times list r class 0 ≡ 0
class_none [] r class = refl
class_none (None ∷ list) r class = class_none list r class
class_none (Some t ∷ list) r class =
    omega (arith, class_none list r class, if_past t.0 0 (eqb (r t.0) class) (omega arith))

times_push_here : (ms : List Mention) (m : Mention) (t : Term) → m.term ≡ Some t
    → times (terms_of (ms ++ m ∷ [])) t.0 ≡ suc (times (terms_of ms) t.0)
times_push_here ms m t is =
    let here : counted (λ u. eqb u t.0) (m.term ∷ []) ≡ one_if (eqb t.0 t.0) + 0 =
    ap (λ (o : Option Term). counted (λ u. eqb u t.0) (o ∷ [])) is in
    let push = counted_push (λ u. eqb u t.0) (terms_of ms) m.term in
    let whole : times (terms_of (ms ++ m ∷ [])) t.0 ≡ times (terms_of ms ++ m.term ∷ []) t.0 =
    ap (λ (ts : List (Option Term)). times ts t.0) (terms_push ms m) in
    omega (arith, here, push, whole, one_if_same t.0 t.0 refl)

times_push_other : (ms : List Mention) (m : Mention) (v : ℕ) → ((t : Term) → m.term ≡ Some t → t.0 ≢ v)
    → times (terms_of (ms ++ m ∷ [])) v ≡ times (terms_of ms) v
times_push_other ms m v other =
    let none : (o : Option Term) → ((t : Term) → o ≡ Some t → t.0 ≢ v) → counted (λ u. eqb u v) (o ∷ []) ≡ 0 =
    λ o h. none_of o v h in
    let here = none m.term other in
    let push = counted_push (λ u. eqb u v) (terms_of ms) m.term in
    let whole : times (terms_of (ms ++ m ∷ [])) v ≡ times (terms_of ms ++ m.term ∷ []) v =
    ap (λ (ts : List (Option Term)). times ts v) (terms_push ms m) in
    omega (arith, here, push, whole)
  where
    none_of : (o : Option Term) (v : ℕ) → ((t : Term) → o ≡ Some t → t.0 ≢ v) → counted (λ u. eqb u v) (o ∷ []) ≡ 0
    none_of None v h = refl
    none_of (Some t) v h = omega (arith, none_if_apart t.0 v (h t refl))

pub counts_push_none : (ms : List Mention) (counts : List ℕ) (m : Mention) (n : ℕ) → AreCounts ms counts n
    → m.term ≡ None → AreCounts (ms ++ m ∷ []) counts n
counts_push_none ms counts m n c none = record {
  long = c.long;
  each = λ t k at. c.each t k at ∙ sym (times_push_other ms m t (λ u e. absurd (none-some u (sym none ∙ e))));
}

pub counts_push_some : (ms : List Mention) (counts : List ℕ) (m : Mention) (t : Term) (n k : ℕ) → AreCounts ms counts n
    → m.term ≡ Some t → slice_get counts t.0 ≡ Some k
    → AreCounts (ms ++ m ∷ []) (slice_set counts t.0 (k + 1)) n
counts_push_some ms counts m t n k c is at = record {
  long = length-set counts t.0 (k + 1) ∙ c.long;
  each = λ v j there. elim (cases_eq v t.0) as (λ _. j ≡ times (terms_of (ms ++ m ∷ [])) v) [
    | inl same ↦
        let now : slice_get (slice_set counts t.0 (k + 1)) v ≡ Some (k + 1) =
        ap (slice_get (slice_set counts t.0 (k + 1))) same
        ∙ get_set_same counts t.0 (k + 1) (get_within counts t.0 k at) in
        let value : k + 1 ≡ j = same_Some _ _ (sym now ∙ there) in
        let was = c.each t.0 k at in
        let more : j ≡ times (terms_of (ms ++ m ∷ [])) t.0 = omega (arith, value, was, times_push_here ms m t is) in
        more ∙ ap (times (terms_of (ms ++ m ∷ []))) (sym same)
    | inr ne ↦
        let old : slice_get counts v ≡ Some j = sym (get_set_other counts t.0 v (k + 1) ne) ∙ there in
        c.each v j old
        ∙ sym (times_push_other ms m v (λ u e w. ne (sym w ∙ ap (λ (y : Term). y.0) (same_Some u t (sym e ∙ is)))))
  ];
}

pub counts_pop_none : (ms : List Mention) (counts : List ℕ) (m : Mention) (n : ℕ) → AreCounts (ms ++ m ∷ []) counts n
    → ((t : Term) → m.term ≢ Some t) → AreCounts ms counts n
counts_pop_none ms counts m n c none = record {
  long = c.long;
  each = λ t k at. c.each t k at ∙ times_push_other ms m t (λ u e. absurd (none u e));
}

-- a term that is mentioned last has a count above 0
pub count_positive : (ms : List Mention) (counts : List ℕ) (m : Mention) (t : Term) (n k : ℕ)
    → AreCounts (ms ++ m ∷ []) counts n → m.term ≡ Some t → slice_get counts t.0 ≡ Some k → 0 < k
count_positive ms counts m t n k c is at = omega (arith, c.each t.0 k at, times_push_here ms m t is)

-- the count that is read of a term which the last mention mentions
pub count_read : (mentions front : List Mention) (last counts : List ℕ) (m : Mention) (t : Term) (n k : ℕ)
    → mentions ≡ front ++ m ∷ [] → AreUses mentions last → AreCounts mentions counts n → length last ≡ n
    → m.term ≡ Some t → k ≡ get_or counts t.0 k → slice_get counts t.0 ≡ Some k
count_read mentions front last counts m t n k more uses c long is read =
    let there = subst (λ (ms : List Mention). AreUses ms last) more uses in
    let top = there.links (length front) m t (get_last front m) is in
    slice_get_read counts (length counts) t.0 k refl (omega (arith, top.0, c.long, long)) read

pub counts_pop_some : (ms : List Mention) (counts : List ℕ) (m : Mention) (t : Term) (n k : ℕ)
    → AreCounts (ms ++ m ∷ []) counts n → m.term ≡ Some t → slice_get counts t.0 ≡ Some k
    → AreCounts ms (slice_set counts t.0 (k - 1)) n
counts_pop_some ms counts m t n k c is at = record {
  long = length-set counts t.0 (k - 1) ∙ c.long;
  each = λ v j there. elim (cases_eq v t.0) as (λ _. j ≡ times (terms_of ms) v) [
    | inl same ↦
        let now : slice_get (slice_set counts t.0 (k - 1)) v ≡ Some (k - 1) =
        ap (slice_get (slice_set counts t.0 (k - 1))) same
        ∙ get_set_same counts t.0 (k - 1) (get_within counts t.0 k at) in
        let value : k - 1 ≡ j = same_Some _ _ (sym now ∙ there) in
        let was = c.each t.0 k at in
        let less : j ≡ times (terms_of ms) t.0 = omega (arith, value, was, times_push_here ms m t is) in
        less ∙ ap (times (terms_of ms)) (sym same)
    | inr ne ↦
        let old : slice_get counts v ≡ Some j = sym (get_set_other counts t.0 v (k - 1) ne) ∙ there in
        c.each v j old
        ∙ times_push_other ms m v (λ u e w. ne (sym w ∙ ap (λ (y : Term). y.0) (same_Some u t (sym e ∙ is))))
  ];
}

-- no mention yet
pub counts_none : (counts : List ℕ) (n : ℕ) → length counts ≡ n → All (λ k. k ≡ 0) counts → AreCounts [] counts n
counts_none counts n long zeros = record {
  long = long;
  each = λ t k at. All-contains (λ j. j ≡ 0) counts k zeros (slice_get-contains counts t k at);
}

-- a count is at most the number of mentions
pub count_small : (ms : List Mention) (counts : List ℕ) (t n k : ℕ) → AreCounts ms counts n
    → slice_get counts t ≡ Some k → k ≤ length (terms_of ms)
count_small ms counts t n k c at = omega (arith, c.each t k at, times_long (terms_of ms) t)
