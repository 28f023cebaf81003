-- Names with values: look-ups, an entry more, and an entry with another value.
use Rattle.std.specs.Prelude.{◌≡◌, ◌≢◌, ℕ, zero, suc, ◌+◌, ◌≤◌, List, [], ◌∷◌, ◌++◌, length, get_or, set, Option, Some}
use Rattle.std.specs.Prelude.{None, Bool, true, false, cond, nat_lt, position, MatchOption, AllPairs, Contains}
use Rattle.std.specs.Str.{bytes_eq}
use Rattle.std.proofs.lemmas.Slice.Eq.{bytes_eq-Decides}
use Rattle.std.specs.List.{position_or_len}
use Rattle.std.proofs.lemmas.Bool.{cases_Bool, cases_lt, lt-ltb}
use Rattle.std.proofs.lemmas.List.{get_or_default, map-append}
use Rattle.std.proofs.lemmas.List.Quantifiers.{position-Some, all_pairs_push}
use Rattle.std.proofs.Common.{refl, sym, ◌∙◌, ap, subst, inl, inr, arith}
use Rattle.gh_ast.specs.Programs.{Name}
use Rattle.gh_ast.proofs.Lists.{member_first, member_later, member_cases, no_member}
use Rattle.gh_assert.specs.declared.store.Entry.{Entry}
use Rattle.gh_assert.specs.Stores.{listed_names, AreDistinct, listed, IsListedAt, IsSet}

same_name : (x y : Name) → x ≡ y → bytes_eq x y ≡ true
same_name x y e = (bytes_eq-Decides x y).1 e

other_name : (x y : Name) → x ≢ y → bytes_eq x y ≡ false
other_name x y n = if_not (bytes_eq x y) (λ t. n ((bytes_eq-Decides x y).0 t))
  where
    if_not : (b : Bool) → (b ≡ true → ⊥) → b ≡ false
    if_not true n = absurd (n refl)
    if_not false n = refl

-- a search by position that comes to the end has met no entry of the name
none_named : (es : List Entry) (name : Name) → length es ≤ position_or_len (λ e. bytes_eq e.name name) es
    → Contains (listed_names es) name → ⊥
none_named [] name far there = no_member name there
none_named (e ∷ es) name far there = elim (cases_Bool (bytes_eq e.name name)) [
  | inl same ↦
      let here : position_or_len (λ e. bytes_eq e.name name) (e ∷ es) ≡ 0 = rw same refl in
      absurd (omega (arith, far, here))
  | inr other ↦
      let further : position_or_len (λ e. bytes_eq e.name name) (e ∷ es)
      ≡ 1 + position_or_len (λ e. bytes_eq e.name name) es = rw other refl in
      elim (member_cases e.name (listed_names es) name there) [
        | inl is ↦ let same : bytes_eq e.name name ≡ true = same_name e.name name is in absurd cc
        | inr more ↦ none_named es name (omega (arith, far, further)) more
      ]
]

not_placed : (a b : ℕ) → None ≡ cond (nat_lt a b) (Some a) None → b ≤ a
not_placed a b is = elim (cases_lt a b) [
  | inl less ↦ let holds : nat_lt a b ≡ true = lt-ltb a b less in absurd cc
  | inr more ↦ more
]

blank : Entry
blank = record { name = []; value = 0 }

pub placed : (es : List Entry) (name : Name) (r : Option ℕ) → r ≡ position (λ e. bytes_eq e.name name) es
    → MatchOption r (Contains (listed_names es) name → ⊥) (IsListedAt es name)
placed es name None is = none_named es name (not_placed (position_or_len (λ e. bytes_eq e.name name) es) (length es) is)
placed es name (Some i) is = record {
  within = (position-Some (λ e. bytes_eq e.name name) es i blank (sym is)).0;
  named =
      λ d. (bytes_eq-Decides (get_or es i d).name name).0
      ((position-Some (λ e. bytes_eq e.name name) es i d (sym is)).1);
  earlier = λ k d l same.
      let differs : bytes_eq (get_or es k d).name name ≡ false =
      (position-Some (λ e. bytes_eq e.name name) es i d (sym is)).2 k l in
      let is : bytes_eq (get_or es k d).name name ≡ true = same_name (get_or es k d).name name same in
      absurd cc;
}

later_at : (e : Entry) (es : List Entry) (name : Name) (i : ℕ) → IsListedAt (e ∷ es) name (suc i) → IsListedAt es name i
later_at e es name i at =
    record {
      within = omega (arith, at.within);
      named = at.named;
      earlier = λ k d l. at.earlier (suc k) d (omega (arith, l));
    }

pub listed_here : (es : List Entry) (name : Name) (i : ℕ) (d : Entry) → IsListedAt es name i
    → listed es name ≡ Some (get_or es i d).value
listed_here [] name i d at = absurd (omega (arith, at.within))
listed_here (e ∷ es) name zero d at = rw (same_name e.name name (at.named d)) refl
listed_here (e ∷ es) name (suc i) d at =
    rw (other_name e.name name (at.earlier 0 d (omega arith))) (listed_here es name i d (later_at e es name i at))

pub unlisted : (es : List Entry) (name : Name) → (Contains (listed_names es) name → ⊥) → listed es name ≡ None
unlisted [] name out = refl
unlisted (e ∷ es) name out =
    rw (other_name e.name name
    (λ same. out (subst (λ x. Contains (e.name ∷ listed_names es) x) same (member_first e.name (listed_names es)))))
    (unlisted es name (λ there. out (member_later e.name name (listed_names es) there)))

pub there : (es : List Entry) (name : Name) (i : ℕ) → IsListedAt es name i → Contains (listed_names es) name
there [] name i at = absurd (omega (arith, at.within))
there (e ∷ es) name zero at =
    subst (λ x. Contains (e.name ∷ listed_names es) x) (at.named e) (member_first e.name (listed_names es))
there (e ∷ es) name (suc i) at = member_later e.name name (listed_names es) (there es name i (later_at e es name i at))

abbrev changed : Entry → ℕ → Entry
changed e v = record { name = e.name; value = v }

names_stay : (es : List Entry) (i : ℕ) (d : Entry) (v : ℕ) → d.name ≡ (get_or es i d).name
    → listed_names (set es i (changed d v)) ≡ listed_names es
names_stay [] i d v e = refl
names_stay (x ∷ es) zero d v e = ap (λ n. n ∷ listed_names es) e
names_stay (x ∷ es) (suc i) d v e = ap (λ ns. x.name ∷ ns) (names_stay es i d v e)

pub is_set : (es : List Entry) (name : Name) (i : ℕ) (d : Entry) (v : ℕ) → IsListedAt es name i → d.name ≡ name
    → IsSet es (set es i (changed d v)) name v
is_set es name i d v at same = record {
  names = names_stay es i d v (same ∙ sym (at.named d));
  value_is = value_there es i at;
  others = λ other away. value_kept es i at other away;
}
  where
    value_there : (es : List Entry) (i : ℕ) → IsListedAt es name i → listed (set es i (changed d v)) name ≡ Some v
    value_there [] i at = absurd (omega (arith, at.within))
    value_there (e ∷ es) zero at = rw (same_name d.name name same) refl
    value_there (e ∷ es) (suc i) at =
        rw (other_name e.name name (at.earlier 0 d (omega arith))) (value_there es i (later_at e es name i at))

    value_kept : (es : List Entry) (i : ℕ) → IsListedAt es name i → (other : Name) → other ≢ name
        → listed (set es i (changed d v)) other ≡ listed es other
    value_kept [] i at other away = refl
    value_kept (e ∷ es) zero at other away =
        rw (
          other_name d.name other (λ is. away (sym is ∙ same)),
          other_name e.name other (λ is. away (sym is ∙ at.named d)),
        ) refl
    value_kept (e ∷ es) (suc i) at other away =
        ap (cond (bytes_eq e.name other) (Some e.value)) (value_kept es i (later_at e es name i at) other away)

pub stays_distinct : (old new : List Entry) → listed_names new ≡ listed_names old → AreDistinct old → AreDistinct new
stays_distinct old new same distinct = subst (λ (ns : List Name). AllPairs (λ x y. x ≢ y) ns) (sym same) distinct

pub distinct_more : (es : List Entry) (e : Entry) → AreDistinct es → (Contains (listed_names es) e.name → ⊥)
    → AreDistinct (es ++ e ∷ [])
distinct_more es e distinct out =
    subst (λ (ns : List Name). AllPairs (λ x y. x ≢ y) ns) (sym (map-append (λ (x : Entry). x.name) es (e ∷ [])))
    (all_pairs_push (λ x y. x ≢ y) (listed_names es) e.name distinct
    (λ k d l same. out (k, l, get_or_default (listed_names es) k e.name d l ∙ same)))
