-- Names with terms: look-ups, an entry more, and an entry with another term.
use Rattle.std.specs.Prelude.{◌≡◌, ◌≢◌, ℕ, zero, suc, ◌+◌, ◌≤◌, List, [], ◌∷◌, ◌++◌, length, get_or, set, Option, Some}
use Rattle.std.specs.Prelude.{None, Bool, true, false, cond, nat_lt, position, MatchOption, AllPairs, Contains}
use Rattle.std.specs.Str.{bytes_eq}
use Rattle.std.proofs.lemmas.Slice.Eq.{bytes_eq-Decides}
use Rattle.std.specs.List.{position_or_len}
use Rattle.std.proofs.lemmas.Bool.{cases_Bool, cases_lt, lt-ltb}
use Rattle.std.proofs.lemmas.List.{get_or_default, map-append}
use Rattle.std.proofs.lemmas.List.Quantifiers.{position-Some, all_pairs_push}
use Rattle.std.proofs.Common.{refl, sym, ◌∙◌, ap, subst, inl, inr, arith}
use Rattle.gh_ast.specs.Programs.{Name}
use Rattle.gh_ast.proofs.Lists.{member_first, member_later, member_cases, no_member}
use Rattle.gh_grass.specs.declared.binding.Bond.{Bond}
use Rattle.gh_grass.specs.Bindings.{bound_names, AreDistinct, term_in, IsListedAt, IsBound}
use Rattle.gh_base.specs.declared.atom.Term.{Term}

pub same_name : (x y : Name) → x ≡ y → bytes_eq x y ≡ true
same_name x y e = (bytes_eq-Decides x y).1 e

pub other_name : (x y : Name) → x ≢ y → bytes_eq x y ≡ false
other_name x y n = if_not (bytes_eq x y) (λ t. n ((bytes_eq-Decides x y).0 t))
  where
    if_not : (b : Bool) → (b ≡ true → ⊥) → b ≡ false
    if_not true n = absurd (n refl)
    if_not false n = refl

-- a search by position that comes to the end has met no entry of the name
none_named : (es : List Bond) (name : Name) → length es ≤ position_or_len (λ e. bytes_eq e.name name) es
    → Contains (bound_names es) name → ⊥
none_named [] name far there = no_member name there
none_named (e ∷ es) name far there = elim (cases_Bool (bytes_eq e.name name)) [
  | inl same ↦
      let here : position_or_len (λ e. bytes_eq e.name name) (e ∷ es) ≡ 0 = rw same refl in
      absurd (omega (arith, far, here))
  | inr other ↦
      let further : position_or_len (λ e. bytes_eq e.name name) (e ∷ es)
      ≡ 1 + position_or_len (λ e. bytes_eq e.name name) es = rw other refl in
      elim (member_cases e.name (bound_names es) name there) [
        | inl is ↦ let same : bytes_eq e.name name ≡ true = same_name e.name name is in absurd cc
        | inr more ↦ none_named es name (omega (arith, far, further)) more
      ]
]

not_placed : (a b : ℕ) → None ≡ cond (nat_lt a b) (Some a) None → b ≤ a
not_placed a b is = elim (cases_lt a b) [
  | inl less ↦ let holds : nat_lt a b ≡ true = lt-ltb a b less in absurd cc
  | inr more ↦ more
]

blank : Bond
blank = record { name = []; term = record { 0 = 0 } }

pub placed : (es : List Bond) (name : Name) (r : Option ℕ) → r ≡ position (λ e. bytes_eq e.name name) es
    → MatchOption r (Contains (bound_names es) name → ⊥) (IsListedAt es name)
placed es name None is = none_named es name (not_placed (position_or_len (λ e. bytes_eq e.name name) es) (length es) is)
placed es name (Some i) is = record {
  within = (position-Some (λ e. bytes_eq e.name name) es i blank (sym is)).0;
  named =
      λ d. (bytes_eq-Decides (get_or es i d).name name).0
      ((position-Some (λ e. bytes_eq e.name name) es i d (sym is)).1);
  earlier = λ k d l same.
      let differs : bytes_eq (get_or es k d).name name ≡ false =
      (position-Some (λ e. bytes_eq e.name name) es i d (sym is)).2 k l in
      let is : bytes_eq (get_or es k d).name name ≡ true = same_name (get_or es k d).name name same in
      absurd cc;
}

later_at : (e : Bond) (es : List Bond) (name : Name) (i : ℕ) → IsListedAt (e ∷ es) name (suc i) → IsListedAt es name i
later_at e es name i at =
    record {
      within = omega (arith, at.within);
      named = at.named;
      earlier = λ k d l. at.earlier (suc k) d (omega (arith, l));
    }

pub bound_here : (es : List Bond) (name : Name) (i : ℕ) (d : Bond) → IsListedAt es name i
    → term_in es name ≡ Some (get_or es i d).term
bound_here [] name i d at = absurd (omega (arith, at.within))
bound_here (e ∷ es) name zero d at = rw (same_name e.name name (at.named d)) refl
bound_here (e ∷ es) name (suc i) d at =
    rw (other_name e.name name (at.earlier 0 d (omega arith))) (bound_here es name i d (later_at e es name i at))

pub unbound : (es : List Bond) (name : Name) → (Contains (bound_names es) name → ⊥) → term_in es name ≡ None
unbound [] name out = refl
unbound (e ∷ es) name out =
    rw (other_name e.name name
    (λ same. out (subst (λ x. Contains (e.name ∷ bound_names es) x) same (member_first e.name (bound_names es)))))
    (unbound es name (λ there. out (member_later e.name name (bound_names es) there)))

pub there : (es : List Bond) (name : Name) (i : ℕ) → IsListedAt es name i → Contains (bound_names es) name
there [] name i at = absurd (omega (arith, at.within))
there (e ∷ es) name zero at =
    subst (λ x. Contains (e.name ∷ bound_names es) x) (at.named e) (member_first e.name (bound_names es))
there (e ∷ es) name (suc i) at = member_later e.name name (bound_names es) (there es name i (later_at e es name i at))

abbrev pub changed : Bond → Term → Bond
changed e v = record { name = e.name; term = v }

pub names_stay : (es : List Bond) (i : ℕ) (d : Bond) (v : Term) → d.name ≡ (get_or es i d).name
    → bound_names (set es i (changed d v)) ≡ bound_names es
names_stay [] i d v e = refl
names_stay (x ∷ es) zero d v e = ap (λ n. n ∷ bound_names es) e
names_stay (x ∷ es) (suc i) d v e = ap (λ ns. x.name ∷ ns) (names_stay es i d v e)

pub is_bound : (es : List Bond) (name : Name) (i : ℕ) (d : Bond) (v : Term) → IsListedAt es name i → d.name ≡ name
    → IsBound es (set es i (changed d v)) name v
is_bound es name i d v at same = record {
  term_is = value_there es i at;
  others = λ other away. value_kept es i at other away;
}
  where
    value_there : (es : List Bond) (i : ℕ) → IsListedAt es name i → term_in (set es i (changed d v)) name ≡ Some v
    value_there [] i at = absurd (omega (arith, at.within))
    value_there (e ∷ es) zero at = rw (same_name d.name name same) refl
    value_there (e ∷ es) (suc i) at =
        rw (other_name e.name name (at.earlier 0 d (omega arith))) (value_there es i (later_at e es name i at))

    value_kept : (es : List Bond) (i : ℕ) → IsListedAt es name i → (other : Name) → other ≢ name
        → term_in (set es i (changed d v)) other ≡ term_in es other
    value_kept [] i at other away = refl
    value_kept (e ∷ es) zero at other away =
        rw (
          other_name d.name other (λ is. away (sym is ∙ same)),
          other_name e.name other (λ is. away (sym is ∙ at.named d)),
        ) refl
    value_kept (e ∷ es) (suc i) at other away =
        ap (cond (bytes_eq e.name other) (Some e.term)) (value_kept es i (later_at e es name i at) other away)

pub stays_distinct : (old new : List Bond) → bound_names new ≡ bound_names old → AreDistinct old → AreDistinct new
stays_distinct old new same distinct = subst (λ (ns : List Name). AllPairs (λ x y. x ≢ y) ns) (sym same) distinct

pub distinct_more : (es : List Bond) (e : Bond) → AreDistinct es → (Contains (bound_names es) e.name → ⊥)
    → AreDistinct (es ++ e ∷ [])
distinct_more es e distinct out =
    subst (λ (ns : List Name). AllPairs (λ x y. x ≢ y) ns) (sym (map-append (λ (x : Bond). x.name) es (e ∷ [])))
    (all_pairs_push (λ x y. x ≢ y) (bound_names es) e.name distinct
    (λ k d l same. out (k, l, get_or_default (bound_names es) k e.name d l ∙ same)))

-- a name that wasn't bound stands last
pub is_added : (es : List Bond) (name : Name) (v : Term) → (Contains (bound_names es) name → ⊥)
    → IsBound es (es ++ record { name = name; term = v } ∷ []) name v
is_added es name v out = record {
  term_is = added_there es out;
  others = λ other away. added_kept es other away;
}
  where
    added_there : (es : List Bond) → (Contains (bound_names es) name → ⊥)
        → term_in (es ++ record { name = name; term = v } ∷ []) name ≡ Some v
    added_there [] out = rw (same_name name name refl) refl
    added_there (e ∷ es) out =
        rw (other_name e.name name
        (λ same. out (subst (λ x. Contains (e.name ∷ bound_names es) x) same
        (member_first e.name (bound_names es)))))
        (added_there es (λ there. out (member_later e.name name (bound_names es) there)))

    added_kept : (es : List Bond) (other : Name) → other ≢ name
        → term_in (es ++ record { name = name; term = v } ∷ []) other ≡ term_in es other
    added_kept [] other away = rw (other_name name other (λ is. away (sym is))) refl
    added_kept (e ∷ es) other away = ap (cond (bytes_eq e.name other) (Some e.term)) (added_kept es other away)
