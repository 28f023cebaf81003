-- Files by their names: one more, and what is left of one.
use Rattle.std.specs.Prelude.{◌≡◌, ℕ, zero, suc, ◌+◌, ◌<◌, List, [], ◌∷◌, ◌++◌, length, Option, Some, None, Bool, true}
use Rattle.std.specs.Prelude.{false, cond, slice_get, option_map, unwrap_or, drop, take, min, nat_lt}
use Rattle.std.specs.Str.{bytes_eq}
use Rattle.std.specs.Option.{ForSome}
use Rattle.std.specs.List.{position_or_len, find}
use Rattle.std.proofs.lemmas.Slice.Eq.{bytes_eq-Decides}
use Rattle.std.proofs.lemmas.Bool.{cases_Bool, lt-ltb, le-ltb}
use Rattle.std.proofs.lemmas.Option.{slice_get_cases}
use Rattle.std.proofs.lemmas.List.Folds.{find_at}
use Rattle.std.proofs.lemmas.List.{drop-drop, take-append-drop}
use Rattle.std.proofs.Math.Seq.{drop-nil}
use Rattle.std.proofs.Common.{refl, sym, ◌∙◌, ap, subst, inl, inr, arith}
use Rattle.gh_base.specs.declared.files.File.{File}
use Rattle.gh_base.specs.Files.{content, bytes_at, table_of, left_of, HasMore}

-- the table is that of the first file found
table_is : (fs : List File) (n : List ℕ) → table_of fs n ≡ option_map content (find (λ f. bytes_eq f.name.items n) fs)
table_is fs n =
    by_cases (position_or_len (λ f. bytes_eq f.name.items n) fs) refl
    ∙ ap (option_map content) (sym (find_at (λ f. bytes_eq f.name.items n) fs))
  where
    by_cases : (k : ℕ) → k ≡ position_or_len (λ f. bytes_eq f.name.items n) fs
        → option_map (bytes_at fs)
        (cond (nat_lt (position_or_len (λ f. bytes_eq f.name.items n) fs) (length fs))
        (Some (position_or_len (λ f. bytes_eq f.name.items n) fs)) None)
        ≡ option_map content (slice_get fs (position_or_len (λ f. bytes_eq f.name.items n) fs))
    by_cases k is = elim (slice_get_cases fs k).1 [
      | inl found ↦
          let less : nat_lt k (length fs) ≡ true = lt-ltb k (length fs) found.1 in
          subst (λ j. option_map (bytes_at fs) (cond (nat_lt j (length fs)) (Some j) None)
          ≡ option_map content (slice_get fs j)) is (rw (less, found.2) refl)
      | inr past ↦
          let not_less : nat_lt k (length fs) ≡ false = le-ltb k (length fs) past.0 in
          subst (λ j. option_map (bytes_at fs) (cond (nat_lt j (length fs)) (Some j) None)
          ≡ option_map content (slice_get fs j)) is (rw (not_less, past.1) refl)
    ]

-- the first file, or one of the others
table_first : (f : File) (fs : List File) (n : List ℕ)
    → table_of (f ∷ fs) n ≡ cond (bytes_eq f.name.items n) (Some (content f)) (table_of fs n)
table_first f fs n =
    table_is (f ∷ fs) n ∙ mapped (bytes_eq f.name.items n)
    ∙ ap (cond (bytes_eq f.name.items n) (Some (content f))) (sym (table_is fs n))
  where
    mapped : (b : Bool) → option_map content (cond b (Some f) (find (λ g. bytes_eq g.name.items n) fs))
        ≡ cond b (Some (content f)) (option_map content (find (λ g. bytes_eq g.name.items n) fs))
    mapped true = refl
    mapped false = refl

one_more : (fs : List File) (f : File) → table_of fs f.name.items ≡ None → (n : List ℕ)
    → table_of (fs ++ f ∷ []) n ≡ cond (bytes_eq f.name.items n) (Some (content f)) (table_of fs n)
one_more [] f none n = table_first f [] n
one_more (g ∷ gs) f none n = elim (cases_Bool (bytes_eq g.name.items f.name.items)) [
  | inl same ↦ let found : table_of (g ∷ gs) f.name.items ≡ Some (content g) =
      table_first g gs f.name.items ∙ rw same refl in absurd cc
  | inr other ↦
      let none_after : table_of gs f.name.items ≡ None = sym (table_first g gs f.name.items ∙ rw other refl) ∙ none in
      table_first g (gs ++ f ∷ []) n
      ∙ ap (cond (bytes_eq g.name.items n) (Some (content g))) (one_more gs f none_after n)
      ∙ turned (bytes_eq g.name.items n) (bytes_eq f.name.items n) _ _ _ not_both
      ∙ ap (cond (bytes_eq f.name.items n) (Some (content f))) (sym (table_first g gs n))
]
  where
    not_both : bytes_eq g.name.items n ≡ true → bytes_eq f.name.items n ≡ true → ⊥
    not_both a b =
        let is : g.name.items ≡ f.name.items =
        (bytes_eq-Decides g.name.items n).0 a ∙ sym ((bytes_eq-Decides f.name.items n).0 b) in
        let same : bytes_eq g.name.items f.name.items ≡ true = (bytes_eq-Decides g.name.items f.name.items).1 is in
        let found : table_of (g ∷ gs) f.name.items ≡ Some (content g) = table_first g gs f.name.items ∙ rw same refl in
        absurd cc

    turned : (a b : Bool) (x y z : Option (List ℕ)) → (a ≡ true → b ≡ true → ⊥)
        → cond a x (cond b y z) ≡ cond b y (cond a x z)
    turned true true x y z never = absurd (never refl refl)
    turned true false x y z never = refl
    turned false true x y z never = refl
    turned false false x y z never = refl

slice_kept : (fs : List File) (f : File) (k : ℕ) → k < length fs → slice_get (fs ++ f ∷ []) k ≡ slice_get fs k
slice_kept [] f k less = absurd (omega (arith, less))
slice_kept (g ∷ gs) f zero less = refl
slice_kept (g ∷ gs) f (suc k) less = slice_kept gs f k (omega (arith, less))

left_kept : (fs : List File) (f : File) (begun : Option ℕ) (at : ℕ) → ForSome begun (λ place. place < length fs)
    → left_of (fs ++ f ∷ []) begun at ≡ left_of fs begun at
left_kept fs f None at there = refl
left_kept fs f (Some place) at there =
    ap (λ o. drop at (unwrap_or (option_map content o) [])) (slice_kept fs f place (there place refl))

left_after : (fs : List File) (begun : Option ℕ) (at n : ℕ) → left_of fs begun (at + n) ≡ drop n (left_of fs begun at)
left_after fs None at n = sym (drop-nil n)
left_after fs (Some place) at n = sym (drop-drop n at (bytes_at fs place))

empty : (xs : List ℕ) → length xs ≡ 0 → xs ≡ []
empty [] none = refl
empty (x ∷ xs) none = absurd (omega (arith, none))

-- what was given and what is then left make up what was left; with room for some, nothing is given only where nothing
-- is left
pub given_and_left : (fs : List File) (begun : Option ℕ) (at n most : ℕ) (rest into : List ℕ)
    → rest ≡ left_of fs begun at
    → n ≡ min (min (length rest) (length into)) most → take n into ≡ take n rest → (0 < length into → 0 < most)
    → (left_of fs begun at ≡ take n into ++ left_of fs begun (at + n))
    × (n ≡ 0 → 0 < length into → left_of fs begun (at + n) ≡ [])
given_and_left fs begun at n most rest into is count given some =
    let after : left_of fs begun (at + n) ≡ drop n rest = left_after fs begun at n ∙ ap (drop n) (sym is) in (
      sym is ∙ sym (take-append-drop n rest) ∙ ap (λ xs. xs ++ drop n rest) (sym given)
          ∙ ap (λ xs. take n into ++ xs) (sym after),
      λ none room. after ∙ ap (drop n)
          (empty rest (let most_some : 0 < most = some room in omega (arith, none, room, count, most_some)))
          ∙ drop-nil n,
    )

pub added : (fs now : List File) (f : File) (name bytes : List ℕ) → now ≡ fs ++ f ∷ [] → f.name.items ≡ name
    → f.bytes.items ≡ bytes
    → table_of fs name ≡ None → HasMore (table_of fs) (table_of now) name bytes
added fs now f name bytes is named has none n =
    let none_named : table_of fs f.name.items ≡ None = ap (table_of fs) named ∙ none in
    ap (λ gs. table_of gs n) is ∙ one_more fs f none_named n
    ∙ ap (λ m. cond (bytes_eq m n) (Some (content f)) (table_of fs n)) named
    ∙ ap (λ b. cond (bytes_eq name n) (Some b) (table_of fs n)) has

pub left_after_push : (fs now : List File) (f : File) (begun : Option ℕ) (at : ℕ) → now ≡ fs ++ f ∷ []
    → ForSome begun (λ place. place < length fs)
    → left_of now begun at ≡ left_of fs begun at
left_after_push fs now f begun at is there = ap (λ gs. left_of gs begun at) is ∙ left_kept fs f begun at there
