-- Kinds that are listed, and encoded one by one.
use Rattle.std.specs.Prelude.{◌≡◌, ◌≢◌, ℕ, zero, suc, ◌+◌, ◌<◌, ◌≤◌, List, [], ◌∷◌, ◌++◌, map, length, take, get_or}
use Rattle.std.specs.Prelude.{slice_index_or, Contains, count_by, true, false}
use Rattle.std.specs.List.{list_any}
use Rattle.std.proofs.Common.{refl, sym, ◌∙◌, ap, subst, arith, inl, inr}
use Rattle.std.proofs.lemmas.List.{take_more, map-append, length-map, length-take-le, get_or-map, get_or-take, take-map}
use Rattle.std.proofs.lemmas.List.Elements.{Contains-get_or, Contains-push_cases}
use Rattle.std.proofs.lemmas.List.Folds.{list_any_at}
use Rattle.std.proofs.lemmas.List.Quantifiers.{all_pairs_push}
use Rattle.std.proofs.lemmas.List.Sums.{sum_by-append, count_by-le-length}
use Rattle.gh_base.specs.declared.term.TermKind.{TermKind}
use Rattle.gh_path.specs.Terms.{Kind, null, value, next, is_value, same_kind, added, with_value}
use Rattle.gh_symb.specs.Tables.{kind_of, BeginsWithNull, AreListed, IsShort}
use Rattle.gh_symb.specs.Encodings.{plain_kind}
use Rattle.gh_symb.specs.Inside.{AreSuccessors}
use Rattle.gh_symb.specs.declared.kinds.Kind as kept
use Rattle.gh_symb.specs.declared.kinds.Kind.TheVariants.{Null, Value, Next}

-- null alone
pub null_listed : AreListed (null ∷ [])
null_listed = record {
  first = record { rest = []; is = refl };
  numbered = λ n there. only n there.0 there.1 there.2;
  apart = λ i j d less within. omega (arith, less, within);
}
  where
    only : (n k : ℕ) → k < 1 → slice_index_or (null ∷ []) k (value n) ≡ value n → n < 0
    only n k within is = let first : k ≡ 0 = omega (arith, within) in
        let no : null ≡ value n = ap (λ i. slice_index_or (null ∷ []) i (value n)) (sym first) ∙ is in absurd cc

-- a kind that isn't there yet is listed last
listed_more : (ks : List Kind) (k : Kind) → AreListed ks → (Contains ks k → ⊥)
    → ((n : ℕ) → Contains (ks ++ k ∷ []) (value n) → n < count_by is_value (ks ++ k ∷ [])) → AreListed (ks ++ k ∷ [])
listed_more ks k listed fresh numbered = record {
  first = record { rest = listed.first.rest ++ k ∷ []; is = ap (λ q. q ++ k ∷ []) listed.first.is };
  numbered = numbered;
  apart = all_pairs_push (λ (x y : Kind). x ≢ y) ks k listed.apart
      (λ i d within same. fresh (subst (Contains ks) same (Contains-get_or ks i d within)));
}

counted : (ks : List Kind) (k : Kind)
    → count_by is_value (ks ++ k ∷ []) ≡ count_by is_value ks + count_by is_value (k ∷ [])
counted ks k = sum_by-append _ ks (k ∷ [])

pub value_listed : (ks : List Kind) → AreListed ks → AreListed (with_value ks)
value_listed ks listed =
    let n = count_by is_value ks in
    listed_more ks (value n) listed (λ there. omega (arith, listed.numbered n there))
    (λ m there. elim (Contains-push_cases ks (value n) (value m) there) [
      | inl before ↦ omega (arith, listed.numbered m before, counted ks (value n))
      | inr same ↦ let is : n ≡ m = cc in omega (arith, is, counted ks (value n))
    ])

its_own : (m n : ℕ) → same_kind (next m n) (next m n) ≡ true
its_own m n = search arith

not_there : (ks : List Kind) (i x : ℕ) → list_any (same_kind (next i x)) ks ≡ false → Contains ks (next i x) → ⊥
not_there ks i x none there =
    let here : same_kind (next i x) (get_or ks there.0 (next i x)) ≡ true =
    ap (same_kind (next i x)) there.2 ∙ its_own i x in
    let any : list_any (same_kind (next i x)) ks ≡ true =
    list_any_at (same_kind (next i x)) ks there.0 (next i x) there.1 here in
    absurd cc

pub next_listed : (ks : List Kind) (i x : ℕ) → AreListed ks → list_any (same_kind (next i x)) ks ≡ false
    → AreListed (ks ++ next i x ∷ [])
next_listed ks i x listed none =
    listed_more ks (next i x) listed (not_there ks i x none)
    (λ m there. elim (Contains-push_cases ks (next i x) (value m) there) [
      | inl before ↦ omega (arith, listed.numbered m before, counted ks (next i x))
      | inr same ↦ let no : next i x ≡ value m = same in absurd cc
    ])

pub first_encoded : (ks : List kept.Kind) → BeginsWithNull (map kind_of ks) → null ∷ [] ≡ map kind_of (take 1 ks)
first_encoded [] begins = let no : [] ≡ null ∷ begins.rest = begins.is in absurd cc
first_encoded (k ∷ ks) begins = let is : kind_of k ∷ map kind_of ks ≡ null ∷ begins.rest = begins.is in
    let same : kind_of k ≡ null = cc in ap (λ j. j ∷ []) (sym same)

pub encoded_length : (ks : List kept.Kind) (i : ℕ) (old : List TermKind) → i ≤ length ks
    → map plain_kind old ≡ map kind_of (take i ks) → length old ≡ i
encoded_length ks i old within encoded =
    sym (length-map old plain_kind) ∙ ap length encoded ∙ length-map (take i ks) kind_of ∙ length-take-le i ks within

next_at : (ks : List kept.Kind) (i v x : ℕ) → AreSuccessors 256 256 (map kind_of ks) → i < length ks
    → Next v x ≡ get_or ks i (Next v x) → (v < 256) × (x < 256)
next_at [] i v x short within is = (omega (arith, within), omega (arith, within))
next_at (k ∷ ks) zero v x short within is = first k is short
  where
    first : (j : kept.Kind) → Next v x ≡ j → AreSuccessors 256 256 (kind_of j ∷ map kind_of ks) → (v < 256) × (x < 256)
    first Null e h = absurd cc
    first (Value n) e h = absurd cc
    first (Next w y) e h =
        let same : w ≡ v = cc in
        let of : y ≡ x = cc in
        let a = h.0 in
        let b = h.1 in
        (omega (arith, b, same), omega (arith, a, of))
next_at (k ∷ ks) (suc i) v x short within is = next_at ks i v x (later k short) (omega (arith, within)) is
  where
    later : (j : kept.Kind) → AreSuccessors 256 256 (kind_of j ∷ map kind_of ks)
        → AreSuccessors 256 256 (map kind_of ks)
    later Null h = h
    later (Value n) h = h
    later (Next w y) h = h.2

-- the numbers of a listed kind are small where few kinds are listed
pub short_at : (ks : List kept.Kind) (i : ℕ) (k : kept.Kind) → AreListed (map kind_of ks)
    → AreSuccessors 256 256 (map kind_of ks) → length ks < 65536 → i < length ks → k ≡ get_or ks i k → IsShort k
short_at ks i Null listed short few within is = tt
short_at ks i (Next v x) listed short few within is = next_at ks i v x short within is
short_at ks i (Value n) listed short few within is =
    let there : Contains (map kind_of ks) (value n) = (
      i,
      omega (arith, within, length-map ks kind_of),
      get_or-map kind_of ks i (Value n) (value n) within ∙ ap kind_of (sym is),
    ) in
    omega (arith, listed.numbered n there, count_by-le-length is_value (map kind_of ks), length-map ks kind_of, few)

-- a kind at a place isn't encoded before
fresh_at : (ks : List kept.Kind) (i : ℕ) (k : kept.Kind) → AreListed (map kind_of ks) → i < length ks
    → k ≡ get_or ks i k →
    (old : List TermKind) (kind : TermKind) → map plain_kind old ≡ map kind_of (take i ks) → plain_kind kind ≡ kind_of k
    → Contains old kind → ⊥
fresh_at ks i k listed within is old kind encoded same there =
    let n = there.0 in
    let size : length old ≡ i = encoded_length ks i old (omega (arith, within)) encoded in
    let before : n < i = omega (arith, there.1, size) in
    let d = kind_of k in
    let one : get_or (map plain_kind old) n d ≡ d =
    get_or-map plain_kind old n kind d there.1 ∙ ap plain_kind there.2 ∙ same in
    let two : get_or (map kind_of (take i ks)) n d ≡ get_or (map kind_of ks) n d =
    ap (λ xs. get_or xs n d) (sym (take-map kind_of i ks)) ∙ get_or-take i (map kind_of ks) n d before in
    let three : get_or (map kind_of ks) i d ≡ d = get_or-map kind_of ks i k d within ∙ ap kind_of (sym is) in
    listed.apart n i d before (omega (arith, within, length-map ks kind_of))
    (sym two ∙ ap (λ xs. get_or xs n d) (sym encoded) ∙ one ∙ sym three)

pub encoded_more : (ks : List kept.Kind) (i : ℕ) (k : kept.Kind) → AreListed (map kind_of ks) → i < length ks
    → k ≡ get_or ks i k → (old new : List TermKind) (kind : TermKind) →
    map plain_kind old ≡ map kind_of (take i ks) → plain_kind kind ≡ kind_of k
    → ((Contains old kind → ⊥) → new ≡ old ++ kind ∷ []) → map plain_kind new ≡ map kind_of (take (i + 1) ks)
encoded_more ks i k listed within is old new kind encoded same added =
    ap (map plain_kind) (added (fresh_at ks i k listed within is old kind encoded same))
    ∙ map-append plain_kind old (kind ∷ [])
    ∙ ap (λ ts. ts ++ plain_kind kind ∷ []) encoded ∙ ap (λ j. map kind_of (take i ks) ++ j ∷ []) same
    ∙ sym (ap (map kind_of) (take_more ks i k within ∙ ap (λ j. take i ks ++ j ∷ []) (sym is))
    ∙ map-append kind_of (take i ks) (k ∷ []))
