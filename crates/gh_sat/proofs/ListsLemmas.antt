-- Lists by literal, of which only those are made that have something.
use Rattle.std.proofs.Common.{◌≡◌, ℕ, zero, suc, ◌<◌, List, [], ◌∷◌, ◌++◌, length, get_or, replicate, inl, inr, refl}
use Rattle.std.proofs.Common.{sym, ap, ◌∙◌, subst, arith, All, Contains}
use Rattle.std.specs.Prelude.{slice_set}
use Rattle.std.proofs.lemmas.Bool.{cases_lt}
use Rattle.std.proofs.lemmas.List.{get_or-map, get_or_past, length-map}
use Rattle.gh_sat.specs.Watch.{ListsMore, lists_by}
use Rattle.gh_sat.proofs.WatchLemmas.{list_push, set_same}

-- nothing is listed
pub by_none : (lists : List (List ℕ)) (n : ℕ) → get_or lists 0 [] ≡ [] → lists_by lists (replicate n 0) ≡ replicate n []
by_none lists zero e = refl
by_none lists (suc n) e = λ i. e i ∷ by_none lists n e i

get_front : (lists : List (List ℕ)) (more : List (List ℕ)) (i : ℕ) → i < length lists
    → get_or (lists ++ more) i [] ≡ get_or lists i []
get_front [] more i h = absurd (omega arith)
get_front (x ∷ xs) more zero h = refl
get_front (x ∷ xs) more (suc i) h = get_front xs more i (omega arith)

get_end : (lists : List (List ℕ)) → get_or (lists ++ [] ∷ []) (length lists) [] ≡ []
get_end [] = refl
get_end (x ∷ xs) = get_end xs

by_front : (lists : List (List ℕ)) (numbers : List ℕ) → All (λ n. n < length lists) numbers
    → lists_by (lists ++ [] ∷ []) numbers ≡ lists_by lists numbers
by_front lists [] h = refl
by_front lists (n ∷ ns) h =
    let e = get_front lists ([] ∷ []) n (h 0 0 (omega arith)) in
    let r = by_front lists ns (λ k d lt. h (suc k) d (omega arith)) in
    λ i. e i ∷ r i

-- a literal with no number gets one more list, which has nothing
pub by_own : (lists : List (List ℕ)) (numbers : List ℕ) (code next : ℕ) → All (λ n. n < length lists) numbers
    → get_or numbers code 0 ≡ 0 → code < length numbers → get_or lists 0 [] ≡ [] → next ≡ length lists
    → lists_by (lists ++ [] ∷ []) (slice_set numbers code next) ≡ lists_by lists numbers
by_own lists [] code next h was lt empty new = absurd (omega arith)
by_own lists (n ∷ ns) zero next h was lt empty new =
    let e : get_or (lists ++ [] ∷ []) next [] ≡ get_or lists n [] =
    ap (λ k. get_or (lists ++ [] ∷ []) k []) new ∙ get_end lists ∙ sym empty ∙ ap (λ k. get_or lists k []) (sym was) in
    let r = by_front lists ns (λ k d lt. h (suc k) d (omega arith)) in
    λ i. e i ∷ r i
by_own lists (n ∷ ns) (suc code) next h was lt empty new =
    let e = get_front lists ([] ∷ []) n (h 0 0 (omega arith)) in
    let r = by_own lists ns code next (λ k d lt. h (suc k) d (omega arith)) was (omega arith) empty new in
    λ i. e i ∷ r i

pub by_long : (lists : List (List ℕ)) (numbers : List ℕ) → length (lists_by lists numbers) ≡ length numbers
by_long lists numbers = length-map numbers (λ n. get_or lists n [])

by_at : (lists : List (List ℕ)) (numbers : List ℕ) (code : ℕ) → code < length numbers
    → get_or (lists_by lists numbers) code [] ≡ get_or lists (get_or numbers code 0) []
by_at lists numbers code lt = get_or-map (λ n. get_or lists n []) numbers code 0 [] lt

by_more : (lists new : List (List ℕ)) (numbers : List ℕ) → ListsMore lists new
    → ListsMore (lists_by lists numbers) (lists_by new numbers)
by_more lists new numbers more = record {
  long = by_long new numbers ∙ sym (by_long lists numbers);
  keeps = λ code k there. elim (cases_lt code (length numbers)) [
    | inl lt ↦
        subst (λ xs. Contains xs k) (sym (by_at new numbers code lt))
        (more.keeps (get_or numbers code 0) k (subst (λ xs. Contains xs k) (by_at lists numbers code lt) there))
    | inr ge ↦
        let none : get_or (lists_by lists numbers) code [] ≡ [] =
        get_or_past (lists_by lists numbers) code [] (omega (arith, ge, by_long lists numbers)) in
        let w : Contains [] k = subst (λ xs. Contains xs k) none there in
        absurd (let lt = w.1 in omega arith)
  ];
}

-- a number more in a literal's own list
pub by_push : (lists : List (List ℕ)) (numbers : List ℕ) (code own k : ℕ) (new : List ℕ) → own < length lists
    → code < length numbers → get_or numbers code 0 ≡ own → new ≡ get_or lists own [] ++ k ∷ []
    → ListsMore (lists_by lists numbers) (lists_by (slice_set lists own new) numbers)
    × Contains (get_or (lists_by (slice_set lists own new) numbers) code []) k
by_push lists numbers code own k new h within is made =
    let p = list_push lists own k new h made in (
      by_more lists (slice_set lists own new) numbers p.0,
      subst (λ xs. Contains xs k) (sym
          (by_at (slice_set lists own new) numbers code within ∙ ap (λ n. get_or (slice_set lists own new) n []) is))
          p.1,
    )

pub by_same : (lists : List (List ℕ)) (numbers : List ℕ) (own : ℕ) (new : List ℕ) → own < length lists
    → new ≡ get_or lists own [] → ListsMore (lists_by lists numbers) (lists_by (slice_set lists own new) numbers)
by_same lists numbers own new h same = by_more lists (slice_set lists own new) numbers (set_same lists own new h same)
