-- A walk over the next terms of a tuple.
use Rattle.std.proofs.Common.{◌≡◌, ℕ, ◌+◌, ◌-◌, ◌<◌, ◌≤◌, List, [], ◌∷◌, ◌++◌, length, Option, None, true, false, refl}
use Rattle.std.proofs.Common.{◌∙◌, arith, take, set, option_map, length-set}
use Rattle.std.specs.List.{flat_map}
use Rattle.std.specs.Option.{is_some}
use Rattle.std.proofs.lemmas.List.{take-set}
use Rattle.gh_base.specs.declared.atom.Term.{Term}
use Rattle.gh_base.specs.Atoms.{term, terms_below}
use Rattle.gh_inst.specs.Search.{IsSearched, tuples_with}
use Rattle.gh_inst.proofs.TupleLemmas.{term_there, terms_length}
use Rattle.gh_inst.proofs.SearchLemmas.{blocks_of, blocks_end, found_in_block, none_in_block, is_some_map}
use Rattle.gh_inst.proofs.SearchLemmas.{one_term_more}

-- the tuples that begin with some terms and one of the first ones after them, and have so many more
abbrev pub tuples_before : ℕ → ℕ → ℕ → List Term → List (List Term)
tuples_before more n k first = flat_map (λ t. tuples_with more n (first ++ t ∷ [])) (take k (terms_below n))

-- none was found among those with a term before `k`
pub record IsWalked (P : List Term → Type 0) (more n first k : ℕ) (tuple start : List Term) : Type 0 where
  pub long : length tuple ≡ 4
  pub begins : take first tuple ≡ take first start
  pub searched : IsSearched P (tuples_before more n k (take first start)) None

-- a term that is passed over
pub walk_past : {P : List Term → Type 0} {more n first k : ℕ} {tuple start : List Term}
    → IsWalked P more n first k tuple start → k < n
    → IsSearched P (tuples_with more n (take first start ++ term k ∷ [])) None
    → IsWalked P more n first (k + 1) tuple start
walk_past {P = P} {more = more} {n = n} {first = first} {k = k} {start = start} w below here = record {
  long = w.long;
  begins = w.begins;
  searched = none_in_block P (λ t. tuples_with more n (take first start ++ t ∷ [])) (terms_below n) k (term k) None refl
      (term_there n k below) w.searched here;
}

-- a term with which none is found
pub walk_on : {P : List Term → Type 0} {n first k : ℕ} {tuple start : List Term} (variables : ℕ)
    (found : Option (List Term)) → is_some found ≡ false → IsWalked P (variables - (first + 1)) n first k tuple start
    → first < 4 → k < n
    → IsSearched P (tuples_with (variables - (first + 1)) n (take (first + 1) (set tuple first (term k))))
    (option_map (take variables) found)
    → IsWalked P (variables - (first + 1)) n first (k + 1) (set tuple first (term k)) start
walk_on {P = P} {n = n} {first = first} {k = k} {tuple = tuple} {start = start} variables found none w few below here =
    let more = variables - (first + 1) in
    let one = one_term_more P more n first k tuple start _ (omega (arith, w.long)) w.begins here in
    record {
      long = length-set tuple first (term k) ∙ w.long;
      begins = take-set tuple first (term k) ∙ w.begins;
      searched = none_in_block P (λ t. tuples_with more n (take first start ++ t ∷ [])) (terms_below n) k (term k)
          (option_map (take variables) found) (is_some_map (take variables) found ∙ none) (term_there n k below)
          w.searched one;
    }

-- a term with which one is found
pub walk_found : {P : List Term → Type 0} {n first k : ℕ} {tuple start : List Term} (variables : ℕ)
    (found : Option (List Term)) → is_some found ≡ true → IsWalked P (variables - (first + 1)) n first k tuple start
    → first < variables → first < 4 → k < n
    → IsSearched P (tuples_with (variables - (first + 1)) n (take (first + 1) (set tuple first (term k))))
    (option_map (take variables) found)
    → IsSearched P (tuples_with (variables - first) n (take first start)) (option_map (take variables) found)
walk_found {P = P} {n = n} {first = first} {k = k} {tuple = tuple} {start = start} variables found some w open_here few
    below here =
    let more = variables - (first + 1) in
    let one = one_term_more P more n first k tuple start _ (omega (arith, w.long)) w.begins here in
    rw (blocks_of variables first n (take first start) open_here)
    (found_in_block P (λ t. tuples_with more n (take first start ++ t ∷ [])) (terms_below n) k (term k)
    (option_map (take variables) found) (is_some_map (take variables) found ∙ some) (term_there n k below)
    w.searched one)

-- its end
pub walk_end : {P : List Term → Type 0} {n first k : ℕ} {tuple start : List Term} (variables : ℕ)
    → IsWalked P (variables - (first + 1)) n first k tuple start → first < variables → n ≤ k
    → IsSearched P (tuples_with (variables - first) n (take first start)) None
walk_end {P = P} {n = n} {first = first} {k = k} {start = start} variables w open_here all =
    rw (blocks_of variables first n (take first start) open_here)
    (blocks_end P (λ t. tuples_with (variables - (first + 1)) n (take first start ++ t ∷ [])) (terms_below n) k
    (omega (arith, all, terms_length n)) w.searched)
