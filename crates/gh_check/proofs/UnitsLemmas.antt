-- The search that has the clauses of the first positions.
use Rattle.std.proofs.Common.{◌≡◌, ◌∙◌, ◌+◌, ◌<◌, ℕ, List, [], ◌∷◌, ◌++◌, length, take, true, false, Option, Some, None}
use Rattle.std.proofs.Common.{MatchOption, sym, ap, subst, arith, append-nil, length-append, take_all}
use Rattle.std.specs.Prelude.{slice_index_or, is_some, unwrap_or}
use Rattle.std.proofs.lemmas.List.{take_more, take-append-le}
use Rattle.std.proofs.lemmas.List.Elements.{filter_map-append}
use Rattle.gh_base.specs.declared.atom.Lit.{Lit}
use Rattle.gh_base.specs.declared.sizes.Sizes.{Sizes}
use Rattle.gh_sat.specs.Trail.{SearchState}
use Rattle.gh_check.specs.Kept.{present}
use Rattle.gh_check.specs.Assuming.{HasClauses, IsBehind}
use Rattle.gh_check.specs.declared.units.Units.{Units}

abbrev Entries : Type 0
Entries = List (Option (List Lit))

pub present_append : (xs ys : Entries) → present (xs ++ ys) ≡ present xs ++ present ys
present_append xs ys = filter_map-append (λ o. o) xs ys

pub inserted_more : (entries : Entries) (i : ℕ) (mid new : List (List Lit)) → i < length entries
    → mid ≡ present (take i entries) → new ≡ mid ++ present (slice_index_or entries i None ∷ [])
    → new ≡ present (take (i + 1) entries)
inserted_more entries i mid new lt before added =
    let e = slice_index_or entries i None in
    added ∙ ap (λ cs. cs ++ present (e ∷ [])) before
    ∙ sym (ap present (take_more entries i None lt) ∙ present_append (take i entries) (e ∷ []))

-- the clause at a position, if there is one
pub none_present : (first : List (List Lit)) (entries : Entries) (i : ℕ)
    → is_some (slice_index_or entries i None) ≡ false → first ≡ first ++ present (slice_index_or entries i None ∷ [])
none_present first entries i none = by (slice_index_or entries i None) none
  where
    by : (o : Option (List Lit)) → is_some o ≡ false → first ≡ first ++ present (o ∷ [])
    by None e = sym (append-nil first)
    by (Some c) e = absurd (cc)

pub one_present : (first : List (List Lit)) (entries : Entries) (i : ℕ) (c : List Lit)
    → c ≡ unwrap_or (slice_index_or entries i None) [] → is_some (slice_index_or entries i None) ≡ true
    → first ++ c ∷ [] ≡ first ++ present (slice_index_or entries i None ∷ [])
one_present first entries i c is some = by (slice_index_or entries i None) is some
  where
    by : (o : Option (List Lit)) → c ≡ unwrap_or o [] → is_some o ≡ true → first ++ c ∷ [] ≡ first ++ present (o ∷ [])
    by None e f = absurd (cc)
    by (Some d) e f = ap (λ (x : List Lit). first ++ x ∷ []) e

-- where one more line is kept, the search is behind as before
pub behind_push : (sizes : Sizes) (entries : Entries) (e : Option (List Lit)) (u : Units) → IsBehind sizes entries u
    → IsBehind sizes (entries ++ e ∷ []) u
behind_push sizes entries e u b =
    let short = b.within in
    record {
      within = omega (arith, length-append entries (e ∷ []));
      search =
          subst (λ (xs : Entries). MatchOption u.search (u.taken ≡ 0) (λ s. HasClauses sizes (present xs) s))
          (sym (take-append-le u.taken entries (e ∷ []) short)) b.search;
    }

-- the search that was made before or now has the first clauses
pub made_has : (sizes : Sizes) (entries : Entries) (taken : ℕ) (old : Option SearchState) (s : SearchState)
    → MatchOption old (taken ≡ 0) (λ t. HasClauses sizes (present (take taken entries)) t)
    → MatchOption old (s ≡ record { sizes = sizes; clauses = []; trail = []; starts = [] }) (λ old. s ≡ old)
    → HasClauses sizes (present (take taken entries)) s
made_has sizes entries taken (Some t) s b e = subst (HasClauses sizes (present (take taken entries))) (sym e) b
made_has sizes entries taken None s b e =
    record {
      sizes_are = ap (λ (t : SearchState). t.sizes) e;
      clauses_are = ap (λ (t : SearchState). t.clauses) e ∙ sym (ap (λ n. present (take n entries)) b);
      level = ap (λ (t : SearchState). t.starts) e;
    }

pub all_taken : (sizes : Sizes) (entries : Entries) (n : ℕ) (s : SearchState) → n ≡ length entries
    → HasClauses sizes (present entries) s → IsBehind sizes entries (record { search = Some s; taken = n })
all_taken sizes entries n s e has =
    record {
      within = omega (arith, e);
      search =
          subst (λ (xs : Entries). HasClauses sizes (present xs) s) (sym (take_all n entries (omega (arith, e)))) has;
    }
