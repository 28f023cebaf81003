-- What is kept of lines, and what the definitions say of these.
use Rattle.std.proofs.Common.{◌≡◌, ◌≢◌, ◌↔◌, ◌∙◌, inl, inr, ◌+◌, ◌<◌, ◌&&◌, ℕ, zero, suc, List, [], ◌∷◌, ◌++◌, length}
use Rattle.std.proofs.Common.{map, take, get_or, replicate, Bool, true, false, not, Option, Some, None, All, IsTrue}
use Rattle.std.proofs.Common.{refl, sym, ap, subst, arith, add-one}
use Rattle.std.specs.Prelude.{slice_get, slice_set, slice_index_or, is_some, unwrap_or, Contains}
use Rattle.std.specs.List.{cons_option}
use Rattle.std.proofs.lemmas.List.{map-append, take_more, get_or-take, length-take-le}
use Rattle.std.proofs.lemmas.List.Elements.{All-head, All-tail, All-cons, All-push, All-contains, Contains-push}
use Rattle.std.proofs.lemmas.List.Elements.{Contains-push_cases, Contains-append_left, Contains-get_or}
use Rattle.std.proofs.lemmas.List.Quantifiers.{all_pairs_push}
use Rattle.std.proofs.lemmas.Bool.{cases_eq, both_ways}
use Rattle.gh_base.specs.declared.atom.Lit.{Lit}
use Rattle.gh_base.specs.Grounds.{Problem}
use Rattle.gh_base.specs.Hints.{IsShownByHints}
use Rattle.gh_log.specs.Lines.{LogLine}
use Rattle.gh_log.specs.Sections.{line_clause, clauses_of, Deletes, HasClauseAt, IsUndeleted, AllUndeleted, AreAt}
use Rattle.gh_log.specs.Sections.{IsHinted}
use Rattle.gh_log.proofs.NumberLemmas.{all_before}
use Rattle.gh_check.specs.Kept.{Kept, IsLeft, IsBeforeAll, stands_in, clause_at, named, IsWithin, AreWithin, present}
use Rattle.gh_check.specs.Kept.{AreDeleted, MayBeDeleted, AreLinesKept}

-- the clause of the line at a place
entry_at : (p : Problem) (lines : List LogLine) (place : ℕ) (c : List Lit)
    → slice_index_or (map (line_clause p) lines) place None ≡ Some c
    → (l : LogLine) × (slice_get lines place ≡ Some l) × (line_clause p l ≡ Some c)
entry_at p [] place c e = absurd (cc)
entry_at p (x ∷ xs) zero c e = (x, refl, e)
entry_at p (x ∷ xs) (suc k) c e = entry_at p xs k c e

entry_there : (p : Problem) (lines : List LogLine) (place : ℕ) (l : LogLine) (c : List Lit)
    → slice_get lines place ≡ Some l → line_clause p l ≡ Some c
    → slice_index_or (map (line_clause p) lines) place None ≡ Some c
entry_there p [] place l c at has = absurd (cc)
entry_there p (x ∷ xs) zero l c at has = let same : x ≡ l = cc in ap (line_clause p) same ∙ has
entry_there p (x ∷ xs) (suc k) l c at has = entry_there p xs k l c at has

and_parts : (a b : Bool) → (a && not b) ≡ true → (a ≡ true) × (b ≡ false)
and_parts true false e = (refl, refl)
and_parts true true e = absurd (cc)
and_parts false b e = absurd (cc)

and_make : (a b : Bool) → a ≡ true → b ≡ false → (a && not b) ≡ true
and_make a b e f = ap (λ x. x && not b) e ∙ ap (λ y. not y) f

some_is : (o : Option (List Lit)) → is_some o ≡ true → (c : List Lit) × (o ≡ Some c)
some_is (Some c) e = (c, refl)
some_is None e = absurd (cc)

module _ (p : Problem) (lines : List LogLine) (k : Kept) (h : AreLinesKept p lines k) where
  read : (place : ℕ) → slice_index_or k.clauses (suc place) None ≡ slice_index_or (map (line_clause p) lines) place None
  read place = ap (λ xs. slice_index_or xs (suc place) None) h.clauses

  none_first : slice_index_or k.clauses 0 None ≡ None
  none_first = ap (λ xs. slice_index_or xs 0 None) h.clauses

  pub stands_forth : (position : ℕ) → IsTrue (stands_in k position) → IsUndeleted p lines position
  stands_forth zero t =
      let parts = and_parts _ _ t in
      let some = some_is _ parts.0 in
      let none = none_first in
      let has = some.1 in
      absurd (cc)
  stands_forth (suc place) t =
      let parts = and_parts _ _ t in
      let some = some_is _ parts.0 in
      let w = entry_at p lines place some.0 (sym (read place) ∙ some.1) in
      record {
        clause = some.0;
        there = record { place = place; position_is = sym (add-one place); line = w.0; at = w.1; has = w.2 };
        kept = (h.stand (suc place)).0 parts.1;
      }

  there_is : (position : ℕ) (c : List Lit) → HasClauseAt p lines position c
      → slice_index_or k.clauses position None ≡ Some c
  there_is position c w =
      let position_is : suc w.place ≡ position = sym (w.position_is ∙ add-one w.place) in
      subst (λ n. slice_index_or k.clauses n None ≡ Some c) position_is
      (read w.place ∙ entry_there p lines w.place w.line c w.at w.has)

  pub stands_back : (position : ℕ) → IsUndeleted p lines position → IsTrue (stands_in k position)
  stands_back position s = and_make _ _ (ap is_some (there_is position s.clause s.there)) ((h.stand position).1 s.kept)

  pub clause_here : (position : ℕ) (c : List Lit) → HasClauseAt p lines position c → clause_at k position ≡ c
  clause_here position c w = ap (λ o. unwrap_or o []) (there_is position c w)

  pub all_forth : (ks : List ℕ) → All (λ n. IsTrue (stands_in k n)) ks → AllUndeleted p lines ks
  all_forth ks a i d lt = stands_forth (get_or ks i d) (a i d lt)

  pub all_back : (ks : List ℕ) → AllUndeleted p lines ks → All (λ n. IsTrue (stands_in k n)) ks
  all_back ks a i d lt = stands_back (get_or ks i d) (a i d lt)

  pub are_at : (ks : List ℕ) → AllUndeleted p lines ks → AreAt p lines ks (named k ks)
  are_at [] a = tt
  are_at (n ∷ ks) a =
      let s = All-head (IsUndeleted p lines) n ks a in (
        subst (HasClauseAt p lines n) (sym (clause_here n s.clause s.there)) s.there,
        are_at ks (All-tail (IsUndeleted p lines) n ks a),
      )

  pub are_named : (ks : List ℕ) (cs : List (List Lit)) → AreAt p lines ks cs → cs ≡ named k ks
  are_named [] [] a = refl
  are_named [] (c ∷ cs) a = absurd a
  are_named (n ∷ ks) [] a = absurd a
  are_named (n ∷ ks) (c ∷ cs) a =
      let here = sym (clause_here n c a.0) in
      let there = are_named ks cs a.1 in
      λ i. here i ∷ there i

  pub hinted_forth : (c : List Lit) (ks : List ℕ) → AllUndeleted p lines ks → IsShownByHints (named k ks) c
      → IsHinted p lines c ks
  hinted_forth c ks a shown = record { stand = a; clauses = named k ks; at = are_at ks a; shown = shown }

  pub hinted_back : (c : List Lit) (ks : List ℕ) → IsHinted p lines c ks → IsShownByHints (named k ks) c
  hinted_back c ks w = subst (λ cs. IsShownByHints cs c) (are_named ks w.clauses w.at) w.shown

-- the clauses that are there are those of the lines
present_map : (p : Problem) (lines : List LogLine) → present (map (line_clause p) lines) ≡ clauses_of p lines
present_map p [] = refl
present_map p (l ∷ ls) = ap (λ cs. cons_option (line_clause p l) cs) (present_map p ls)

pub present_is : (p : Problem) (lines : List LogLine) (k : Kept) → AreLinesKept p lines k
    → present k.clauses ≡ clauses_of p lines
present_is p lines k h = ap present h.clauses ∙ present_map p lines

-- one more line
pub kept_then : (p : Problem) (lines : List LogLine) (old new : Kept) (l : LogLine) → AreLinesKept p lines old
    → new.clauses ≡ old.clauses
    → ((n : ℕ) → IsLeft new n ↔ (IsLeft old n × (Deletes l n → ⊥))) → IsWithin p.sizes (line_clause p l)
    → AreLinesKept p (lines ++ l ∷ []) (record new { clauses = new.clauses ++ line_clause p l ∷ [] })
kept_then p lines old new l h same marks within =
    record {
      clauses =
          ap (λ xs. xs ++ line_clause p l ∷ []) (same ∙ h.clauses)
          ∙ ap (λ xs. None ∷ xs) (sym (map-append (line_clause p) lines (l ∷ [])));
      stand = λ n. (
        (λ e. let parts = (marks n).0 e in All-push (λ m. Deletes m n → ⊥) lines l ((h.stand n).0 parts.0) parts.1),
        (λ a. (marks n).1 (
          (h.stand n).1 (all_before (λ m. Deletes m n → ⊥) lines (l ∷ []) a),
          All-contains (λ m. Deletes m n → ⊥) (lines ++ l ∷ []) l a (Contains-push lines l),
        )),
      );
      within =
          All-push (IsWithin p.sizes) new.clauses (line_clause p l) (subst (AreWithin p.sizes) (sym same) h.within)
          within;
    }

-- a line that deletes nothing
pub kept_push : (p : Problem) (lines : List LogLine) (k : Kept) (l : LogLine) → AreLinesKept p lines k
    → ((n : ℕ) → Deletes l n → ⊥) → IsWithin p.sizes (line_clause p l)
    → AreLinesKept p (lines ++ l ∷ []) (record k { clauses = k.clauses ++ line_clause p l ∷ [] })
kept_push p lines k l h none within = kept_then p lines k k l h refl (λ n. ((λ e. (e, none n)), (λ w. w.0))) within

none_within : (p : Problem) → AreWithin p.sizes (None ∷ [])
none_within p = All-cons (IsWithin p.sizes) None [] (λ c f. absurd (cc)) (λ i d lt. absurd (omega arith))

pub kept_first : (p : Problem) (lines : List LogLine) (k : Kept) → IsBeforeAll p lines k → AreLinesKept p [] k
kept_first p lines k f = record {
  clauses = f.clauses;
  stand = λ n. ((λ _. λ i d lt. absurd (omega arith)), (λ _. f.left n));
  within = subst (AreWithin p.sizes) (sym f.clauses) (none_within p);
}

-- no position has a mark at first
pub none_marked : (count n : ℕ) → slice_index_or (replicate count false) n false ≡ false
none_marked zero n = refl
none_marked (suc count) zero = refl
none_marked (suc count) (suc n) = none_marked count n

-- deletions
pub deleted_none : (k : Kept) → AreDeleted k k []
deleted_none k = record {
  problem = refl;
  lines_are = refl;
  clauses = refl;
  deleted = λ n. ((λ e. (e, λ w. absurd (omega (arith, w.1)))), (λ w. w.0));
}

one_there : (n m : ℕ) → Contains (n ∷ []) m → n ≡ m
one_there n m w = by w.0 w.1 w.2
  where
    by : (k : ℕ) → k < length (n ∷ []) → slice_index_or (n ∷ []) k m ≡ m → n ≡ m
    by zero lt e = e
    by (suc k) lt e = absurd (omega arith)

pub deleted_more : (old mid new : Kept) (ks : List ℕ) (n : ℕ) → AreDeleted old mid ks → AreDeleted mid new (n ∷ [])
    → AreDeleted old new (ks ++ n ∷ [])
deleted_more old mid new ks n a b =
    record {
      problem = b.problem ∙ a.problem;
      lines_are = b.lines_are ∙ a.lines_are;
      clauses = b.clauses ∙ a.clauses;
      deleted = λ m. (
        (λ e.
            let late = (b.deleted m).0 e in
            let early = (a.deleted m).0 late.0 in (
              early.0,
              λ w. elim (Contains-push_cases ks n m w) as (λ _. ⊥)
                  [ inl q ↦ early.1 q | inr q ↦ late.1 (0, omega arith, q) ],
            )),
        (λ w. (b.deleted m).1 (
          (a.deleted m).1 (w.0, λ q. w.1 (Contains-append_left ks (n ∷ []) m q)),
          λ q. w.1 (subst (Contains (ks ++ n ∷ [])) (one_there n m q) (Contains-push ks n)),
        )),
      );
    }

set_there : (ds : List Bool) (n : ℕ) → n < length ds → slice_index_or (slice_set ds n true) n false ≡ true
set_there [] n lt = absurd (omega arith)
set_there (d ∷ ds) zero lt = refl
set_there (d ∷ ds) (suc n) lt = set_there ds n (omega (arith, lt))

set_others : (ds : List Bool) (n m : ℕ) → n ≢ m
    → slice_index_or (slice_set ds n true) m false ≡ slice_index_or ds m false
set_others [] n m ne = refl
set_others (d ∷ ds) zero zero ne = absurd (ne refl)
set_others (d ∷ ds) zero (suc m) ne = refl
set_others (d ∷ ds) (suc n) zero ne = refl
set_others (d ∷ ds) (suc n) (suc m) ne = set_others ds n m (λ e. ne (ap suc e))

pub deleted_one : (k : Kept) (n : ℕ) → n < length k.deleted
    → AreDeleted k (record k { deleted = slice_set k.deleted n true }) (n ∷ [])
deleted_one k n lt =
    record {
      problem = refl;
      lines_are = refl;
      clauses = refl;
      deleted =
          λ m. elim (cases_eq n m) as
          (λ _. (slice_index_or (slice_set k.deleted n true) m false ≡ false)
          ↔ ((slice_index_or k.deleted m false ≡ false) × (Contains (n ∷ []) m → ⊥))) [
            | inl e ↦ (
              (λ f. absurd (both_ways _ f
                  (subst (λ j. slice_index_or (slice_set k.deleted n true) j false ≡ true) e (set_there k.deleted n lt)))),
              (λ w. absurd (w.1 (0, omega arith, e))),
            )
            | inr ne ↦ (
              (λ f. (sym (set_others k.deleted n m ne) ∙ f, λ q. ne (one_there n m q))),
              (λ w. set_others k.deleted n m ne ∙ w.0),
            )
          ];
    }

-- the place of a position that stands is there
pub stands_within : (k : Kept) (n : ℕ) → IsTrue (stands_in k n) → n < length k.clauses
stands_within k n t = let parts = and_parts _ _ t in within k.clauses n (some_is _ parts.0).0 (some_is _ parts.0).1
  where
    within : (os : List (Option (List Lit))) (n : ℕ) (c : List Lit) → slice_index_or os n None ≡ Some c → n < length os
    within [] n c e = absurd (cc)
    within (o ∷ os) zero c e = omega arith
    within (o ∷ os) (suc n) c e = let r = within os n c e in omega (arith, r)

-- a position that still stands stood, and wasn't deleted since
pub stood : (old mid : Kept) (ks : List ℕ) (n : ℕ) → AreDeleted old mid ks → IsTrue (stands_in mid n)
    → IsTrue (stands_in old n) × (Contains ks n → ⊥)
stood old mid ks n a t =
    let parts = and_parts _ _ t in
    let early = (a.deleted n).0 parts.1 in
    (and_make _ _ (ap (λ xs. is_some (slice_index_or xs n None)) (sym a.clauses) ∙ parts.0) early.0, early.1)

pub still : (old mid : Kept) (ks : List ℕ) (n : ℕ) → AreDeleted old mid ks → IsTrue (stands_in old n)
    → (Contains ks n → ⊥) → IsTrue (stands_in mid n)
still old mid ks n a t none =
    let parts = and_parts _ _ t in
    and_make _ _ (ap (λ xs. is_some (slice_index_or xs n None)) a.clauses ∙ parts.0) ((a.deleted n).1 (parts.1, none))

-- the first positions were deleted
pub record Goes (old mid : Kept) (ks : List ℕ) (i : ℕ) : Type 0 where
  pub done : AreDeleted old mid (take i ks)
  pub may : MayBeDeleted old (take i ks)

pub goes_first : (old : Kept) (ks : List ℕ) → Goes old old ks 0
goes_first old ks = record {
  done = deleted_none old;
  may = record { stand = λ i d lt. absurd (omega arith); distinct = λ i j d lt below. absurd (omega arith) };
}

pub goes_more : (old mid new : Kept) (ks : List ℕ) (i n : ℕ) → i < length ks → n ≡ get_or ks i n → Goes old mid ks i
    → IsTrue (stands_in mid n) → AreDeleted mid new (n ∷ []) → Goes old new ks (i + 1)
goes_more old mid new ks i n lt at g t d =
    let longer : take (i + 1) ks ≡ take i ks ++ n ∷ [] = take_more ks i n lt ∙ ap (λ x. take i ks ++ x ∷ []) (sym at) in
    let was = stood old mid (take i ks) n g.done t in
    record {
      done = subst (AreDeleted old new) (sym longer) (deleted_more old mid new (take i ks) n g.done d);
      may = subst (MayBeDeleted old) (sym longer) (record {
        stand = All-push (λ m. IsTrue (stands_in old m)) (take i ks) n g.may.stand was.0;
        distinct =
            all_pairs_push ◌≢◌ (take i ks) n g.may.distinct
            (λ j e below same. was.1 (subst (Contains (take i ks)) same (Contains-get_or (take i ks) j e below)));
      });
    }

pub goes_refused : (old mid : Kept) (ks : List ℕ) (i n : ℕ) → i < length ks → n ≡ get_or ks i n → Goes old mid ks i
    → (IsTrue (stands_in mid n) → ⊥) → MayBeDeleted old ks → ⊥
goes_refused old mid ks i n lt at g fails may =
    fails (still old mid (take i ks) n g.done (subst (λ m. IsTrue (stands_in old m)) (sym at) (may.stand i n lt))
    (λ w. clash w))
  where
    clash : Contains (take i ks) n → ⊥
    clash w =
        let below : w.0 < i = omega (arith, w.1, length-take-le i ks (omega arith)) in
        may.distinct w.0 i n below lt (sym (get_or-take i ks w.0 n below) ∙ w.2 ∙ at)
