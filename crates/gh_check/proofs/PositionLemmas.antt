-- The lines that were taken, by their positions.
use Rattle.std.proofs.Common.{◌≡◌, ◌∙◌, ◌+◌, ◌-◌, ◌<◌, ◌≤◌, ℕ, zero, suc, List, [], ◌∷◌, ◌++◌, length, map, take, Bool}
use Rattle.std.proofs.Common.{true, false, Option, Some, None, All, refl, sym, ap, subst, arith}
use Rattle.std.specs.Prelude.{slice_get, slice_index_or, is_some, unwrap_or}
use Rattle.std.proofs.lemmas.Bool.{both_ways}
use Rattle.std.proofs.lemmas.List.{map-append, take_more, length-take-le, length-map}
use Rattle.std.proofs.lemmas.List.Elements.{All-push}
use Rattle.std.proofs.lemmas.Option.{get_or_from_slice_get, slice_get_within}
use Rattle.gh_base.specs.declared.atom.Lit.{Lit}
use Rattle.gh_base.specs.Grounds.{Problem}
use Rattle.gh_log.specs.Lines.{LogLine}
use Rattle.gh_log.specs.Sections.{line_clause}
use Rattle.gh_check.specs.Kept.{IsNamed, AreMarked}

-- the clauses of the lines that were taken
abbrev pub entries : Problem → List LogLine → ℕ → List (Option (List Lit))
entries p lines taken = None ∷ map (line_clause p) (take taken lines)

read_past : {X : Type 0} (xs : List X) (i : ℕ) (d : X) → length xs ≤ i → slice_index_or xs i d ≡ d
read_past [] i d le = refl
read_past (x ∷ xs) zero d le = absurd (omega arith)
read_past (x ∷ xs) (suc i) d le = read_past xs i d (omega arith)

read_map : (p : Problem) (lines : List LogLine) (taken i : ℕ) (l : LogLine) → i < taken → slice_get lines i ≡ Some l
    → slice_index_or (map (line_clause p) (take taken lines)) i None ≡ line_clause p l
read_map p [] taken i l lt at = absurd (cc)
read_map p (x ∷ xs) zero i l lt at = absurd (omega arith)
read_map p (x ∷ xs) (suc taken) zero l lt at = let same : x ≡ l = cc in ap (line_clause p) same
read_map p (x ∷ xs) (suc taken) (suc i) l lt at = read_map p xs taken i l (omega arith) at

named_at : (p : Problem) (lines : List LogLine) (taken i : ℕ) (l : LogLine) → i < taken → slice_get lines i ≡ Some l
    → All (IsNamed p) (take taken lines) → IsNamed p l
named_at p lines taken i l lt at all = subst (IsNamed p) (sym is) (all i l (within lines taken i l lt at))
  where
    within : (xs : List LogLine) (n i : ℕ) (l : LogLine) → i < n → slice_get xs i ≡ Some l → i < length (take n xs)
    within [] n i l lt at = absurd (cc)
    within (x ∷ xs) zero i l lt at = absurd (omega arith)
    within (x ∷ xs) (suc n) zero l lt at = omega arith
    within (x ∷ xs) (suc n) (suc i) l lt at = let w = within xs n i l (omega arith) at in omega (arith, w)

    read : (xs : List LogLine) (n i : ℕ) (l : LogLine) → i < n → slice_get xs i ≡ Some l
        → l ≡ slice_index_or (take n xs) i l
    read [] n i l lt at = absurd (cc)
    read (x ∷ xs) zero i l lt at = absurd (omega arith)
    read (x ∷ xs) (suc n) zero l lt at = cc
    read (x ∷ xs) (suc n) (suc i) l lt at = read xs n i l (omega arith) at

    is : l ≡ slice_index_or (take taken lines) i l
    is = read lines taken i l lt at

module _ (p : Problem) (lines : List LogLine) (taken : ℕ) (deleted : List Bool)
    (m : AreMarked p lines taken deleted) where
  pub count_is : length (entries p lines taken) ≡ taken + 1
  count_is = let within = m.within in
      omega (arith, length-map (take taken lines) (line_clause p), length-take-le taken lines within)

  pub last_place : length (entries p lines taken) - 1 ≡ taken
  last_place = omega (arith, count_is)

  pub next_at : (l : LogLine) → slice_get lines (length (entries p lines taken) - 1) ≡ Some l
      → slice_get lines taken ≡ Some l
  next_at l next = sym (ap (slice_get lines) last_place) ∙ next

  pub next_within : (l : LogLine) → slice_get lines (length (entries p lines taken) - 1) ≡ Some l → taken < length lines
  next_within l next = slice_get_within lines taken l (next_at l next)

  pub next_marked : (l : LogLine) → slice_get lines (length (entries p lines taken) - 1) ≡ Some l → IsNamed p l
      → AreMarked p lines (taken + 1) deleted
  next_marked l next named =
      let at = next_at l next in
      let lt = next_within l next in
      let longer : take (taken + 1) lines ≡ take taken lines ++ l ∷ [] =
      take_more lines taken l lt
      ∙ ap (λ (x : LogLine). take taken lines ++ x ∷ []) (get_or_from_slice_get lines taken l l at) in
      record {
        within = omega (arith, lt);
        marks = m.marks;
        named = subst (All (IsNamed p)) (sym longer) (All-push (IsNamed p) (take taken lines) l m.named named);
      }

  pub next_taken : (l : LogLine) → slice_get lines (length (entries p lines taken) - 1) ≡ Some l
      → entries p lines (taken + 1) ≡ entries p lines taken ++ line_clause p l ∷ []
  next_taken l next =
      let at = next_at l next in
      let lt = next_within l next in
      let longer : take (taken + 1) lines ≡ take taken lines ++ l ∷ [] =
      take_more lines taken l lt
      ∙ ap (λ (x : LogLine). take taken lines ++ x ∷ []) (get_or_from_slice_get lines taken l l at) in
      ap (λ (ls : List LogLine). None ∷ map (line_clause p) ls) longer
      ∙ ap (λ os. None ∷ os) (map-append (line_clause p) (take taken lines) (l ∷ []))

  pub none_past : (position : ℕ) → taken < position → slice_index_or (entries p lines taken) position None ≡ None
  none_past position lt = read_past (entries p lines taken) position None (omega (arith, count_is))

  pub clause_here : (position : ℕ) (l : LogLine) → 0 < position → position ≤ taken
      → slice_get lines (position - 1) ≡ Some l → slice_index_or (entries p lines taken) position None ≡ line_clause p l
  clause_here zero l some le at = absurd (omega arith)
  clause_here (suc i) l some le at =
      read_map p lines taken i l (omega arith)
      (let less : suc i - 1 ≡ i = omega arith in sym (ap (slice_get lines) less) ∙ at)

  pub named_here : (position : ℕ) (l : LogLine) → 0 < position → position ≤ taken
      → slice_get lines (position - 1) ≡ Some l → IsNamed p l
  named_here position l some le at = named_at p lines taken (position - 1) l (omega arith) at m.named

  pub mark_within : (position : ℕ) → position < length (entries p lines taken) → position < length deleted
  mark_within position lt = let within = m.within in let marks = m.marks in omega (arith, count_is)

-- no line stands at position 0
pub none_first : (p : Problem) (lines : List LogLine) (taken position : ℕ) → position ≡ 0
    → slice_index_or (entries p lines taken) position None ≡ None
none_first p lines taken position e = ap (λ n. slice_index_or (entries p lines taken) n None) e

-- before the first line
pub first_marked : (p : Problem) (lines : List LogLine) (deleted : List Bool) → length deleted ≡ length lines + 1
    → AreMarked p lines 0 deleted
first_marked p lines deleted marks =
    record { within = omega arith; marks = marks; named = λ i d lt. absurd (omega arith) }

-- an empty clause, as it is read
pub empty_forth : (o : Option (List Lit)) → is_some o ≡ true → unwrap_or o [] ≡ [] → o ≡ Some []
empty_forth (Some c) some e = ap Some e
empty_forth None some e = absurd (cc)

pub empty_back : (o : Option (List Lit)) → o ≡ Some [] → unwrap_or o [] ≡ []
empty_back o e = ap (λ (x : Option (List Lit)). unwrap_or x []) e

pub none_empty : (o : Option (List Lit)) → is_some o ≡ false → o ≡ Some [] → ⊥
none_empty o none e = let some : is_some o ≡ true = ap is_some e in absurd (both_ways _ none some)
