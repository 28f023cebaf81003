-- A section without the lines that nothing later needs.
use Rattle.std.proofs.Common.{◌≡◌, ◌⊎◌, ℕ, zero, suc, ◌+◌, ◌-◌, ◌<◌, ◌≤◌, List, [], ◌∷◌, ◌++◌, length, take, get_or}
use Rattle.std.proofs.Common.{map, Bool, true, false, Some, inl, inr, refl, sym, ap, ◌∙◌, subst, arith, All, Contains}
use Rattle.std.specs.Prelude.{IsTrue, slice_get, slice_index}
use Rattle.std.proofs.lemmas.Bool.{cases_eq, false≢true}
use Rattle.std.proofs.lemmas.List.{length_push, take_more}
use Rattle.std.proofs.lemmas.Option.{get_or_from_slice_get, slice_get-get_or, slice_get_read}
use Rattle.std.proofs.lemmas.List.Elements.{All-cons, All-push, Contains-append_left, Contains-append_right}
use Rattle.gh_base.specs.declared.atom.Lit.{Lit}
use Rattle.gh_base.specs.Grounds.{Problem}
use Rattle.gh_log.specs.Lines.{LogLine}
use Rattle.gh_log.specs.Lines as line
use Rattle.gh_log.specs.declared.lines.Section.{Section}
use Rattle.gh_log.specs.Sections.{line_clause, HasClauseAt, IsUndeleted, AllUndeleted, AreAt, IsHinted, IsOfKind}
use Rattle.gh_log.specs.Sections.{AreOfKind}
use Rattle.gh_log.specs.Spelled.{IsOfVersion}
use Rattle.gh_log.proofs.KindLemmas.{kind_push}
use Rattle.gh_base.proofs.ListLemmas.{get_within, get_front, get_last, get_push, get_take}
use Rattle.gh_ground.specs.Solving.{hints_of, FitsTypes, IsNoDeletion, IsHintLater, IsTrimmed, RefutesProblem}
use Rattle.gh_ground.specs.Solving.{IsRefutationOf}
use Rattle.gh_ground.specs.Trimming.{IsKeptAt, AreKeptBefore, KeepsOnly, IsHintOfKept, AreNeeded, IsShifted}
use Rattle.gh_ground.proofs.KeptLemmas.{no_kinds, deletes_nothing}
use Rattle.gh_ground.proofs.SpelledLemmas.{spelled_lines}

-- what the code reads as a place's mark
pub read_mark : (kept : List Bool) (place : ℕ) (read mark : Bool) → place < length kept → read ≡ get_or kept place read
    → read ≡ mark → slice_get kept place ≡ Some mark
read_mark kept place read mark lt at is =
    slice_get_read kept (length kept) place read (λ _. length kept) lt at ∙ ap Some is

-- the line at a position more is kept
pub kept_more : (old new : List Bool) (place : ℕ) (positions : List ℕ) (i d : ℕ) → i < length positions
    → ((k : ℕ) → IsKeptAt old k → IsKeptAt new k)
    → ((k : ℕ) → get_or positions i d ≡ k + 1 → k < place → IsKeptAt new k)
    → AreKeptBefore old place (take i positions) → AreKeptBefore new place (take (i + 1) positions)
kept_more old new place positions i d lt keeps is h =
    subst (AreKeptBefore new place) (sym (take_more positions i d lt))
    (All-push (λ p. (k : ℕ) → p ≡ k + 1 → k < place → IsKeptAt new k) (take i positions) (get_or positions i d)
    (λ j x within k e below. keeps k (h j x within k e below)) is)

pub only_more : (first old new : List Bool) (place : ℕ) (positions : List ℕ) (i d : ℕ) → i < length positions
    → KeepsOnly first old place (take i positions) → KeepsOnly old new place (get_or positions i d ∷ [])
    → KeepsOnly first new place (take (i + 1) positions)
only_more first old new place positions i d lt h step =
    let last = get_or positions i d in
    subst (KeepsOnly first new place) (sym (take_more positions i d lt)) (λ k there. elim (step k there) [
      | inl was ↦ elim (h k was)
          [ inl kept ↦ inl kept | inr w ↦ inr (w.0, Contains-append_left (take i positions) (last ∷ []) (k + 1) w.1) ]
      | inr w ↦ inr (w.0, Contains-append_right (take i positions) (last ∷ []) (k + 1) w.1)
    ])

-- a place less is left
pub needed_step : (lines : List LogLine) (old new : List Bool) (place : ℕ) (l : LogLine) → length new ≡ length old
    → ((k : ℕ) → IsKeptAt old k → IsKeptAt new k) → ((k : ℕ) → place ≤ k → slice_get new k ≡ slice_get old k)
    → (IsKeptAt old place → AreKeptBefore new place (hints_of l)) → KeepsOnly old new place (hints_of l)
    → IsKeptAt old place ⊎ (new ≡ old) → slice_get lines place ≡ Some l → AreNeeded lines old (place + 1)
    → AreNeeded lines new place
needed_step lines old new place l long keeps later here only needed at h = record {
  long = long ∙ h.long;
  last = λ k e. keeps k (h.last k e);
  hints = λ i x le there kept.
      let was : IsKeptAt old i = sym (later i le) ∙ kept in
      elim (cases_eq i place) as (λ _. AreKeptBefore new i (hints_of x)) [
        | inl e ↦
            let there' : slice_get lines place ≡ Some x = subst (λ n. slice_get lines n ≡ Some x) e there in
            let same : l ≡ x = cc in
            subst (λ (y : LogLine). AreKeptBefore new i (hints_of y)) same
            (subst (λ n. AreKeptBefore new n (hints_of l)) (sym e) (here (subst (IsKeptAt old) e was)))
        | inr ne ↦ λ j d lt k is below. keeps k (h.hints i x (omega arith) there was j d lt k is below)
      ];
  only = λ k there. elim (only k there) [
    | inl was ↦ before k was
    | inr mark ↦ elim needed [
      | inl kept ↦ inr (record {
        place = place;
        later = mark.0;
        line = l;
        at = at;
        kept_too = keeps place kept;
        hint = mark.1;
      })
      | inr same ↦ before k (subst (λ (marks : List Bool). IsKeptAt marks k) same there)
    ]
  ];
}
  where
    before : (k : ℕ) → IsKeptAt old k → (length lines ≡ k + 1) ⊎ IsHintOfKept lines new k
    before k was = elim (h.only k was) [
      | inl end ↦ inl end
      | inr w ↦ inr (record {
        place = w.place;
        later = w.later;
        line = w.line;
        at = w.at;
        kept_too = keeps w.place w.kept_too;
        hint = w.hint;
      })
    ]

pub needed_whole : (lines : List LogLine) (kept : List Bool) (from : ℕ) → from ≤ 0 → AreNeeded lines kept from
    → AreNeeded lines kept 0
needed_whole lines kept from none h = let e : from ≡ 0 = omega arith in subst (AreNeeded lines kept) e h

-- what is known of the lines that are trimmed
pub record IsGood (p : Problem) (lines : List LogLine) : Type 0 where
  pub kinds : AreOfKind p lines
  pub version : All (IsOfVersion 2) lines
  pub none : All IsNoDeletion lines

-- the new positions of earlier lines at the hints of a line are hints of the new line
abbrev pub MovesHints : List ℕ → ℕ → LogLine → LogLine → Type 0
MovesHints positions place l m =
    (j r : ℕ) → j < place → slice_get positions j ≡ Some r → Contains (hints_of l) (j + 1) → Contains (hints_of m) r

-- what holds of the lines that were kept before a place, and of their new positions
pub record IsRenumbered (p : Problem) (lines : List LogLine) (kept : List Bool) (place : ℕ) (new : List LogLine)
    (positions : List ℕ) : Type 0 where
  pub long : length positions ≡ place
  -- the clause of a kept line stands at its new position
  pub there : (k : ℕ) (l : LogLine) → k < place → slice_get lines k ≡ Some l → IsKeptAt kept k
      → (q : ℕ) × (m : LogLine) × (slice_get positions k ≡ Some (q + 1)) × (slice_get new q ≡ Some m)
      × (line_clause p m ≡ line_clause p l) × MovesHints positions k l m
  -- each new line is that of a kept line
  pub from : (q : ℕ) → q < length new → (k : ℕ) × (k < place) × IsKeptAt kept k × (slice_get positions k ≡ Some (q + 1))
  pub few : (k a : ℕ) → slice_get positions k ≡ Some a → a ≤ length new
  -- the new position of a kept line is above those of the lines before it
  pub order : (j k a b : ℕ) → j < k → IsKeptAt kept k → slice_get positions j ≡ Some a → slice_get positions k ≡ Some b
      → a < b
  pub kinds : AreOfKind p new
  pub version : All (IsOfVersion 2) new
  pub none : All IsNoDeletion new
  -- where the line before the place is kept, its clause stands last
  pub last : (k : ℕ) (l : LogLine) → place ≡ k + 1 → slice_get lines k ≡ Some l → IsKeptAt kept k
      → (before : List LogLine) × (m : LogLine) × (new ≡ before ++ m ∷ []) × (line_clause p m ≡ line_clause p l)

pub trimmed_none : (p : Problem) (lines : List LogLine) (kept : List Bool) (new : List LogLine) (positions : List ℕ)
    → new ≡ [] → positions ≡ [] → IsRenumbered p lines kept 0 new positions
trimmed_none p lines kept new positions no_lines no_positions =
    subst (λ (ls : List LogLine). IsRenumbered p lines kept 0 ls positions) (sym no_lines)
    (subst (λ (ks : List ℕ). IsRenumbered p lines kept 0 [] ks) (sym no_positions) (record {
      long = refl;
      there = λ k l lt at is. absurd (omega arith);
      from = λ q lt. absurd (omega arith);
      few = λ k a at. absurd (let within = get_within [] k a at in omega (arith, within));
      order = λ j k a b lt is first at. absurd (let within = get_within [] k b at in omega (arith, within));
      kinds = no_kinds p;
      version = λ k d lt. absurd (omega arith);
      none = λ k d lt. absurd (omega arith);
      last = λ k l e at is. absurd (omega arith);
    }))

all_at : {X : Type 0} (P : X → Type 0) (xs : List X) (k : ℕ) (x : X) → All P xs → slice_get xs k ≡ Some x → P x
all_at P xs k x all at = subst P (get_or_from_slice_get xs k x x at) (all k x (get_within xs k x at))

-- a line that is moved has its clause
same_clause : (p : Problem) (positions : List ℕ) (l m : LogLine) → IsNoDeletion l → IsShifted positions l m
    → line_clause p m ≡ line_clause p l
same_clause p positions (line.Axiom n) m t e = ap (line_clause p) e
same_clause p positions (line.Clause k) m t e = ap (line_clause p) e
same_clause p positions (line.Lemma c) m t e = ap (line_clause p) e
same_clause p positions (line.Learnt c) m t e = ap (line_clause p) e
same_clause p positions (line.Hinted c hints) m t e = ap (line_clause p) e
same_clause p positions (line.Delete deleted) m t e = absurd t

moved_stays : (positions : List ℕ) (l m : LogLine) → IsNoDeletion l → IsShifted positions l m → IsNoDeletion m
moved_stays positions (line.Axiom n) m t e = subst IsNoDeletion (sym e) tt
moved_stays positions (line.Clause k) m t e = subst IsNoDeletion (sym e) tt
moved_stays positions (line.Lemma c) m t e = subst IsNoDeletion (sym e) tt
moved_stays positions (line.Learnt c) m t e = subst IsNoDeletion (sym e) tt
moved_stays positions (line.Hinted c hints) m t e = subst IsNoDeletion (sym e) tt
moved_stays positions (line.Delete deleted) m t e = absurd t

moved_version : (positions : List ℕ) (l m : LogLine) → IsNoDeletion l → IsOfVersion 2 l → IsShifted positions l m
    → IsOfVersion 2 m
moved_version positions (line.Axiom n) m t v e = subst (IsOfVersion 2) (sym e) tt
moved_version positions (line.Clause k) m t v e = subst (IsOfVersion 2) (sym e) tt
moved_version positions (line.Lemma c) m t v e = subst (IsOfVersion 2) (sym e) tt
moved_version positions (line.Learnt c) m t v e = absurd (omega arith)
moved_version positions (line.Hinted c hints) m t v e = subst (IsOfVersion 2) (sym e) refl
moved_version positions (line.Delete deleted) m t v e = absurd t

get_before : {X : Type 0} (xs ys : List X) (i : ℕ) (x : X) → i < length xs → slice_get (xs ++ ys) i ≡ Some x
    → slice_get xs i ≡ Some x
get_before [] ys i x lt e = absurd (omega arith)
get_before (y ∷ xs) ys zero x lt e = e
get_before (y ∷ xs) ys (suc i) x lt e = get_before xs ys i x (omega arith) e

in_map : {X Y : Type 0} (f : X → Y) (xs : List X) (x : X) → Contains xs x → Contains (map f xs) (f x)
in_map f [] x there = absurd (let lt = there.1 in omega (arith, lt))
in_map f (y ∷ xs) x (zero, lt, e) = (zero, omega arith, ap f e)
in_map f (y ∷ xs) x (suc k, lt, e) = let rest = in_map f xs x (k, omega arith, e) in
    (suc rest.0, omega (arith, rest.1), rest.2)

-- the hint of a line that is moved
hint_moved : (positions : List ℕ) (l m : LogLine) (j r : ℕ) → IsShifted positions l m → slice_get positions j ≡ Some r
    → Contains (hints_of l) (j + 1) → Contains (hints_of m) r
hint_moved positions (line.Hinted c hints) m j r moved at there =
    let less : j + 1 - 1 ≡ j = omega arith in
    let is : slice_index positions (j + 1 - 1) ≡ r =
    ap (λ i. slice_index positions i) less ∙ get_or_from_slice_get positions j r 0 at in
    let new = in_map (λ h. slice_index positions (h - 1)) hints (j + 1) there in
    let stands : Contains (map (λ h. slice_index positions (h - 1)) hints) r =
    subst (λ n. Contains (map (λ h. slice_index positions (h - 1)) hints) n) is new in
    subst (λ (x : LogLine). Contains (hints_of x) r) (sym moved) stands
hint_moved positions l m j r moved at there = absurd (let lt = there.1 in omega (arith, lt))

-- so too with a longer table
moves_on : (positions more : List ℕ) (place : ℕ) (l m : LogLine) → place ≤ length positions
    → MovesHints positions place l m → MovesHints (positions ++ more) place l m
moves_on positions more place l m within moves =
    λ j r lt at there. moves j r lt (get_before positions more j r (omega arith) at) there

module _ (p : Problem) (lines : List LogLine) (kept : List Bool) (place : ℕ) (new : List LogLine) (positions : List ℕ)
    (good : IsGood p lines) (h : IsRenumbered p lines kept place new positions) where
  -- what stood at the hints stands at the new ones
  hints_moved : (hints : List ℕ) (clauses : List (List Lit)) → AreKeptBefore kept place hints
      → AreAt p (take place lines) hints clauses
      → AllUndeleted p new (map (λ k. slice_index positions (k - 1)) hints)
      × AreAt p new (map (λ k. slice_index positions (k - 1)) hints) clauses
  hints_moved [] [] all at = (λ k d lt. absurd (omega arith), tt)
  hints_moved [] (c ∷ cs) all at = absurd at
  hints_moved (k ∷ ks) [] all at = absurd at
  hints_moved (k ∷ ks) (c ∷ cs) all at =
      let one = at.0 in
      let old = get_take place lines one.place one.line one.at in
      let t = h.there one.place one.line old.0 old.1 (all 0 0 (omega arith) one.place one.position_is old.0) in
      let before : k - 1 ≡ one.place = let e = one.position_is in omega arith in
      let is : slice_index positions (k - 1) ≡ t.0 + 1 =
      ap (λ i. slice_index positions i) before ∙ get_or_from_slice_get positions one.place (t.0 + 1) 0 t.2 in
      let there : HasClauseAt p new (slice_index positions (k - 1)) c =
      record { place = t.0; position_is = is; line = t.1; at = t.3; has = t.4 ∙ one.has } in
      let stands : IsUndeleted p new (slice_index positions (k - 1)) =
      record {
        clause = c;
        there = there;
        kept = λ j d lt. deletes_nothing (get_or new j d) (slice_index positions (k - 1)) (h.none j d lt);
      } in
      let rest = hints_moved ks cs (λ j d lt. all (suc j) d (omega arith)) at.1 in (
        All-cons (IsUndeleted p new) (slice_index positions (k - 1)) (map (λ i. slice_index positions (i - 1)) ks) stands
            rest.0,
        (there, rest.1),
      )

  kind_moved : (l m : LogLine) → IsNoDeletion l → IsOfVersion 2 l → AreKeptBefore kept place (hints_of l)
      → IsShifted positions l m → IsOfKind p (take place lines) l → IsOfKind p new m
  kind_moved (line.Axiom n) m t v all e kind = subst (IsOfKind p new) (sym e) kind
  kind_moved (line.Clause k) m t v all e kind = subst (IsOfKind p new) (sym e) kind
  kind_moved (line.Lemma c) m t v all e kind = subst (IsOfKind p new) (sym e) kind
  kind_moved (line.Learnt c) m t v all e kind = absurd (omega arith)
  kind_moved (line.Hinted c hints) m t v all e kind =
      let w = hints_moved hints kind.1.clauses all kind.1.at in
      let hinted : IsHinted p new c (map (λ h. slice_index positions (h - 1)) hints) =
      record { stand = w.0; clauses = kind.1.clauses; at = w.1; shown = kind.1.shown } in
      subst (IsOfKind p new) (sym e) (kind.0, hinted)
  kind_moved (line.Delete deleted) m t v all e kind = absurd t

  pub trim_kept : (l m : LogLine) → AreNeeded lines kept 0 → slice_get lines place ≡ Some l → IsKeptAt kept place
      → IsShifted positions l m
      → IsRenumbered p lines kept (place + 1) (new ++ m ∷ []) (positions ++ (length new + 1) ∷ [])
  trim_kept l m needed at is moved =
      let none = all_at IsNoDeletion lines place l good.none at in
      let version = all_at (IsOfVersion 2) lines place l good.version at in
      let clause = same_clause p positions l m none moved in
      let kind = kind_moved l m none version (needed.hints place l (omega arith) at is) moved (good.kinds place l at) in
      record {
        long = length_push positions (length new + 1) ∙ ap (λ n. n + 1) h.long;
        there = λ k x lt here there. elim (cases_eq k place)
            as (λ _. (q : ℕ) × (y : LogLine) × (slice_get (positions ++ (length new + 1) ∷ []) k ≡ Some (q + 1))
            × (slice_get (new ++ m ∷ []) q ≡ Some y) × (line_clause p y ≡ line_clause p x)
            × MovesHints (positions ++ (length new + 1) ∷ []) k x y) [
              | inl e ↦
                  let here' : slice_get lines place ≡ Some x = subst (λ n. slice_get lines n ≡ Some x) e here in
                  let same : l ≡ x = cc in
                  let spot : slice_get (positions ++ (length new + 1) ∷ []) k ≡ Some (length new + 1) =
                  subst (λ n. slice_get (positions ++ (length new + 1) ∷ []) n ≡ Some (length new + 1))
                  (h.long ∙ sym e) (get_last positions (length new + 1)) in
                  let hints : MovesHints positions k l m =
                  λ j r lt at there. hint_moved positions l m j r moved at there in
                  let now = subst (λ (y : LogLine). MovesHints positions k y m) same hints in (
                    length new,
                    m,
                    spot,
                    get_last new m,
                    clause ∙ ap (line_clause p) same,
                    moves_on positions ((length new + 1) ∷ []) k x m (omega (arith, h.long)) now,
                  )
              | inr ne ↦
                  let w = h.there k x (omega arith) here there in (
                    w.0,
                    w.1,
                    get_front positions ((length new + 1) ∷ []) k (w.0 + 1) w.2,
                    get_front new (m ∷ []) w.0 w.1 w.3,
                    w.4,
                    moves_on positions ((length new + 1) ∷ []) k x w.1 (omega (arith, h.long)) w.5,
                  )
            ];
        from = λ q lt. elim (cases_eq q (length new)) as
            (λ _. (k : ℕ) × (k < place + 1) × IsKeptAt kept k
            × (slice_get (positions ++ (length new + 1) ∷ []) k ≡ Some (q + 1))) [
              | inl e ↦
                  let spot : slice_get (positions ++ (length new + 1) ∷ []) place ≡ Some (length new + 1) =
                  subst (λ n. slice_get (positions ++ (length new + 1) ∷ []) n ≡ Some (length new + 1)) h.long
                  (get_last positions (length new + 1)) in
                  (place, omega arith, is, spot ∙ ap (λ n. Some (n + 1)) (sym e))
              | inr ne ↦
                  let long = length_push new m in
                  let w = h.from q (omega arith) in
                  (w.0, omega (arith, w.1), w.2, get_front positions ((length new + 1) ∷ []) w.0 (q + 1) w.3)
            ];
        few = λ k a there.
            let long = length_push new m in
            elim (get_push positions (length new + 1) k a there)
            [ inl old ↦ let few = h.few k a old in omega arith | inr end ↦ omega (arith, end.1) ];
        order = λ j k a b lt is first there. elim (get_push positions (length new + 1) k b there) [
          | inl old ↦
              let within = get_within positions k b old in
              h.order j k a b lt is (get_before positions ((length new + 1) ∷ []) j a (omega arith) first) old
          | inr end ↦
              let few = h.few j a (get_before positions ((length new + 1) ∷ []) j a (omega (arith, end.0)) first) in
              omega (arith, end.1)
        ];
        kinds = kind_push p new m h.kinds kind;
        version = All-push (IsOfVersion 2) new m h.version (moved_version positions l m none version moved);
        none = All-push IsNoDeletion new m h.none (moved_stays positions l m none moved);
        last = λ k x e here there.
            let e' : k ≡ place = omega arith in
            let here' : slice_get lines place ≡ Some x = subst (λ n. slice_get lines n ≡ Some x) e' here in
            let same : l ≡ x = cc in
            (new, m, refl, clause ∙ ap (line_clause p) same);
      }

  pub trim_passed : slice_get kept place ≡ Some false
      → IsRenumbered p lines kept (place + 1) new (positions ++ length new ∷ [])
  trim_passed out = record {
    long = length_push positions (length new) ∙ ap (λ n. n + 1) h.long;
    there = λ k x lt here there. elim (cases_eq k place)
        as (λ _. (q : ℕ) × (y : LogLine) × (slice_get (positions ++ length new ∷ []) k ≡ Some (q + 1))
        × (slice_get new q ≡ Some y) × (line_clause p y ≡ line_clause p x)
        × MovesHints (positions ++ length new ∷ []) k x y) [
          | inl e ↦ absurd (let there' : slice_get kept place
              ≡ Some true = subst (λ n. slice_get kept n ≡ Some true) e there in
              let both : Some true ≡ Some false = sym there' ∙ out in let one : true ≡ false = cc in
              false≢true (sym one))
          | inr ne ↦
              let w = h.there k x (omega arith) here there in (
                w.0,
                w.1,
                get_front positions (length new ∷ []) k (w.0 + 1) w.2,
                w.3,
                w.4,
                moves_on positions (length new ∷ []) k x w.1 (omega (arith, h.long)) w.5,
              )
        ];
    from = λ q lt. let w = h.from q lt in
        (w.0, omega (arith, w.1), w.2, get_front positions (length new ∷ []) w.0 (q + 1) w.3);
    few = λ k a there. elim (get_push positions (length new) k a there)
        [ inl old ↦ h.few k a old | inr end ↦ omega (arith, end.1) ];
    order = λ j k a b lt is first there. elim (get_push positions (length new) k b there) [
      | inl old ↦
          let within = get_within positions k b old in
          h.order j k a b lt is (get_before positions (length new ∷ []) j a (omega arith) first) old
      | inr end ↦
          let at : k ≡ place = end.0 ∙ h.long in
          absurd (let there' : slice_get kept place ≡ Some true = subst (λ n. slice_get kept n ≡ Some true) at is in
          let both : Some true ≡ Some false = sym there' ∙ out in let one : true ≡ false = cc in
          false≢true (sym one))
    ];
    kinds = h.kinds;
    version = h.version;
    none = h.none;
    last = λ k x e here there.
        let e' : k ≡ place = omega arith in
        absurd (let there' : slice_get kept place ≡ Some true = subst (λ n. slice_get kept n ≡ Some true) e' there in
        let both : Some true ≡ Some false = sym there' ∙ out in let one : true ≡ false = cc in
        false≢true (sym one));
  }

-- with the last line only such lines were kept as a later one has as hints
none_left : (p : Problem) (lines : List LogLine) (kept : List Bool) (place : ℕ) (new : List LogLine)
    (positions : List ℕ) → AreNeeded lines kept 0 → place ≡ length lines → IsRenumbered p lines kept place new positions
    → IsTrimmed new
none_left p lines kept place new positions needed end h = λ q lt.
    let a = h.from q (omega arith) in
    elim (needed.only a.0 a.2) as (λ _. IsHintLater new q) [
      | inl last ↦ absurd (no_later q lt a last)
      | inr w ↦
          let within = get_within lines w.place w.line w.at in
          let t = h.there w.place w.line (omega arith) w.at w.kept_too in
          let over = h.order a.0 w.place (q + 1) (t.0 + 1) w.later w.kept_too a.3 t.2 in
          record {
            place = t.0;
            later = omega (arith, over);
            line = t.1;
            at = t.3;
            hint = t.5 a.0 (q + 1) w.later a.3 w.hint;
          }
    ]
  where
    -- the last line that was kept is the last new one
    no_later : (q : ℕ) → q + 1 < length new
        → (a : (k : ℕ) × (k < place) × IsKeptAt kept k × (slice_get positions k ≡ Some (q + 1)))
        → length lines ≡ a.0 + 1 → ⊥
    no_later q lt a last =
        let b = h.from (q + 1) lt in
        let within = b.1 in
        elim (cases_eq b.0 a.0) as (λ _. ⊥) [
          | inl e ↦
              let there : slice_get positions a.0 ≡ Some (q + 1 + 1) =
              subst (λ n. slice_get positions n ≡ Some (q + 1 + 1)) e b.3 in
              let both : Some (q + 1) ≡ Some (q + 1 + 1) = sym a.3 ∙ there in
              let one : q + 1 ≡ q + 1 + 1 = cc in
              absurd (omega (arith, one))
          | inr ne ↦ let over = h.order b.0 a.0 (q + 1 + 1) (q + 1) (omega arith) a.2 b.3 a.3 in
              absurd (omega (arith, over))
        ]

-- what was trimmed is a refutation
pub trimmed_refutes : (p : Problem) (s t : Section) (kept : List Bool) (place : ℕ) (positions : List ℕ) → FitsTypes p
    → AreNeeded s.lines kept 0 → place ≡ length s.lines
    → (IsGood p s.lines → IsRenumbered p s.lines kept place t.lines positions) → t.first ≡ 1
    → length t.lines ≤ 4294967294 → RefutesProblem p s → IsRefutationOf p t
trimmed_refutes p s t kept place positions fits needed end trimmed first few h =
    let w = trimmed (record { kinds = h.valid.of_kind; version = h.version; none = h.no_deletions }) in
    let ends = h.valid.ends in
    let k : ℕ = length ends.0 in
    let long : length s.lines ≡ k + 1 = ap length ends.2 ∙ length_push ends.0 ends.1 in
    let at : slice_get s.lines k ≡ Some ends.1 =
    ap (λ (ls : List LogLine). slice_get ls k) ends.2 ∙ get_last ends.0 ends.1 in
    let last = w.last k ends.1 (end ∙ long) at (needed.last k long) in
    record {
      valid = record { of_kind = w.kinds; ends = (last.0, last.1, last.2, last.3 ∙ ends.3) };
      spelled = spelled_lines p fits t.lines few w.version w.kinds;
      no_deletions = w.none;
      first = first;
      few = few;
      trimmed = none_left p s.lines kept place t.lines positions needed end w;
    }

-- where all lines are kept, each but the last is at a hint of a later one
all_trimmed : (lines : List LogLine) (kept : List Bool) → All IsTrue kept → AreNeeded lines kept 0 → IsTrimmed lines
all_trimmed lines kept all needed k lt =
    let within : k < length kept = omega (arith, needed.long) in
    let is : get_or kept k true ≡ true = all k true within in
    elim (needed.only k (slice_get-get_or kept k true within ∙ ap Some is)) as (λ _. IsHintLater lines k) [
      | inl last ↦ absurd (omega (arith, lt, last))
      | inr w ↦ record { place = w.place; later = w.later; line = w.line; at = w.at; hint = w.hint }
    ]

-- a section that needs all its lines is a refutation
pub whole_refutes : (p : Problem) (s : Section) (kept : List Bool) → FitsTypes p → AreNeeded s.lines kept 0
    → All IsTrue kept → RefutesProblem p s → IsRefutationOf p s
whole_refutes p s kept fits needed all h = record {
  valid = h.valid;
  spelled = spelled_lines p fits s.lines h.few h.version h.valid.of_kind;
  no_deletions = h.no_deletions;
  first = h.first;
  few = h.few;
  trimmed = all_trimmed s.lines kept all needed;
}
