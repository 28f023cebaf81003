-- The reading law, by induction on the assertion.
use Rattle.std.specs.Prelude.{◌≡◌, ◌≢◌, ◌↔◌, ℕ, zero, suc, ◌<◌, List, Bool, true, false, Some, None, MatchBool}
use Rattle.std.specs.Prelude.{Contains}
use Rattle.std.specs.FinMap.{get}
use Rattle.std.proofs.lemmas.Bool.{cases_eq}
use Rattle.std.proofs.Common.{refl, sym, ◌∙◌, ap, subst, inl, inr, arith}
use Rattle.gh_ast.specs.Plain.{Assertion, empty, comparison, points_to, cell, segment, star, cases, Assertions}
use Rattle.gh_ast.specs.Plain.{no_assertions, assertion_first}
use Rattle.gh_assert.specs.Heaps.{Heap, IsPart, IsCell}
use Rattle.gh_assert.specs.Meaning.{Store, Meaning, MeaningAll, value, truth}
use Rattle.gh_assert.proofs.Unique.{left_at, right_at, part_left, part_right}
use Rattle.gh_assert.specs.Walks.{succ, walk, Allocated, Between}
use Rattle.gh_assert.specs.Ownership.{Owned}
use Rattle.gh_assert.specs.Laws.{IsReadOff}
use Rattle.gh_assert.specs.Reading.{Covers, CoversAny, Reads, ReadsAll, HasNames, HaveNames}
use Rattle.gh_assert.proofs.Rows.{between_itself}
use Rattle.gh_assert.proofs.Cells.{no_cells, no_cells_part, get_nothing, by_look_ups, allocated_or, succ_at, at_succ}
use Rattle.gh_assert.proofs.Cells.{allocated_before}
use Rattle.gh_assert.proofs.Betweens.{between_met, met_between, meets_between}
use Rattle.gh_assert.proofs.Segments.{segment_distance, segment_meets, segment_covers, segment_from}
use Rattle.gh_assert.proofs.Unions.{parts_apart, union, get_union, union_part, in_either, one_cell, is_one_cell}
use Rattle.gh_assert.proofs.Owned.{walk_suc, GoesBack, GoesOn, apart_everywhere, all_everywhere}

-- one side of a choice
pub at_choice : (t : Bool) (F G C : Type 0) → (F → C) → (G → C) → MatchBool t F G → C
at_choice true F G C f g u = f u
at_choice false F G C f g u = g u

at_choices : (t : Bool) (F G F' G' C : Type 0) → (F → F' → C) → (G → G' → C) → MatchBool t F G → MatchBool t F' G' → C
at_choices true F G F' G' C f g u v = f u v
at_choices false F G F' G' C f g u v = g u v

to_choice : (t : Bool) (F G F' G' : Type 0) → (F → F') → (G → G') → MatchBool t F G → MatchBool t F' G'
to_choice true F G F' G' f g u = f u
to_choice false F G F' G' f g u = g u

pub only_cell : (x v : ℕ) (a : Heap) → IsCell x v a → (z : ℕ) → Allocated a z → x ≡ z
only_cell x v a c z (w, e) =
    elim (cases_eq z x) [ inl same ↦ sym same | inr away ↦ let none : get a z ≡ None = c.elsewhere z away in absurd cc ]

-- the cells of a part that meets an assertion are those that the assertion covers
mutual
  pub covered : (f : Assertion) (s : Store) (a h : Heap) → Meaning f s a → IsPart a h → (z : ℕ) → Allocated a z
      → Covers f s h z
  covered empty s a h m p z (v, e) = let none : get a z ≡ None = m z in absurd cc
  covered (comparison l e r) s a h m p z (v, at) = let none : get a z ≡ None = m.0 z in absurd cc
  covered (points_to at to) s a h m p z there = only_cell (s at.name) (value s to) a m z there
  covered (cell at) s a h (to, m) p z there = only_cell (s at.name) to a m z there
  covered (segment x y) s a h (n, m) p z there =
      between_met h (value s x) (value s y) z n (segment_distance n (value s x) (value s y) a h m p)
      (segment_meets n (value s x) (value s y) a h m p z there)
  covered (star fs) s a h m p z there = covered_all fs s a h m p z there
  covered (cases t f g) s a h m p z there =
      to_choice (truth s t) (Meaning f s a) (Meaning g s a) (Covers f s h z) (Covers g s h z)
      (λ u. covered f s a h u p z there) (λ u. covered g s a h u p z there) m

  covered_all : (fs : Assertions) (s : Store) (a h : Heap) → MeaningAll fs s a → IsPart a h → (z : ℕ) → Allocated a z
      → CoversAny fs s h z
  covered_all no_assertions s a h m p z (v, e) = let none : get a z ≡ None = m z in absurd cc
  covered_all (assertion_first f fs) s a h (b, c, split, m, ms) p z (v, e) =
      elim (in_either a b c z v (split.union z) e) [
        | inl there ↦ inl (covered f s b h m (part_left a b c h split p) z (v, there))
        | inr there ↦ inr (covered_all fs s c h ms (part_right a b c h split p) z (v, there))
      ]

mutual
  pub covering : (f : Assertion) (s : Store) (a h : Heap) → Meaning f s a → IsPart a h → (z : ℕ) → Covers f s h z
      → Allocated a z
  covering empty s a h m p z c = absurd c
  covering (comparison l e r) s a h m p z c = absurd c
  covering (points_to at to) s a h m p z c = subst (Allocated a) c (value s to, m.here)
  covering (cell at) s a h (to, m) p z c = subst (Allocated a) c (to, m.here)
  covering (segment x y) s a h (n, m) p z (b, other) =
      segment_covers n (value s x) (value s y) a h m p z
      (meets_between h (value s x) (value s y) z n (segment_distance n (value s x) (value s y) a h m p) b other)
  covering (star fs) s a h m p z c = covering_any fs s a h m p z c
  covering (cases t f g) s a h m p z c =
      at_choices (truth s t) (Meaning f s a) (Meaning g s a) (Covers f s h z) (Covers g s h z) (Allocated a z)
      (λ u v. covering f s a h u p z v) (λ u v. covering g s a h u p z v) m c

  covering_any : (fs : Assertions) (s : Store) (a h : Heap) → MeaningAll fs s a → IsPart a h → (z : ℕ)
      → CoversAny fs s h z → Allocated a z
  covering_any no_assertions s a h m p z c = absurd c
  covering_any (assertion_first f fs) s a h (b, c, split, m, ms) p z (inl u) =
      let there = covering f s b h m (part_left a b c h split p) z u in
      (there.0, left_at (get a z) (get b z) (get c z) there.0 (split.union z) there.1)
  covering_any (assertion_first f fs) s a h (b, c, split, m, ms) p z (inr u) =
      let there = covering_any fs s c h ms (part_right a b c h split p) z u in
      (there.0, right_at (get a z) (get b z) (get c z) there.0 (split.disjoint z) (split.union z) there.1)

-- a part that meets an assertion makes it read true, whatever has a name
mutual
  pub reads : (f : Assertion) (s : Store) (a h : Heap) (V : List ℕ) → Meaning f s a → IsPart a h → Reads f s h V
  reads empty s a h V m p = tt
  reads (comparison l e r) s a h V m p = m.1
  reads (points_to at to) s a h V m p = p (s at.name) (value s to) m.here
  reads (cell at) s a h V (to, m) p = (to, p (s at.name) to m.here)
  reads (segment x y) s a h V (n, m) p = between_itself (segment_distance n (value s x) (value s y) a h m p)
  reads (star fs) s a h V m p = reads_all fs s a h V m p
  reads (cases t f g) s a h V m p =
      to_choice (truth s t) (Meaning f s a) (Meaning g s a) (Reads f s h V) (Reads g s h V) (λ u. reads f s a h V u p)
      (λ u. reads g s a h V u p) m

  reads_all : (fs : Assertions) (s : Store) (a h : Heap) (V : List ℕ) → MeaningAll fs s a → IsPart a h
      → ReadsAll fs s h V
  reads_all no_assertions s a h V m p = tt
  reads_all (assertion_first f fs) s a h V (b, c, split, m, ms) p = (
    reads f s b h V m (part_left a b c h split p),
    reads_all fs s c h V ms (part_right a b c h split p),
    λ z named u v.
        parts_apart a b c z split (covering f s b h m (part_left a b c h split p) z u)
        (covering_any fs s c h ms (part_right a b c h split p) z v),
  )

-- footprints go backwards
cell_back : (V : List ℕ) (h : Heap) (x : ℕ) → Contains V x → GoesBack V h (λ z. x ≡ z)
cell_back V h x named c same un = absurd (un (subst (Contains V) same named))

segment_back : (V : List ℕ) (h : Heap) (x y : ℕ) → Contains V x → GoesBack V h (λ z. Between h x z y × (z ≢ y))
segment_back V h x y named c (b, other) un = from b.at b.passes (met_between h x y c b other)
  where
    from : (i : ℕ) → walk h i x ≡ c → i < b.end → (p : ℕ) × (get h p ≡ Some c) × (Between h x p y × (p ≢ y))
    from zero e l = absurd (un (subst (Contains V) e named))
    from (suc i) e l = (
      walk h i x,
      at_succ h (walk h i x) (allocated_before h b.distance i (omega arith)) ∙ ap Some (sym (walk_suc h i x) ∙ e),
      between_met h x y (walk h i x) b.end b.distance (i, omega arith, refl),
    )

choice_back : (t : Bool) (V : List ℕ) (h : Heap) (P Q : ℕ → Type 0) → GoesBack V h P → GoesBack V h Q
    → GoesBack V h (λ z. MatchBool t (P z) (Q z))
choice_back true V h P Q first second = first
choice_back false V h P Q first second = second

mutual
  pub goes_back : (f : Assertion) (s : Store) (h : Heap) (V : List ℕ) → HasNames f s h V → GoesBack V h (Covers f s h)
  goes_back empty s h V n c here un = absurd here
  goes_back (comparison l e r) s h V n c here un = absurd here
  goes_back (points_to at to) s h V n c here un = cell_back V h (s at.name) n.0 c here un
  goes_back (cell at) s h V n c here un = cell_back V h (s at.name) n.0 c here un
  goes_back (segment x y) s h V n c here un = segment_back V h (value s x) (value s y) n.0 c here un
  goes_back (star fs) s h V n c here un = go_back fs s h V n c here un
  goes_back (cases t f g) s h V n c here un =
      choice_back (truth s t) V h (Covers f s h) (Covers g s h) (goes_back f s h V n.0) (goes_back g s h V n.1) c here
      un

  go_back : (fs : Assertions) (s : Store) (h : Heap) (V : List ℕ) → HaveNames fs s h V → GoesBack V h (CoversAny fs s h)
  go_back no_assertions s h V n c here un = absurd here
  go_back (assertion_first f fs) s h V n c (inl here) un = let from = goes_back f s h V n.0 c here un in
      (from.0, from.1, inl from.2)
  go_back (assertion_first f fs) s h V n c (inr here) un = let from = go_back fs s h V n.1 c here un in
      (from.0, from.1, inr from.2)

-- footprints go onwards
cell_on : (V : List ℕ) (h : Heap) (x : ℕ) → Contains V (succ h x) → GoesOn V h (λ z. x ≡ z)
cell_on V h x named p c same e un = absurd (un (subst (Contains V) (ap (succ h) same ∙ succ_at h p c e) named))

segment_on : (V : List ℕ) (h : Heap) (x y : ℕ) → Contains V y → GoesOn V h (λ z. Between h x z y × (z ≢ y))
segment_on V h x y named p c (b, other) e un =
    let early : b.at < b.end = met_between h x y p b other in (
      record {
        end = b.end;
        distance = b.distance;
        at = suc b.at;
        within = omega arith;
        passes = walk_suc h b.at x ∙ ap (succ h) b.passes ∙ succ_at h p c e;
      },
      λ same. un (subst (Contains V) (sym same) named),
    )

mutual
  pub goes_on : (f : Assertion) (s : Store) (h : Heap) (V : List ℕ) → HasNames f s h V → GoesOn V h (Covers f s h)
  goes_on empty s h V n p c here e un = absurd here
  goes_on (comparison l o r) s h V n p c here e un = absurd here
  goes_on (points_to at to) s h V n p c here e un = cell_on V h (s at.name) n.1 p c here e un
  goes_on (cell at) s h V n p c here e un = cell_on V h (s at.name) n.1 p c here e un
  goes_on (segment x y) s h V n p c here e un = segment_on V h (value s x) (value s y) n.1 p c here e un
  goes_on (star fs) s h V n p c here e un = go_on fs s h V n p c here e un
  goes_on (cases t f g) s h V n p c here e un =
      to_choice (truth s t) (Covers f s h p) (Covers g s h p) (Covers f s h c) (Covers g s h c)
      (λ u. goes_on f s h V n.0 p c u e un) (λ u. goes_on g s h V n.1 p c u e un) here

  go_on : (fs : Assertions) (s : Store) (h : Heap) (V : List ℕ) → HaveNames fs s h V → GoesOn V h (CoversAny fs s h)
  go_on no_assertions s h V n p c here e un = absurd here
  go_on (assertion_first f fs) s h V n p c (inl here) e un = inl (goes_on f s h V n.0 p c here e un)
  go_on (assertion_first f fs) s h V n p c (inr here) e un = inr (go_on fs s h V n.1 p c here e un)

-- what reads true is met by a part
abbrev IsMet : Assertion → Store → Heap → Type 0
IsMet f s h = (a : Heap) × IsPart a h × Meaning f s a

abbrev AreMet : Assertions → Store → Heap → Type 0
AreMet fs s h = (a : Heap) × IsPart a h × MeaningAll fs s a

joined : (f : Assertion) (fs : Assertions) (s : Store) (h : Heap) → IsMet f s h → AreMet fs s h
    → ((z : ℕ) → Covers f s h z → CoversAny fs s h z → ⊥) → AreMet (assertion_first f fs) s h
joined f fs s h (a, p, m) (b, q, ms) apart = (
  union a b,
  union_part a b h p q,
  (
    a,
    b,
    record {
      disjoint = λ x. elim (allocated_or a x) [
        | inr out ↦ inl out
        | inl u ↦ elim (allocated_or b x)
            [ inr out ↦ inr out | inl v ↦ absurd (apart x (covered f s a h m p x u) (covered_all fs s b h ms q x v)) ]
      ];
      union = get_union a b;
    },
    m,
    ms,
  ),
)

cell_met : (h : Heap) (x v : ℕ) → get h 0 ≡ None → get h x ≡ Some v
    → IsPart (one_cell x v) h × IsCell x v (one_cell x v)
cell_met h x v null here =
    let is : IsCell x v (one_cell x v) =
    is_one_cell x v (λ e. let none : get h x ≡ None = subst (λ q. get h q ≡ None) (sym e) null in absurd cc) in (
      λ q w e. let same : x ≡ q = only_cell x v (one_cell x v) is q (w, e) in
          cc (subst (λ r. get (one_cell x v) r ≡ Some v) same is.here, subst (λ r. get h r ≡ Some v) same here),
      is,
    )

choice_met : (t : Bool) (f g : Assertion) (s : Store) (h : Heap) (P Q : Type 0) → (P → IsMet f s h) → (Q → IsMet g s h)
    → MatchBool t P Q → (a : Heap) × IsPart a h × MatchBool t (Meaning f s a) (Meaning g s a)
choice_met true f g s h P Q first second r = first r
choice_met false f g s h P Q first second r = second r

mutual
  is_met : (f : Assertion) (s : Store) (h : Heap) (V : List ℕ) → get h 0 ≡ None → Owned V h → HasNames f s h V
      → Reads f s h V → IsMet f s h
  is_met empty s h V null own n r = (no_cells, no_cells_part h, get_nothing)
  is_met (comparison l e o) s h V null own n r = (no_cells, no_cells_part h, (get_nothing, r))
  is_met (points_to at to) s h V null own n r = let one = cell_met h (s at.name) (value s to) null r in
      (one_cell (s at.name) (value s to), one.0, one.1)
  is_met (cell at) s h V null own n (v, r) = let one = cell_met h (s at.name) v null r in
      (one_cell (s at.name) v, one.0, (v, one.1))
  is_met (segment x y) s h V null own n b = let part = segment_from h b.end (value s x) (value s y) null b.distance in
      (part.1, part.2, (part.0, part.3))
  is_met (star fs) s h V null own n r = are_met fs s h V null own n r
  is_met (cases t f g) s h V null own n r =
      choice_met (truth s t) f g s h (Reads f s h V) (Reads g s h V) (is_met f s h V null own n.0)
      (is_met g s h V null own n.1) r

  are_met : (fs : Assertions) (s : Store) (h : Heap) (V : List ℕ) → get h 0 ≡ None → Owned V h → HaveNames fs s h V
      → ReadsAll fs s h V → AreMet fs s h
  are_met no_assertions s h V null own n r = (no_cells, no_cells_part h, get_nothing)
  are_met (assertion_first f fs) s h V null own n (r, rs, apart) =
      joined f fs s h (is_met f s h V null own n.0 r) (are_met fs s h V null own n.1 rs)
      (apart_everywhere V h own (Covers f s h) (CoversAny fs s h) (goes_back f s h V n.0) (go_back fs s h V n.1) apart)

whole_read : (V : List ℕ) (h : Heap) (s : Store) (f : Assertion) → Meaning f s h
    → Reads f s h V × ((z : ℕ) → Contains V z → Allocated h z ↔ Covers f s h z)
whole_read V h s f m =
    let all : IsPart h h = λ x v e. e in
    (reads f s h h V m all, λ z named. (covered f s h h m all z, covering f s h h m all z))

whole_met : (V : List ℕ) (h : Heap) (s : Store) (f : Assertion) → get h 0 ≡ None → Owned V h → HasNames f s h V
    → Reads f s h V → ((z : ℕ) → Contains V z → Allocated h z ↔ Covers f s h z) → Meaning f s h
whole_met V h s f null own n r agree =
    let met = is_met f s h V null own n r in
    let every : (z : ℕ) → Allocated h z → Covers f s h z =
    all_everywhere V h own (Covers f s h) (goes_on f s h V n) (λ z named. (agree z named).0) in
    let same : met.0 ≡ h = by_look_ups met.0 h (λ q. elim (allocated_or met.0 q) [
      | inl (v, e) ↦ e ∙ sym (met.1 q v e)
      | inr none ↦ elim (allocated_or h q) [
        | inr out ↦ none ∙ sym out
        | inl a ↦ let there : Allocated met.0 q = covering f s met.0 h met.2 met.1 q (every q a) in let e = there.1 in
            absurd cc
      ]
    ]) in
    subst (Meaning f s) same met.2

pub reading : (V : List ℕ) (h : Heap) (s : Store) (f : Assertion) → get h 0 ≡ None → Owned V h → HasNames f s h V
    → IsReadOff V h s f
reading V h s f null own n = record {
  part = (is_met f s h V null own n, λ met. reads f s met.0 h V met.2 met.1);
  footprint = λ a p m z. (covered f s a h m p z, covering f s a h m p z);
  whole = (whole_read V h s f, λ r. whole_met V h s f null own n r.0 r.1);
}
