-- Parts that are taken one after another.
use Rattle.std.specs.Prelude.{◌≡◌, ◌≢◌, ◌↔◌, ℕ, zero, suc, ◌<◌, ◌-◌, Option, Some, None, Bool, true, false, ◌==◌}
use Rattle.std.specs.Prelude.{is_some, OnSome, cond}
use Rattle.std.specs.Cmp.{nat_cmp_total}
use Rattle.std.specs.FinMap.{get, insert, remove, len, len-remove, empty_of_len}
use Rattle.std.proofs.lemmas.Bool.{cases_eq, ne_eqb}
use Rattle.std.proofs.Common.{refl, sym, ◌∙◌, ap, subst, inl, inr, arith, eqb, eq-eqb}
use Rattle.std.specs.Option.{option_eq}
use Rattle.gh_ast.specs.declared.Occ.{Occ}
use Rattle.gh_ast.specs.declared.Operand.{Operand}
use Rattle.gh_ast.specs.Plain.{Assertion, comparison, points_to, cell, Assertions, assertion_first}
use Rattle.gh_assert.specs.Heaps.{Heap, Splits, IsEmpty, IsCell, Segment, or_else}
use Rattle.gh_assert.specs.Meaning.{Store, Meaning, MeaningAll, value, agrees}
use Rattle.gh_assert.specs.Footprints.{Takes, NoPart, Took}
use Rattle.gh_assert.proofs.Cells.{by_look_ups, no_cells, get_nothing, get_put, get_beside}
use Rattle.gh_assert.proofs.Unique.{get_removed, get_kept, one_footprint}
use Rattle.gh_assert.proofs.Unions.{union, get_union, one_cell, is_one_cell, split_part}
use Rattle.gh_assert.proofs.Splitting.{associative, rest, symmetric}
use Rattle.gh_assert.proofs.Frames.{in_whole, not_in_frame, put_beside, remove_beside, set_aside, aside_apart}

-- P is still to be taken of what is left, and then Q is taken of the whole
pub record GoesOn (Q P : Heap → Type 0) (h left : Heap) : Type 0 where
  pub on : (r : Heap) → Takes P left r → Takes Q h r
  pub back : NoPart P left → NoPart Q h

pub goes_begin : (Q : Heap → Type 0) (h : Heap) → GoesOn Q Q h h
goes_begin Q h = record { on = λ r t. t; back = λ none. none }

pub empty_splits : (h : Heap) → Splits h no_cells h
empty_splits h = record {
  disjoint = λ q. inl (get_nothing q);
  union = λ q. ap (λ o. or_else o (get h q)) (sym (get_nothing q));
}

-- what holds of the empty heap alone takes nothing
pub takes_nothing : (P : Heap → Type 0) (h : Heap) → P no_cells → Takes P h h
takes_nothing P h holds = record { part = no_cells; splits = empty_splits h; meets = holds }

-- a cell that is allocated comes back
put_back : (h : Heap) (x v : ℕ) → get h x ≡ Some v → insert (remove h x) x v ≡ h
put_back h x v e = by_look_ups (insert (remove h x) x v) h (λ q. elim (cases_eq q x) [
  | inl same ↦ subst (λ r. get (insert (remove h x) x v) r ≡ get h r) (sym same) (get_put (remove h x) x v ∙ sym e)
  | inr away ↦ get_beside (remove h x) x v q away ∙ get_kept h x q away
])

gone_again : (h : Heap) (x v : ℕ) → get h x ≡ None → h ≡ remove (insert h x v) x
gone_again h x v e = by_look_ups h (remove (insert h x v) x) (λ q. elim (cases_eq q x) [
  | inl same ↦ subst (λ r. get h r ≡ get (remove (insert h x v) x) r) (sym same)
      (e ∙ sym (get_removed (insert h x v) x))
  | inr away ↦ sym (get_kept (insert h x v) x q away ∙ get_beside h x v q away)
])

-- the cell at x is a part, and the rest is the heap without it
pub cell_splits : (h : Heap) (x v : ℕ) → get h x ≡ Some v → Splits h (one_cell x v) (remove h x)
cell_splits h x v e =
    subst (λ k. Splits k (one_cell x v) (remove h x)) (put_back h x v e)
    (put_beside (remove h x) no_cells (remove h x) x v (empty_splits (remove h x)) (get_removed h x))

pub cell_taken : (h : Heap) (x v : ℕ) → x ≢ 0 → get h x ≡ Some v → Takes (IsCell x v) h (remove h x)
cell_taken h x v n e = record { part = one_cell x v; splits = cell_splits h x v e; meets = is_one_cell x v n }

-- a segment that goes on from x
abbrev pub FromTo : ℕ → ℕ → Heap → Type 0
FromTo x y a = (n : ℕ) × Segment n x y a

-- a step along a segment
pub segment_goes : (Q : Heap → Type 0) (h left : Heap) (x y z : ℕ) → GoesOn Q (FromTo x y) h left → x ≢ y → x ≢ 0
    → get left x ≡ Some z → GoesOn Q (FromTo z y) h (remove left x)
segment_goes Q h left x y z goes other not_null e = record {
  on = λ r t. goes.on r (longer r t);
  back = λ none. goes.back (λ a b split (n, s). shorter none a b split n s);
}
  where
    longer : (r : Heap) → Takes (FromTo z y) (remove left x) r → Takes (FromTo x y) left r
    longer r t =
        let free : get t.part x ≡ None =
        part_free (get (remove left x) x) (get t.part x) (get r x) (t.splits.union x) (get_removed left x) in
        let free' : get r x ≡ None =
        rest_free (get (remove left x) x) (get t.part x) (get r x) (t.splits.union x) (get_removed left x) in
        record {
          part = insert t.part x z;
          splits =
              subst (λ k. Splits k (insert t.part x z) r) (put_back left x z e)
              (put_beside (remove left x) t.part r x z t.splits free');
          meets = (
            suc t.meets.0,
            (
              other,
              not_null,
              z,
              get_put t.part x z,
              subst (Segment t.meets.0 z y) (gone_again t.part x z free) t.meets.1,
            ),
          );
        }
      where
        part_free : (o a b : Option ℕ) → o ≡ or_else a b → o ≡ None → a ≡ None
        part_free o None b u n = refl
        part_free o (Some v) b u n = absurd cc

        rest_free : (o a b : Option ℕ) → o ≡ or_else a b → o ≡ None → b ≡ None
        rest_free o None b u n = sym u ∙ n
        rest_free o (Some v) b u n = absurd cc

    shorter : NoPart (FromTo z y) (remove left x) → (a b : Heap) → Splits left a b → (n : ℕ) → Segment n x y a → ⊥
    shorter none a b split zero s = other s.0
    shorter none a b split (suc n) (_, _, w, at, seg) =
        let there : get left x ≡ Some w = in_whole left a b split x w at in
        let same : w ≡ z = cc in
        none (remove a x) b (remove_beside left a b x split (not_in_frame left a b split x (w, at)))
        (n, subst (λ v. Segment n v y (remove a x)) same seg)

-- a segment that can't go on
pub segment_ends : (left : Heap) (x y : ℕ) → x ≢ y → get left x ≡ None → NoPart (FromTo x y) left
segment_ends left x y other none a b split (zero, s) = other s.0
segment_ends left x y other none a b split (suc n, (_, _, w, at, seg)) =
    let there : get left x ≡ Some w = in_whole left a b split x w at in absurd cc

pub no_cell : (h : Heap) (x : ℕ) → get h x ≡ None → (v : ℕ) → NoPart (IsCell x v) h
no_cell h x none v a b split is = let there : get h x ≡ Some v = in_whole h a b split x v is.here in absurd cc

pub other_cell : (h : Heap) (x v w : ℕ) → get h x ≡ Some w → w ≢ v → NoPart (IsCell x v) h
other_cell h x v w e n a b split is = let there : get h x ≡ Some v = in_whole h a b split x v is.here in
    let same : w ≡ v = cc in n same

-- one member of a star after another
pub star_goes : (Q : Heap → Type 0) (f : Assertion) (fs : Assertions) (s : Store) (h left later : Heap)
    → GoesOn Q (MeaningAll (assertion_first f fs) s) h left → Takes (Meaning f s) left later
    → GoesOn Q (MeaningAll fs s) h later
star_goes Q f fs s h left later goes took = record {
  on = λ r t. goes.on r (let both = associative left took.part later t.part r took.splits t.splits in
      record { part = both.0; splits = both.1; meets = (took.part, t.part, both.2, took.meets, t.meets) });
  back = λ none. goes.back (λ c d split (a, b, parts, m, ms).
      let outer : Splits left a (union b d) = set_aside left c d a b split parts in
      let one : a ≡ took.part =
      one_footprint f s a took.part left m took.meets (split_part left a (union b d) outer)
      (split_part left took.part later took.splits) in
      let same : union b d ≡ later =
      rest left took.part (union b d) later (subst (λ k. Splits left k (union b d)) one outer) took.splits in
      none b d (subst (λ k. Splits k b d) same
      (record { disjoint = aside_apart left c d a b split parts; union = λ q. get_union b d q })) ms);
}

pub star_fails : (f : Assertion) (fs : Assertions) (s : Store) (left : Heap) → NoPart (Meaning f s) left
    → NoPart (MeaningAll (assertion_first f fs) s) left
star_fails f fs s left none c d split (a, b, parts, m, ms) = none a (union b d) (set_aside left c d a b split parts) m

-- a heap has fewer cells without one
pub fewer : (h : Heap) (x v : ℕ) → get h x ≡ Some v → len (remove h x) < len h
fewer h x v e =
    let gone : len (remove h x) ≡ len h - 1 =
    len-remove nat_cmp_total h x ∙ ap (λ o. cond (is_some o) (len h - 1) (len h)) e in
    elim (cases_eq (len h) 0) [
      | inl none ↦ let nothing : get h x ≡ None = ap (λ k. get k x) (empty_of_len h none) ∙ get_nothing x in absurd cc
      | inr some ↦ omega (arith, gone, some)
    ]

-- a comparison that is true takes nothing, and one that isn't has no part
pub compared_takes : (f : Assertion) (l r : Operand) (e b : Bool) (s : Store) (h : Heap) → f ≡ comparison l e r
    → b ≡ agrees e (value s l == value s r) → Took b (Meaning f s) h h
compared_takes f l r e true s h is holds =
    subst (λ g. Takes (Meaning g s) h h) (sym is)
    (takes_nothing (Meaning (comparison l e r) s) h (get_nothing, sym holds))
compared_takes f l r e false s h is fails =
    subst (λ g. NoPart (Meaning g s) h) (sym is)
    (λ a b split m. let holds : agrees e (value s l == value s r) ≡ true = m.1 in absurd cc)

-- what taking a place answers to `acc`
pub cell_took : (f : Assertion) (at : Occ) (s : Store) (h : Heap) (o : Option ℕ) → f ≡ cell at → o ≡ get h (s at.name)
    → OnSome o (s at.name ≢ 0) → Took (is_some o) (Meaning f s) h (remove h (s at.name))
cell_took f at s h None is content not_null =
    subst (λ g. NoPart (Meaning g s) h) (sym is) (λ a b split (v, m). no_cell h (s at.name) (sym content) v a b split m)
cell_took f at s h (Some v) is content not_null = subst (λ g. Takes (Meaning g s) h (remove h (s at.name))) (sym is)
    (let t = cell_taken h (s at.name) v not_null (sym content) in
    record { part = t.part; splits = t.splits; meets = (v, t.meets) })

-- and to a points-to
pub points_took : (f : Assertion) (at : Occ) (to : Operand) (s : Store) (h : Heap) (o : Option ℕ) → f ≡ points_to at to
    → o ≡ get h (s at.name) → OnSome o (s at.name ≢ 0)
    → Took (option_eq eqb o (Some (value s to))) (Meaning f s) h (remove h (s at.name))
points_took f at to s h None is content not_null =
    subst (λ g. NoPart (Meaning g s) h) (sym is) (no_cell h (s at.name) (sym content) (value s to))
points_took f at to s h (Some v) is content not_null = elim (cases_eq v (value s to)) [
  | inl same ↦
      subst (λ b. Took b (Meaning f s) h (remove h (s at.name))) (sym (eq-eqb v (value s to) same))
      (subst (λ g. Takes (Meaning g s) h (remove h (s at.name))) (sym is)
      (cell_taken h (s at.name) (value s to) not_null (sym content ∙ ap Some same)))
  | inr other ↦
      subst (λ b. Took b (Meaning f s) h (remove h (s at.name))) (sym (ne_eqb v (value s to) other))
      (subst (λ g. NoPart (Meaning g s) h) (sym is) (other_cell h (s at.name) (value s to) v (sym content) other))
]

-- taken whole
pub whole_splits : (h : Heap) → Splits h h no_cells
whole_splits h = symmetric h no_cells h (empty_splits h)

pub none_whole : (f : Assertion) (s : Store) (h : Heap) → NoPart (Meaning f s) h → Meaning f s h → ⊥
none_whole f s h none m = none h no_cells (whole_splits h) m

-- what is taken is the whole exactly where nothing is left
pub nothing_left : (f : Assertion) (s : Store) (h left : Heap) → Takes (Meaning f s) h left
    → IsEmpty left ↔ Meaning f s h
nothing_left f s h left t = (
  λ none. subst (Meaning f s)
      (by_look_ups t.part h (λ q. all_there (get h q) (get t.part q) (get left q) (t.splits.union q) (none q))) t.meets,
  λ m.
      let one : t.part ≡ h = one_footprint f s t.part h h t.meets m (split_part h t.part left t.splits) (λ x v e. e) in
      let same : no_cells ≡ left =
      rest h h no_cells left (whole_splits h) (subst (λ k. Splits h k left) one t.splits) in
      subst IsEmpty same get_nothing,
)
  where
    all_there : (o a b : Option ℕ) → o ≡ or_else a b → b ≡ None → a ≡ o
    all_there o None b u n = sym (u ∙ n)
    all_there o (Some v) b u n = sym u
