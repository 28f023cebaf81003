-- What is left of heaps without the cells of some places.
use Rattle.std.specs.Prelude.{◌≡◌, ◌↔◌, ◌⊎◌, ℕ, ◌<◌, List, [], ◌∷◌, Option, Some, None, cond, Bool, true, false, not}
use Rattle.std.specs.Prelude.{length, ◌+◌, ◌||◌, is_some, IsTrue, IfSome, IfNone}
use Rattle.std.specs.Option.{option_eq}
use Rattle.std.proofs.Common.{eqb, get_or, drop, add-one}
use Rattle.std.proofs.Math.Seq.{drop-cons}
use Rattle.std.specs.Ordering.{nat_cmp, eq_by_cmp}
use Rattle.std.specs.FinMap.{get, remove, find, keys, get-remove, contains_key-keys}
use Rattle.std.specs.Cmp.{nat_cmp_total}
use Rattle.std.specs.List.{list_any}
use Rattle.std.proofs.lemmas.Bool.{cases_eq, ne_eqb}
use Rattle.std.proofs.Common.{refl, sym, ◌∙◌, ap, subst, inl, inr}
use Rattle.gh_assert.specs.declared.heap.Cell.{Cell}
use Rattle.gh_assert.specs.Cells.{pairs}
use Rattle.gh_ast.specs.Plain.{Assertion}
use Rattle.gh_assert.specs.Heaps.{Heap, IsEmpty, Splits, or_else}
use Rattle.gh_assert.specs.Meaning.{Store, HasPart}
use Rattle.gh_assert.specs.Footprints.{IsFootprint}
use Rattle.gh_assert.proofs.Cells.{by_look_ups}
use Rattle.gh_assert.proofs.Splitting.{symmetric, rest}
use Rattle.gh_assert.proofs.Unions.{split_part}
use Rattle.gh_assert.proofs.Unique.{apart, get_removed, get_kept, one_footprint}
use Rattle.gh_trace.specs.Left.{left}
use Rattle.gh_trace.specs.Traces.{Replaced}

-- two heaps are one exactly where two others are, of which the first has its cells among those given
pub record SameSoFar (a b : Heap) (cells : List Cell) (c d : Heap) : Type 0 where
  pub same : (c ≡ d) ↔ (a ≡ b)
  pub among : (q : ℕ) → find nat_cmp q (pairs cells) ≡ None → get c q ≡ None

pub same_more : (a b : Heap) (p : Cell) (cells : List Cell) (c d : Heap) → SameSoFar a b (p ∷ cells) c d
    → get c p.at ≡ get d p.at → SameSoFar a b cells (remove c p.at) (remove d p.at)
same_more a b p cells c d so e = record {
  same = (
    λ r. so.same.0 (by_look_ups c d (λ q. both q r)),
    λ is. let same : c ≡ d = so.same.1 is in
        ap (λ h. remove h p.at) same,
  );
  among = λ q none. elim (cases_eq q p.at) [
    | inl here ↦ subst (λ r. get (remove c p.at) r ≡ None) (sym here) (get_removed c p.at)
    | inr away ↦ get_kept c p.at q away
        ∙ so.among q (ap (λ t. cond t (Some p.to) (find nat_cmp q (pairs cells))) (apart q p.at away) ∙ none)
  ];
}
  where
    both : (q : ℕ) → remove c p.at ≡ remove d p.at → get c q ≡ get d q
    both q r = elim (cases_eq q p.at) [
      | inl here ↦ subst (λ x. get c x ≡ get d x) (sym here) e
      | inr away ↦ sym (get_kept c p.at q away) ∙ ap (λ h. get h q) r ∙ get_kept d p.at q away
    ]

-- where the two differ at a place, they aren't one
pub same_fails : (a b : Heap) (cells : List Cell) (c d : Heap) (p : ℕ) → SameSoFar a b cells c d
    → (get c p ≡ get d p → ⊥) → a ≡ b → ⊥
same_fails a b cells c d p so differ is = differ (ap (λ h. get h p) (so.same.1 is))

-- at the end the first has no cells
pub same_ends : (a b c d : Heap) → SameSoFar a b [] c d → IsEmpty d ↔ (a ≡ b)
same_ends a b c d so = (
  λ none. so.same.0 (by_look_ups c d (λ q. so.among q refl ∙ sym (none q))),
  λ is. λ q. sym (ap (λ h. get h q) (so.same.1 is)) ∙ so.among q refl,
)

pub drop-cons_at : (cells : List Cell) (i : ℕ) (d : Cell) → i < length cells
    → drop i cells ≡ get_or cells i d ∷ drop (i + 1) cells
drop-cons_at cells i d within = drop-cons cells i d within ∙ rw (add-one i) refl

-- what `!=` says of two contents
pub same_contents : (o p : Option ℕ) → not (option_eq eqb o p) ≡ false → o ≡ p
same_contents None None e = refl
same_contents None (Some w) e = absurd cc
same_contents (Some v) None e = absurd cc
same_contents (Some v) (Some w) e = elim (cases_eq v w) [
  | inl same ↦ ap Some same
  | inr differ ↦ let other : eqb v w ≡ false = ne_eqb v w differ in absurd cc
]

pub same_turn : (a b : Heap) (cells : List Cell) (i : ℕ) (d : Cell) (c e c' e' : Heap) (o p : Option ℕ)
    → i < length cells → SameSoFar a b (drop i cells) c e → o ≡ get c (get_or cells i d).at
    → p ≡ get e (get_or cells i d).at
    → not (option_eq eqb o p) ≡ false → c' ≡ remove c (get_or cells i d).at → e' ≡ remove e (get_or cells i d).at
    → SameSoFar a b (drop (i + 1) cells) c' e'
same_turn a b cells i d c e c' e' o p within so is_o is_p same is_c is_e =
    let more =
    same_more a b (get_or cells i d) (drop (i + 1) cells) c e
    (subst (λ cs. SameSoFar a b cs c e) (drop-cons_at cells i d within) so)
    (sym is_o ∙ same_contents o p same ∙ is_p) in
    subst (λ h. SameSoFar a b (drop (i + 1) cells) h e') (sym is_c)
    (subst (λ h. SameSoFar a b (drop (i + 1) cells) (remove c (get_or cells i d).at) h) (sym is_e) more)

without : (t u : Bool) (o : Option ℕ) → cond u None (cond t None o) ≡ cond (t || u) None o
without true true o = refl
without true false o = refl
without false u o = refl

-- a cell is left where its place isn't among the places
pub get_left : (ps : List ℕ) (h : Heap) (q : ℕ)
    → get (left h ps) q ≡ cond (list_any (eq_by_cmp nat_cmp q) ps) None (get h q)
get_left [] h q = refl
get_left (p ∷ ps) h q =
    get_left ps (remove h p) q ∙ ap (cond (list_any (eq_by_cmp nat_cmp q) ps) None) (get-remove nat_cmp_total h p q)
    ∙ without (eq_by_cmp nat_cmp q p) (list_any (eq_by_cmp nat_cmp q) ps) (get h q)

none_stays : (t : Bool) (o : Option ℕ) → o ≡ None → cond t None o ≡ None
none_stays true o e = refl
none_stays false o e = e

pub none_left : (ps : List ℕ) (h : Heap) (q : ℕ) → get h q ≡ None → get (left h ps) q ≡ None
none_left ps h q e = get_left ps h q ∙ none_stays (list_any (eq_by_cmp nat_cmp q) ps) (get h q) e

beside : (o a b : Option ℕ) → (a ≡ None) ⊎ (b ≡ None) → o ≡ or_else a b → cond (is_some a) None o ≡ b
beside o None b d e = e
beside o (Some v) b d e = elim d [ inl n ↦ absurd cc | inr n ↦ sym n ]

-- without the places of one part the other part is left
pub left_is_rest : (h a b : Heap) → Splits h a b → left h (keys a) ≡ b
left_is_rest h a b split = by_look_ups (left h (keys a)) b (λ q.
    get_left (keys a) h q ∙ ap (λ t. cond t None (get h q)) (sym (contains_key-keys a q))
    ∙ beside (get h q) (get a q) (get b q) (split.disjoint q) (split.union q))

left_of : (f : Assertion) (s : Store) (h : Heap) (ps : List ℕ) (a : IsFootprint f s h ps) → left h ps ≡ a.rest
left_of f s h ps a = ap (left h) a.places_are ∙ left_is_rest h a.part a.rest a.splits

-- the frame of a replacement is what is left without the footprint
frame_left : (f : Assertion) (s : Store) (h k : Heap) (Q : Heap → Type 0) (ps : List ℕ) → IsFootprint f s h ps
    → (r : Replaced f s h Q k) → r.frame ≡ left h ps
frame_left f s h k Q ps a r =
    let one : r.part ≡ a.part =
    one_footprint f s r.part a.part h r.met a.meets (split_part h r.part r.frame r.splits)
    (split_part h a.part a.rest a.splits) in
    rest h a.part r.frame a.rest (subst (λ z. Splits h z r.frame) one r.splits) a.splits ∙ sym (left_of f s h ps a)

-- the cells beside that frame stand in the place of the part
pub other_stands : (f : Assertion) (s : Store) (h k : Heap) (ps : List ℕ) (other : Heap) → IsFootprint f s h ps
    → Splits k other (left h ps) → Replaced f s h (λ z. z ≡ other) k
other_stands f s h k ps other a split =
    record {
      part = a.part;
      frame = a.rest;
      other = other;
      splits = a.splits;
      met = a.meets;
      joins = subst (Splits k other) (left_of f s h ps a) split;
      meets = refl;
    }

pub no_other_stands : (f : Assertion) (s : Store) (h k : Heap) (ps : List ℕ) → IsFootprint f s h ps
    → ((other : Heap) → Splits k other (left h ps) → ⊥) → (other : Heap) → Replaced f s h (λ z. z ≡ other) k → ⊥
no_other_stands f s h k ps a none other r =
    none r.other (subst (Splits k r.other) (frame_left f s h k (λ z. z ≡ other) ps a r) r.joins)

pub no_part_stands : (f : Assertion) (s : Store) (h k : Heap) → (HasPart f s h → ⊥) → (other : Heap)
    → Replaced f s h (λ z. z ≡ other) k → ⊥
no_part_stands f s h k none other r = none (r.part, r.frame, r.splits, r.met)

-- what stands in the place of the part decides
pub stands_where : (f : Assertion) (s : Store) (h k other : Heap) (Q : Heap → Type 0)
    → Replaced f s h (λ z. z ≡ other) k → Q other ↔ Replaced f s h Q k
stands_where f s h k other Q r = (
  λ met. record {
    part = r.part;
    frame = r.frame;
    other = other;
    splits = r.splits;
    met = r.met;
    joins = here;
    meets = met;
  },
  λ t.
      let one : t.part ≡ r.part =
      one_footprint f s t.part r.part h t.met r.met (split_part h t.part t.frame t.splits)
      (split_part h r.part r.frame r.splits) in
      let same : t.frame ≡ r.frame =
      rest h r.part t.frame r.frame (subst (λ z. Splits h z t.frame) one t.splits) r.splits in
      let there : t.other ≡ other =
      rest k r.frame t.other other (symmetric k t.other r.frame (subst (Splits k t.other) same t.joins))
      (symmetric k other r.frame here) in
      subst Q there t.meets,
)
  where
    here : Splits k other r.frame
    here = subst (λ z. Splits k z r.frame) r.meets r.joins

pub nothing_stands : (f : Assertion) (s : Store) (h k : Heap) (Q : Heap → Type 0)
    → ((other : Heap) → Replaced f s h (λ z. z ≡ other) k → ⊥) → Replaced f s h Q k → ⊥
nothing_stands f s h k Q none r =
    none r.other (record {
      part = r.part;
      frame = r.frame;
      other = r.other;
      splits = r.splits;
      met = r.met;
      joins = r.joins;
      meets = refl;
    })

pub footprint_has : (f : Assertion) (s : Store) (h : Heap) (ps : List ℕ) → IsFootprint f s h ps → HasPart f s h
footprint_has f s h ps a = (a.part, a.rest, a.splits, a.meets)

-- what `is_some` says of a footprint
pub has_where_some : {V : Type 0} (f : Assertion) (s : Store) (h : Heap) (places : V → List ℕ) (o : Option V)
    → IfSome o (λ v. IsFootprint f s h (places v)) → IfNone o (HasPart f s h → ⊥) → IsTrue (is_some o) ↔ HasPart f s h
has_where_some f s h places None found none = (λ no. absurd cc, λ has. absurd (none has))
has_where_some f s h places (Some v) found none = (λ is. footprint_has f s h (places v) found, λ has. refl)
