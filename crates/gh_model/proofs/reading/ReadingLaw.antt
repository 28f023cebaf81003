-- The formulas of an assertion say what they say of the heap that an interpretation depicts.
use Rattle.std.specs.Prelude.{◌≡◌, ◌↔◌, ℕ, ◌<◌, List, length, slice_get, Some, Bool, true, IsTrue, Contains, Decides}
use Rattle.std.proofs.Common.{sym, subst}
use Rattle.std.proofs.lemmas.Bool.{eqb-true, eq-eqb}
use Rattle.gh_base.specs.declared.atom.Term.{Term}
use Rattle.gh_base.specs.Meaning.{Interpretation}
use Rattle.gh_ast.specs.Plain.{Assertion, empty, comparison, points_to, cell, segment, star, cases, Assertions}
use Rattle.gh_ast.specs.Plain.{no_assertions, assertion_first}
use Rattle.gh_ast.specs.Programs.{Name}
use Rattle.gh_ast.specs.Names.{AssertionIn, AssertionsIn}
use Rattle.gh_assert.specs.Heaps.{Heap}
use Rattle.gh_assert.specs.Meaning.{Store}
use Rattle.gh_assert.specs.Walks.{succ}
use Rattle.gh_grass.specs.Footprints.{Variables}
use Rattle.gh_model.specs.Structures.{HeapStructure}
use Rattle.gh_model.specs.Representations.{Represents, IsInside}
use Rattle.gh_model.specs.Homomorphisms.{IsHomomorphism, HaveTerms, HasNext, AtCells, AtAllCells}
use Rattle.gh_model.specs.ReadingLaws.{IsOwnedHeap, FormulasAreRead}
use Rattle.gh_model.proofs.heaps.Agreement.{assertions_agree}
use Rattle.gh_model.proofs.heaps.HeapAxioms.{heaps_are_models}
use Rattle.gh_model.proofs.heaps.Representation.{representations_exist}
use Rattle.gh_model.proofs.reading.Assertions.{formulas_are_preserved}
use Rattle.gh_model.proofs.soundness.Interpretation.{value_at, value_of, there_at, within_list, found_in}
use Rattle.gh_model.proofs.soundness.Interpretation.{hop_to_content}
use Rattle.gh_model.proofs.terms.Denotation.{listed}

-- two tests of one fact
same_test : (a b : Bool) (P : Type 0) → Decides a P → Decides b P → (a ≡ true) ↔ (b ≡ true)
same_test a b P d e = (λ u. e.1 (d.0 u), λ u. d.1 (e.0 u))

-- what is depicted maps onto what represents the heap
depicted_homomorphism : (V : List ℕ) (m : Interpretation) (i : ℕ) (h : Heap) (M : HeapStructure) → IsOwnedHeap V m i h
    → Represents V h M → IsHomomorphism m i (length V) (value_at V) V M
depicted_homomorphism V m i h M O R =
    let v = value_at V in
    let at : (t : ℕ) → t < length V → slice_get V t ≡ Some (v t) = there_at V in
    let named : (t : ℕ) → t < length V → Contains V (v t) = λ t l. listed V t (v t) (at t l) in
    let D = O.depicted in
    record {
      some = within_list V 0 0 O.null;
      null = value_of V 0 0 O.null;
      named = named;
      made_for = λ u c. let f = found_in V u c in (f.0, within_list V f.0 u f.1, value_of V f.0 u f.1);
      equal = λ x y lx ly.
          let E = O.equal x y (v x) (v y) (at x lx) (at y ly) in
          (λ e. E.0 (eqb-true (m.class x) (m.class y) e), λ e. eq-eqb (m.class x) (m.class y) (E.1 e));
      alloc = λ x lx. same_test _ (M.alloc (v x)) _ (D.alloc x (v x) (at x lx)) (R.alloc (v x) (named x lx));
      hop = λ x y lx ly. same_test _ (M.hop (v x) (v y)) _ (D.hop x y (v x) (v y) (at x lx) (at y ly))
          (R.hop (v x) (v y) (named x lx) (named y ly));
      between = λ x y z lx ly lz.
          same_test _ (M.between (v x) (v y) (v z)) _ (D.between x y z (v x) (v y) (v z) (at x lx) (at y ly) (at z lz))
          (R.between (v x) (v y) (v z) (named x lx) (named y ly) (named z lz));
    }

-- where a single cell stands, its place hops to the term for what follows
next_is_hop : (V : List ℕ) (h : Heap) (M : HeapStructure) (b : Variables) (next : Term → Term) (st : Store) (x : Name)
    → Represents V h M → slice_get V (b x).0 ≡ Some (st x) → slice_get V (next (b x)).0 ≡ Some (succ h (st x))
    → HasNext b next (length V) (value_at V) M x
next_is_hop V h M b next st x R here after =
    let at = value_of V (b x).0 (st x) here in
    let to = value_of V (next (b x)).0 (succ h (st x)) after in (
      within_list V (next (b x)).0 (succ h (st x)) after,
      λ a.
          let hop =
          hop_to_content V h M R (st x) (listed V (b x).0 (st x) here)
          (listed V (next (b x)).0 (succ h (st x)) after) (subst (λ u. IsTrue (M.alloc u)) at a) in
          subst (λ u. IsTrue (M.hop u (value_at V (next (b x)).0))) (sym at)
          (subst (λ u. IsTrue (M.hop (st x) u)) (sym to) hop),
    )

abbrev Follows : List ℕ → Heap → Variables → (Term → Term) → Store → Name → Type 0
Follows V h b next st x = slice_get V (next (b x)).0 ≡ Some (succ h (st x))

mutual
  cells_hop : (V : List ℕ) (h : Heap) (M : HeapStructure) (b : Variables) (next : Term → Term) (st : Store)
      (xs : List Name) → Represents V h M → ((x : Name) → Contains xs x → slice_get V (b x).0 ≡ Some (st x))
      → (f : Assertion) → AssertionIn f xs → AtCells (Follows V h b next st) f
      → AtCells (HasNext b next (length V) (value_at V) M) f
  cells_hop V h M b next st xs R at empty i c = tt
  cells_hop V h M b next st xs R at (comparison l e r) i c = tt
  cells_hop V h M b next st xs R at (points_to x y) i c = next_is_hop V h M b next st x.name R (at x.name i.0) c
  cells_hop V h M b next st xs R at (cell x) i c = tt
  cells_hop V h M b next st xs R at (segment x y) i c = tt
  cells_hop V h M b next st xs R at (star fs) i c = all_cells_hop V h M b next st xs R at fs i c
  cells_hop V h M b next st xs R at (cases t f g) i c =
      (cells_hop V h M b next st xs R at f i.1 c.0, cells_hop V h M b next st xs R at g i.2 c.1)

  all_cells_hop : (V : List ℕ) (h : Heap) (M : HeapStructure) (b : Variables) (next : Term → Term) (st : Store)
      (xs : List Name) → Represents V h M → ((x : Name) → Contains xs x → slice_get V (b x).0 ≡ Some (st x))
      → (fs : Assertions) → AssertionsIn fs xs → AtAllCells (Follows V h b next st) fs
      → AtAllCells (HasNext b next (length V) (value_at V) M) fs
  all_cells_hop V h M b next st xs R at no_assertions i c = tt
  all_cells_hop V h M b next st xs R at (assertion_first f fs) i c =
      (cells_hop V h M b next st xs R at f i.0 c.0, all_cells_hop V h M b next st xs R at fs i.1 c.1)

pub formulas_are_read : FormulasAreRead
formulas_are_read V m i b next st h xs f O T =
    let found = representations_exist V h O.proper O.owned in
    let M : HeapStructure = found.0 in
    let R : Represents V h M = found.1 in
    let model = heaps_are_models V h M (listed V 0 0 O.null) O.proper O.owned R in
    let map = depicted_homomorphism V m i h M O R in
    let have : HaveTerms b (length V) (value_at V) st xs = λ x c. let e = T.bound x c in
    (within_list V (b x).0 (st x) e, value_of V (b x).0 (st x) e) in
    let cells = cells_hop V h M b next st xs R T.bound f T.over T.after in
    let F = formulas_are_preserved m i (length V) (value_at V) V M b next st xs f model map T.over have cells in
    let A = assertions_agree V h M st f O.proper O.owned R T.named in
    record {
      part = (λ u. A.part.0 (F.part.0 u), λ u. F.part.1 (A.part.1 u));
      footprint = λ a p e t z s.
          let at = value_of V t z s in
          let terms = F.footprint t (within_list V t z s) in
          let values = A.footprint a p e z (listed V t z s) in (
            λ u. values.1 (subst (IsInside f st M) at (terms.0 u)),
            λ u. terms.1 (subst (IsInside f st M) (sym at) (values.0 u)),
          );
      whole = (λ u. A.whole.0 (F.whole.0 u), λ u. F.whole.1 (A.whole.1 u));
    }
