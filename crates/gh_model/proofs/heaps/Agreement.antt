-- A structure agrees on each assertion with a heap that it represents.
use Rattle.std.specs.Prelude.{◌≡◌, ◌↔◌, ℕ, List, Bool, true, false, Some, MatchBool, Contains}
use Rattle.std.specs.FinMap.{get}
use Rattle.std.proofs.Common.{◌∙◌, ap, subst, inl, inr}
use Rattle.gh_ast.specs.Plain.{Assertion, empty, comparison, points_to, cell, segment, star, cases, Assertions}
use Rattle.gh_ast.specs.Plain.{no_assertions, assertion_first}
use Rattle.gh_assert.specs.Heaps.{Heap}
use Rattle.gh_assert.specs.Meaning.{Store, value, truth}
use Rattle.gh_assert.specs.Walks.{succ}
use Rattle.gh_assert.specs.Hops.{Hop}
use Rattle.gh_assert.specs.Reading.{Covers, CoversAny, Reads, ReadsAll, HasNames, HaveNames}
use Rattle.gh_assert.specs.Laws.{IsReadOff}
use Rattle.gh_assert.proofs.Cells.{succ_at, at_succ}
use Rattle.gh_assert.proofs.Hops.{hop_rows}
use Rattle.gh_assert.proofs.Reading.{reading}
use Rattle.gh_model.specs.Structures.{HeapStructure}
use Rattle.gh_model.specs.BuiltHeaps.{built}
use Rattle.gh_model.specs.Representations.{Represents, IsInside, IsInsideAny, Fits, FitAll}
use Rattle.gh_model.specs.Laws.{AssertionsAgree, BuiltAgrees}
use Rattle.gh_model.proofs.heaps.BuiltHeap.{hop_at_once, models_are_built, has_names}

same_choice : (t : Bool) (P Q P' Q' : Type 0) → P ↔ P' → Q ↔ Q' → MatchBool t P Q ↔ MatchBool t P' Q'
same_choice true P Q P' Q' first second = first
same_choice false P Q P' Q' first second = second

-- where the content is named, the hop is the content
hop_is_content : (V : List ℕ) (h : Heap) (x v : ℕ) → Contains V (succ h x) → Hop V h x v ↔ (get h x ≡ Some v)
hop_is_content V h x v named = (to, from)
  where
    to : Hop V h x v → get h x ≡ Some v
    to t = at_succ h x t.allocated ∙ ap Some (hop_at_once V h x v t.between named t.arrives t.unnamed)

    from : get h x ≡ Some v → Hop V h x v
    from e = subst (Hop V h x) (succ_at h x v e) ((hop_rows V h).content x (v, e) named)

mutual
  same_inside : (f : Assertion) (s : Store) (V : List ℕ) (h : Heap) (m : HeapStructure) → Represents V h m
      → HasNames f s h V → (z : ℕ) → Contains V z → IsInside f s m z ↔ Covers f s h z
  same_inside empty s V h m T n z cz = (λ u. u, λ u. u)
  same_inside (comparison l e r) s V h m T n z cz = (λ u. u, λ u. u)
  same_inside (points_to at to) s V h m T n z cz = (λ u. u, λ u. u)
  same_inside (cell at) s V h m T n z cz = (λ u. u, λ u. u)
  same_inside (segment x y) s V h m T n z cz = let both = T.between (value s x) z (value s y) n.0 cz n.1 in
      (λ u. (both.0 u.0, u.1), λ u. (both.1 u.0, u.1))
  same_inside (star fs) s V h m T n z cz = same_inside_any fs s V h m T n z cz
  same_inside (cases t f g) s V h m T n z cz =
      same_choice (truth s t) (IsInside f s m z) (IsInside g s m z) (Covers f s h z) (Covers g s h z)
      (same_inside f s V h m T n.0 z cz) (same_inside g s V h m T n.1 z cz)

  same_inside_any : (fs : Assertions) (s : Store) (V : List ℕ) (h : Heap) (m : HeapStructure) → Represents V h m
      → HaveNames fs s h V → (z : ℕ) → Contains V z → IsInsideAny fs s m z ↔ CoversAny fs s h z
  same_inside_any no_assertions s V h m T n z cz = (λ u. u, λ u. u)
  same_inside_any (assertion_first f fs) s V h m T n z cz =
      let one = same_inside f s V h m T n.0 z cz in
      let all = same_inside_any fs s V h m T n.1 z cz in (
        λ u. elim u [ inl a ↦ inl (one.0 a) | inr b ↦ inr (all.0 b) ],
        λ u. elim u [ inl a ↦ inl (one.1 a) | inr b ↦ inr (all.1 b) ],
      )

mutual
  same_fits : (f : Assertion) (s : Store) (V : List ℕ) (h : Heap) (m : HeapStructure) → Represents V h m
      → HasNames f s h V → Fits f s m V ↔ Reads f s h V
  same_fits empty s V h m T n = (λ u. u, λ u. u)
  same_fits (comparison l e r) s V h m T n = (λ u. u, λ u. u)
  same_fits (points_to at to) s V h m T n =
      let said = T.hop (s at.name) (value s to) n.0 n.2 in
      let real = hop_is_content V h (s at.name) (value s to) n.1 in
      (λ u. real.0 (said.0 u), λ u. said.1 (real.1 u))
  same_fits (cell at) s V h m T n = T.alloc (s at.name) n.0
  same_fits (segment x y) s V h m T n = T.between (value s x) (value s y) (value s y) n.0 n.1 n.1
  same_fits (star fs) s V h m T n = same_fit_all fs s V h m T n
  same_fits (cases t f g) s V h m T n =
      same_choice (truth s t) (Fits f s m V) (Fits g s m V) (Reads f s h V) (Reads g s h V) (same_fits f s V h m T n.0)
      (same_fits g s V h m T n.1)

  same_fit_all : (fs : Assertions) (s : Store) (V : List ℕ) (h : Heap) (m : HeapStructure) → Represents V h m
      → HaveNames fs s h V → FitAll fs s m V ↔ ReadsAll fs s h V
  same_fit_all no_assertions s V h m T n = (λ u. u, λ u. u)
  same_fit_all (assertion_first f fs) s V h m T n =
      let one = same_fits f s V h m T n.0 in
      let all = same_fit_all fs s V h m T n.1 in (
        λ u. (
          one.0 u.0,
          all.0 u.1,
          λ z cz a b. u.2 z cz ((same_inside f s V h m T n.0 z cz).1 a)
              ((same_inside_any fs s V h m T n.1 z cz).1 b),
        ),
        λ u. (
          one.1 u.0,
          all.1 u.1,
          λ z cz a b. u.2 z cz ((same_inside f s V h m T n.0 z cz).0 a)
              ((same_inside_any fs s V h m T n.1 z cz).0 b),
        ),
      )

pub assertions_agree : AssertionsAgree
assertions_agree V h m s f null own T n = record {
  part = (λ u. R.part.0 (fit.0 u), λ u. fit.1 (R.part.1 u));
  footprint = λ a p e z cz. let real = R.footprint a p e z in
      (λ u. (inside z cz).1 (real.0 u), λ u. real.1 ((inside z cz).0 u));
  whole = (
    λ u. R.whole.1 (
      fit.0 u.0,
      λ z cz. (
        λ a. (inside z cz).0 ((u.1 z cz).0 ((T.alloc z cz).1 a)),
        λ c. (T.alloc z cz).0 ((u.1 z cz).1 ((inside z cz).1 c)),
      ),
    ),
    λ e. let r = R.whole.0 e in (
      fit.1 r.0,
      λ z cz. (
        λ a. (inside z cz).1 ((r.1 z cz).0 ((T.alloc z cz).0 a)),
        λ c. (T.alloc z cz).1 ((r.1 z cz).1 ((inside z cz).0 c)),
      ),
    ),
  );
}
  where
    R : IsReadOff V h s f
    R = reading V h s f null own n

    fit : Fits f s m V ↔ Reads f s h V
    fit = same_fits f s V h m T n

    inside : (z : ℕ) → Contains V z → IsInside f s m z ↔ Covers f s h z
    inside z cz = same_inside f s V h m T n z cz

pub built_agrees : BuiltAgrees
built_agrees V m s f M n =
    let B = models_are_built V m M in
    assertions_agree V (built V m) m s f B.null B.owned B.represents (has_names f s V m M n)
