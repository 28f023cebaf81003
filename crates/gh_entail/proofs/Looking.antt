-- What an assertion reads in heaps that look alike.
use Rattle.std.specs.Prelude.{◌≡◌, ◌↔◌, ℕ, List, Bool, true, false, Some, None, MatchBool, Contains}
use Rattle.std.specs.FinMap.{get}
use Rattle.std.proofs.Common.{sym, ◌∙◌, ap, inl, inr}
use Rattle.gh_ast.specs.Plain.{Assertion, empty, comparison, points_to, cell, segment, star, cases, Assertions}
use Rattle.gh_ast.specs.Plain.{no_assertions, assertion_first}
use Rattle.gh_assert.specs.Heaps.{Heap, IsPart}
use Rattle.gh_assert.specs.Meaning.{Store, Meaning, value, truth}
use Rattle.gh_assert.specs.Walks.{succ}
use Rattle.gh_assert.specs.Ownership.{Owned}
use Rattle.gh_assert.specs.Reading.{Covers, CoversAny, Reads, ReadsAll, HasNames, HaveNames}
use Rattle.gh_assert.proofs.Cells.{succ_at, at_succ}
use Rattle.gh_assert.proofs.Reading.{covered, covering, reading}
use Rattle.gh_entail.specs.Alike.{LooksLike, IsShown}
use Rattle.gh_assert.proofs.Reading.{reads}

same_choice : (t : Bool) (P Q P' Q' : Type 0) → P ↔ P' → Q ↔ Q' → MatchBool t P Q ↔ MatchBool t P' Q'
same_choice true P Q P' Q' first second = first
same_choice false P Q P' Q' first second = second

same_content : (V : List ℕ) (h k : Heap) → LooksLike V h k → (x v : ℕ) → Contains V x → Contains V (succ h x)
    → (get h x ≡ Some v) ↔ (get k x ≡ Some v)
same_content V h k L x v cx cs = (
  λ e. at_succ k x ((L.alloc x cx).0 (v, e)) ∙ ap Some (L.follows x cx cs ∙ succ_at h x v e),
  λ e. at_succ h x ((L.alloc x cx).1 (v, e)) ∙ ap Some (sym (L.follows x cx cs) ∙ succ_at k x v e),
)

mutual
  same_covers : (f : Assertion) (s : Store) (V : List ℕ) (h k : Heap) → LooksLike V h k → HasNames f s h V → (z : ℕ)
      → Contains V z → Covers f s h z ↔ Covers f s k z
  same_covers empty s V h k L n z cz = (λ u. u, λ u. u)
  same_covers (comparison l e r) s V h k L n z cz = (λ u. u, λ u. u)
  same_covers (points_to at to) s V h k L n z cz = (λ u. u, λ u. u)
  same_covers (cell at) s V h k L n z cz = (λ u. u, λ u. u)
  same_covers (segment x y) s V h k L n z cz = let both = L.between (value s x) z (value s y) n.0 cz n.1 in
      (λ u. (both.0 u.0, u.1), λ u. (both.1 u.0, u.1))
  same_covers (star fs) s V h k L n z cz = same_covers_any fs s V h k L n z cz
  same_covers (cases t f g) s V h k L n z cz =
      same_choice (truth s t) (Covers f s h z) (Covers g s h z) (Covers f s k z) (Covers g s k z)
      (same_covers f s V h k L n.0 z cz) (same_covers g s V h k L n.1 z cz)

  same_covers_any : (fs : Assertions) (s : Store) (V : List ℕ) (h k : Heap) → LooksLike V h k → HaveNames fs s h V
      → (z : ℕ) → Contains V z → CoversAny fs s h z ↔ CoversAny fs s k z
  same_covers_any no_assertions s V h k L n z cz = (λ u. u, λ u. u)
  same_covers_any (assertion_first f fs) s V h k L n z cz =
      let one = same_covers f s V h k L n.0 z cz in
      let all = same_covers_any fs s V h k L n.1 z cz in (
        λ u. elim u [ inl a ↦ inl (one.0 a) | inr b ↦ inr (all.0 b) ],
        λ u. elim u [ inl a ↦ inl (one.1 a) | inr b ↦ inr (all.1 b) ],
      )

mutual
  same_reads : (f : Assertion) (s : Store) (V : List ℕ) (h k : Heap) → LooksLike V h k → HasNames f s h V
      → Reads f s h V ↔ Reads f s k V
  same_reads empty s V h k L n = (λ u. u, λ u. u)
  same_reads (comparison l e r) s V h k L n = (λ u. u, λ u. u)
  same_reads (points_to at to) s V h k L n = same_content V h k L (s at.name) (value s to) n.0 n.1
  same_reads (cell at) s V h k L n = L.alloc (s at.name) n.0
  same_reads (segment x y) s V h k L n = L.between (value s x) (value s y) (value s y) n.0 n.1 n.1
  same_reads (star fs) s V h k L n = same_reads_all fs s V h k L n
  same_reads (cases t f g) s V h k L n =
      same_choice (truth s t) (Reads f s h V) (Reads g s h V) (Reads f s k V) (Reads g s k V)
      (same_reads f s V h k L n.0) (same_reads g s V h k L n.1)

  same_reads_all : (fs : Assertions) (s : Store) (V : List ℕ) (h k : Heap) → LooksLike V h k → HaveNames fs s h V
      → ReadsAll fs s h V ↔ ReadsAll fs s k V
  same_reads_all no_assertions s V h k L n = (λ u. u, λ u. u)
  same_reads_all (assertion_first f fs) s V h k L n =
      let one = same_reads f s V h k L n.0 in
      let all = same_reads_all fs s V h k L n.1 in (
        λ u. (
          one.0 u.0,
          all.0 u.1,
          λ z cz a b. u.2 z cz ((same_covers f s V h k L n.0 z cz).1 a)
              ((same_covers_any fs s V h k L n.1 z cz).1 b),
        ),
        λ u. (
          one.1 u.0,
          all.1 u.1,
          λ z cz a b. u.2 z cz ((same_covers f s V h k L n.0 z cz).0 a)
              ((same_covers_any fs s V h k L n.1 z cz).0 b),
        ),
      )

mutual
  pub same_names : (f : Assertion) (s : Store) (V : List ℕ) (h k : Heap) → LooksLike V h k → HasNames f s h V
      → HasNames f s k V
  same_names empty s V h k L n = tt
  same_names (comparison l e r) s V h k L n = n
  same_names (points_to at to) s V h k L n = (n.0, L.inside (s at.name) n.0, n.2)
  same_names (cell at) s V h k L n = (n.0, L.inside (s at.name) n.0)
  same_names (segment x y) s V h k L n = n
  same_names (star fs) s V h k L n = all_names fs s V h k L n
  same_names (cases t f g) s V h k L n = (same_names f s V h k L n.0, same_names g s V h k L n.1)

  all_names : (fs : Assertions) (s : Store) (V : List ℕ) (h k : Heap) → LooksLike V h k → HaveNames fs s h V
      → HaveNames fs s k V
  all_names no_assertions s V h k L n = tt
  all_names (assertion_first f fs) s V h k L n = (same_names f s V h k L n.0, all_names fs s V h k L n.1)

-- what the heap meets, an owned heap that looks like it meets
pub kept : (f : Assertion) (s : Store) (V : List ℕ) (h k : Heap) → LooksLike V h k → get k 0 ≡ None → Owned V k
    → HasNames f s h V → Meaning f s h → Meaning f s k
kept f s V h k L null own n m =
    let all : IsPart h h = λ x v e. e in
    let same = same_covers f s V h k L n in
    (reading V k s f null own (same_names f s V h k L n)).whole.1 (
      (same_reads f s V h k L n).0 (reads f s h h V m all),
      λ z cz. (
        λ a. (same z cz).0 (covered f s h h m all z ((L.alloc z cz).1 a)),
        λ c. (L.alloc z cz).0 (covering f s h h m all z ((same z cz).1 c)),
      ),
    )

-- and the other way round where the witness is in V
pub back : (f : Assertion) (s : Store) (V : List ℕ) (h k : Heap) → LooksLike V h k → get k 0 ≡ None → Owned V k
    → HasNames f s h V → IsShown V f s h → Meaning f s k → Meaning f s h
back f s V h k L null own n shown m =
    let r = (reading V k s f null own (same_names f s V h k L n)).whole.0 m in
    let same = same_covers f s V h k L n in
    shown ((same_reads f s V h k L n).1 r.0)
    (λ z cz. (
      λ a. (same z cz).1 ((r.1 z cz).0 ((L.alloc z cz).0 a)),
      λ c. (L.alloc z cz).1 ((r.1 z cz).1 ((same z cz).0 c)),
    ))
