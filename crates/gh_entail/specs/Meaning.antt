-- What claims and questions mean.
use Rattle.std.specs.Prelude.{◌⊎◌}
use Rattle.gh_ast.specs.Questions.{Claim, leaf, denial, every, either, Claims, no_claims, claim_first, Question}
use Rattle.gh_assert.specs.Heaps.{Heap}
use Rattle.gh_assert.specs.Meaning.{Store, Meaning}

-- an assertion is judged on the whole heap
abbrev mutual
  pub Holds : Claim → Store → Heap → Type 0
  Holds (leaf f) s h = Meaning f s h
  Holds (denial c) s h = Holds c s h → ⊥
  Holds (every cs) s h = AllHold cs s h
  Holds (either cs) s h = SomeHolds cs s h

  pub AllHold : Claims → Store → Heap → Type 0
  AllHold no_claims s h = Unit {0}
  AllHold (claim_first c cs) s h = Holds c s h × AllHold cs s h

  pub SomeHolds : Claims → Store → Heap → Type 0
  SomeHolds no_claims s h = ⊥
  SomeHolds (claim_first c cs) s h = Holds c s h ⊎ SomeHolds cs s h

-- in every store and every heap the right claim holds if the left does
abbrev pub IsEntailed : Question → Type 0
IsEntailed q = (s : Store) (h : Heap) → Holds q.left s h → Holds q.right s h

-- here the left claim holds and the right one doesn't
pub record Fails (q : Question) (s : Store) (h : Heap) : Type 0 where
  pub left : Holds q.left s h
  pub right : Holds q.right s h → ⊥
