-- A heap with a cell at null meets no assertion, nor does one with a cell that no variable leads to.
use Rattle.std.specs.Prelude.{◌≡◌, ◌≢◌, ◌↔◌, ℕ, ◌+◌, ◌≤◌, ◌<◌, Bool, true, false, None, MatchBool}
use Rattle.std.specs.FinMap.{get}
use Rattle.std.proofs.Common.{sym, ◌∙◌, inl, inr, arith}
use Rattle.gh_ast.specs.Plain.{Assertion, empty, comparison, points_to, cell, segment, star, cases, Assertions}
use Rattle.gh_ast.specs.Plain.{no_assertions, assertion_first}
use Rattle.gh_assert.specs.Heaps.{Heap, IsPart}
use Rattle.gh_assert.specs.Meaning.{Store, Meaning, value, truth}
use Rattle.gh_assert.specs.Walks.{Between}
use Rattle.gh_assert.specs.Reading.{Covers, CoversAny}
use Rattle.gh_assert.proofs.Cells.{no_cells, get_nothing, get_put, get_beside, walk_stays, allocated_or}
use Rattle.gh_assert.proofs.Unions.{one_cell}
use Rattle.gh_assert.proofs.Reading.{covered}
use Rattle.gh_assert.proofs.Proper.{met_are_proper}
use Rattle.gh_ast.specs.Questions.{Claim, leaf, denial, every, either, Claims, no_claims, claim_first}
use Rattle.gh_entail.specs.Meaning.{Holds, AllHold, SomeHolds}
use Rattle.gh_entail.specs.Laws.{FailuresGiveModels}
use Rattle.gh_entail.proofs.Reflecting.{failures_are_depicted}

-- each number from some number on
abbrev Late : (ℕ → Type 0) → Type 0
Late P = (k : ℕ) × ((z : ℕ) → k ≤ z → P z)

both_late : (P Q : ℕ → Type 0) → Late P → Late Q → Late (λ z. P z × Q z)
both_late P Q first second = (first.0 + second.0, λ z l. (first.1 z (omega (arith, l)), second.1 z (omega (arith, l))))

-- a heap with one cell, which leads to itself
abbrev alone : ℕ → Heap
alone z = one_cell z z

alone_elsewhere : (z x : ℕ) → x < z → get (alone z) x ≡ None
alone_elsewhere z x l = get_beside no_cells z z x (λ e. absurd (omega (arith, l, e))) ∙ get_nothing x

no_step : (z x y : ℕ) → x < z → Between (alone z) x z y → ⊥
no_step z x y l b =
    let same : x ≡ z = sym (walk_stays (alone z) x (alone_elsewhere z x l) b.at) ∙ b.passes in
    absurd (omega (arith, l, same))

by_choice : (t : Bool) (P Q : ℕ → Type 0) → Late (λ z. P z → ⊥) → Late (λ z. Q z → ⊥)
    → Late (λ z. MatchBool t (P z) (Q z) → ⊥)
by_choice true P Q first second = first
by_choice false P Q first second = second

-- from some number on, no assertion speaks of that cell
mutual
  not_covered : (f : Assertion) (s : Store) → Late (λ z. Covers f s (alone z) z → ⊥)
  not_covered empty s = (0, λ z l u. u)
  not_covered (comparison l e r) s = (0, λ z l u. u)
  not_covered (points_to at to) s = (s at.name + 1, λ z l u. absurd (omega (arith, l, u)))
  not_covered (cell at) s = (s at.name + 1, λ z l u. absurd (omega (arith, l, u)))
  not_covered (segment x y) s = (value s x + 1, λ z l u. no_step z (value s x) (value s y) (omega (arith, l)) u.0)
  not_covered (star fs) s = none_covered fs s
  not_covered (cases t f g) s =
      by_choice (truth s t) (λ z. Covers f s (alone z) z) (λ z. Covers g s (alone z) z) (not_covered f s)
      (not_covered g s)

  none_covered : (fs : Assertions) (s : Store) → Late (λ z. CoversAny fs s (alone z) z → ⊥)
  none_covered no_assertions s = (0, λ z l u. u)
  none_covered (assertion_first f fs) s =
      let one = not_covered f s in
      let all = none_covered fs s in
      (one.0 + all.0, λ z l u. elim u [ inl a ↦ one.1 z (omega (arith, l)) a | inr b ↦ all.1 z (omega (arith, l)) b ])

not_met : (f : Assertion) (s : Store) → Late (λ z. Meaning f s (alone z) → ⊥)
not_met f s = let far = not_covered f s in (
  far.0,
  λ z l m. let all : IsPart (alone z) (alone z) = λ x v e. e in
      far.1 z l (covered f s (alone z) (alone z) m all z (z, get_put no_cells z z)),
)

-- where no assertion is met, all heaps are one to a claim
mutual
  same_holds : (c : Claim) (s : Store) (h : Heap) → get h 0 ≢ None → Late (λ z. Holds c s h ↔ Holds c s (alone z))
  same_holds (leaf f) s h off = let far = not_met f s in
      (far.0, λ z l. (λ m. absurd (off (met_are_proper f s h m)), λ m. absurd (far.1 z l m)))
  same_holds (denial c) s h off = let same = same_holds c s h off in
      (same.0, λ z l. (λ u a. u ((same.1 z l).1 a), λ u a. u ((same.1 z l).0 a)))
  same_holds (every cs) s h off = all_hold cs s h off
  same_holds (either cs) s h off = some_hold cs s h off

  all_hold : (cs : Claims) (s : Store) (h : Heap) → get h 0 ≢ None → Late (λ z. AllHold cs s h ↔ AllHold cs s (alone z))
  all_hold no_claims s h off = (0, λ z l. (λ u. u, λ u. u))
  all_hold (claim_first c cs) s h off =
      let one = same_holds c s h off in
      let all = all_hold cs s h off in (
        one.0 + all.0,
        λ z l. let p = one.1 z (omega (arith, l)) in let q = all.1 z (omega (arith, l)) in
            (λ u. (p.0 u.0, q.0 u.1), λ u. (p.1 u.0, q.1 u.1)),
      )

  some_hold : (cs : Claims) (s : Store) (h : Heap) → get h 0 ≢ None
      → Late (λ z. SomeHolds cs s h ↔ SomeHolds cs s (alone z))
  some_hold no_claims s h off = (0, λ z l. (λ u. u, λ u. u))
  some_hold (claim_first c cs) s h off =
      let one = same_holds c s h off in
      let all = some_hold cs s h off in (
        one.0 + all.0,
        λ z l. let p = one.1 z (omega (arith, l)) in let q = all.1 z (omega (arith, l)) in (
          λ u. elim u [ inl a ↦ inl (p.0 a) | inr b ↦ inr (q.0 b) ],
          λ u. elim u [ inl a ↦ inl (p.1 a) | inr b ↦ inr (q.1 b) ],
        ),
      )

-- so the question fails in a proper heap too
pub failures_give_models : FailuresGiveModels
failures_give_models q s h against = elim (allocated_or h 0) [
  | inr null ↦ let made' = failures_are_depicted q s h null against in (made'.2.0, made'.2.1)
  | inl a ↦
      let off : get h 0 ≢ None = λ none. let there = a.1 in absurd cc in
      let left = same_holds q.left s h off in
      let right = same_holds q.right s h off in
      let z = left.0 + right.0 + 1 in
      let null : get (alone z) 0 ≡ None = alone_elsewhere z 0 (omega arith) in
      let made' =
      failures_are_depicted q s (alone z) null
      (record {
        left = (left.1 z (omega arith)).0 against.left;
        right = λ r. against.right ((right.1 z (omega arith)).1 r);
      }) in
      (made'.2.0, made'.2.1)
]
