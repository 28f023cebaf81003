-- What conjuncts leave over.
use Rattle.std.specs.Prelude.{◌≡◌, ℕ, ◌+◌, ◌<◌, ◌≤◌, List, ◌∷◌, length, map, drop}
use Rattle.std.specs.FinMap as finite
use Rattle.std.proofs.Common.{sym, ◌∙◌, ap, subst, inl, inr, get_or}
use Rattle.std.proofs.lemmas.List.{drop_all}
use Rattle.gh_ast.specs.declared.Assertion.{Assertion as CodeAssertion}
use Rattle.gh_ast.specs.Plain.{Assertion, Assertions, no_assertions, assertion_first, assertion_of}
use Rattle.gh_assert.specs.Heaps.{Heap, Splits}
use Rattle.gh_assert.specs.Meaning.{Store}
use Rattle.gh_assert.proofs.Unions.{split_part}
use Rattle.gh_assert.proofs.Unique.{one_footprint}
use Rattle.gh_lens.specs.Takings.{conjuncts, IsBlockedAt, LeavesOver}
use Rattle.gh_scene.specs.Spare.{LeavesNothing, IsLeftOver}
use Rattle.gh_trace.specs.Left.{left}
use Rattle.gh_trace.proofs.Lefts.{left_is_rest}
use Rattle.gh_trace.proofs.Listings.{next}

-- a part has one rest
one_rest : (h a b c d : Heap) → Splits h a b → Splits h c d → a ≡ c → b ≡ d
one_rest h a b c d u v same = sym (left_is_rest h a b u) ∙ ap (λ z. left h (finite.keys z)) same ∙ left_is_rest h c d v

-- conjuncts of which one is blocked leave nothing over
pub blocked_leave_none : (fs : Assertions) (s : Store) (h : Heap) (g : Assertion) (rest r : Heap)
    → IsBlockedAt fs s h g rest → LeavesOver fs s h r → ⊥
blocked_leave_none no_assertions s h g rest r block leaves = block
blocked_leave_none (assertion_first f fs) s h g rest r (inl (is, same, none)) (c, d, splits, meets, later) =
    none (c, d, splits, meets)
blocked_leave_none (assertion_first f fs) s h g rest r (inr (a, b, halves, met, on)) (c, d, splits, meets, later) =
    let one : a ≡ c = one_footprint f s a c h met meets (split_part h a b halves) (split_part h c d splits) in
    blocked_leave_none fs s b g rest r on
    (subst (λ z. LeavesOver fs s z r) (sym (one_rest h a b c d halves splits one)) later)

-- what the later alternatives leave over is what all of them do
abbrev pub LeadsBack : List CodeAssertion → ℕ → Store → Heap → Type 0
LeadsBack xs i s h =
    (rest : Heap) → IsLeftOver (map assertion_of (drop i xs)) s h rest → IsLeftOver (map assertion_of xs) s h rest

listed : (xs : List CodeAssertion) (i : ℕ) (x : CodeAssertion) → i < length xs → x ≡ get_or xs i x
    → map assertion_of (drop i xs) ≡ assertion_of x ∷ map assertion_of (drop (i + 1) xs)
listed xs i x within is = ap (map assertion_of) (next xs i x within is)

pub passes_on : (xs : List CodeAssertion) (i : ℕ) (x : CodeAssertion) (s : Store) (h : Heap) → i < length xs
    → x ≡ get_or xs i x → LeavesNothing (assertion_of x) s h → LeadsBack xs i s h → LeadsBack xs (i + 1) s h
passes_on xs i x s h within is none so rest later =
    so rest (subst (λ fs. IsLeftOver fs s h rest) (sym (listed xs i x within is)) (inr (none, later)))

pub found_here : (xs : List CodeAssertion) (i : ℕ) (x : CodeAssertion) (s : Store) (h rest : Heap) → i < length xs
    → x ≡ get_or xs i x → LeavesOver (conjuncts (assertion_of x)) s h rest → LeadsBack xs i s h
    → IsLeftOver (map assertion_of xs) s h rest
found_here xs i x s h rest within is leaves so =
    so rest (subst (λ fs. IsLeftOver fs s h rest) (sym (listed xs i x within is)) (inl leaves))

pub none_found : (xs : List CodeAssertion) (i : ℕ) (s : Store) (h rest : Heap) → length xs ≤ i → rest ≡ finite.empty
    → LeadsBack xs i s h → IsLeftOver (map assertion_of xs) s h rest
none_found xs i s h rest past e so =
    so rest (subst (λ ys. IsLeftOver (map assertion_of ys) s h rest) (sym (drop_all i xs past)) e)
