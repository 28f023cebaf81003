-- Allocated classes against the cells of a heap.
use Rattle.std.proofs.Common.{◌≡◌, ℕ, true, length, Option, Some, sym, ap, ◌∙◌, arith}
use Rattle.std.proofs.lemmas.List.{length-map}
use Rattle.std.specs.Prelude.{is_some}
use Rattle.std.specs.FinMap.{get, len, keys, entries, len-entries, contains_key-keys}
use Rattle.std.specs.Ordering.{nat_cmp, eq_by_cmp}
use Rattle.std.proofs.lemmas.Bool.Decides.{nat_tests}
use Rattle.std.proofs.lemmas.List.Folds.{Any-from_list_any}
use Rattle.gh_assert.specs.Heaps.{Heap}
use Rattle.gh_small.specs.Cells.{ClassesAreCells}
use Rattle.gh_small.proofs.CountingLemmas.{Has, few_leaders}
use Rattle.gh_small.proofs.LeaderLemmas.{leads_allocated}

tied : (q x : ℕ) → eq_by_cmp nat_cmp q x ≡ true → x ≡ q
tied q x e = grind (arith, nat_tests)

in_keys : (h : Heap) (q v : ℕ) → get h q ≡ Some v → Has (keys h) q
in_keys h q v e =
    let w =
    Any-from_list_any (eq_by_cmp nat_cmp q) (keys h)
    (sym (contains_key-keys h q) ∙ ap (λ (o : Option ℕ). is_some o) e) in
    (w.0, w.1, w.2, w.3, tied q w.1 w.4)

pub cells : ClassesAreCells
cells m at n h one found =
    let long : length (keys h) ≡ len h = length-map (entries h) (λ e. e.0) ∙ sym (len-entries h) in
    let few =
    few_leaders m at n (keys h) one
    (λ t lt is. let w = found t lt (leads_allocated m t is) in in_keys h (at t) w.0 w.1) in
    omega arith
