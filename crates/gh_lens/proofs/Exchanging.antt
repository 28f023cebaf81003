-- What is handed over and what comes back.
use Rattle.std.specs.Prelude.{◌≡◌}
use Rattle.std.specs.FinMap.{keys}
use Rattle.std.proofs.Common.{sym, ◌∙◌, ap, subst}
use Rattle.gh_ast.specs.Plain.{Assertion}
use Rattle.gh_assert.specs.Heaps.{Heap, Splits}
use Rattle.gh_assert.specs.Meaning.{Store}
use Rattle.gh_assert.specs.Footprints.{IsFootprint}
use Rattle.gh_assert.proofs.Unions.{split_part}
use Rattle.gh_assert.proofs.Unique.{one_footprint}
use Rattle.gh_trace.specs.Left.{left}
use Rattle.gh_trace.specs.Traces.{Replaced}
use Rattle.gh_trace.proofs.Lefts.{left_is_rest}
use Rattle.gh_lens.specs.declared.exchange.Exchange.{Exchange}
use Rattle.gh_lens.specs.Exchanges.{IsExchange}

-- the footprint, what is left without it, and what stands in its place are an exchange
pub exchanged : (f : Assertion) (s : Store) (h k : Heap) (e : Exchange) → IsFootprint f s h e.handed.items
    → e.frame ≡ left h e.handed.items → Replaced f s h (λ z. z ≡ e.back) k → IsExchange f s h k e
exchanged f s h k e a frame r =
    let one : r.part ≡ a.part =
    one_footprint f s r.part a.part h r.met a.meets (split_part h r.part r.frame r.splits)
    (split_part h a.part a.rest a.splits) in
    let handed : e.handed.items ≡ keys r.part = a.places_are ∙ ap keys (sym one) in
    let aside : e.frame ≡ r.frame = frame ∙ ap (left h) handed ∙ left_is_rest h r.part r.frame r.splits in
    record {
      part = r.part;
      splits = subst (Splits h r.part) (sym aside) r.splits;
      meets = r.met;
      handed = handed;
      joins = subst (Splits k e.back) (sym aside) (subst (λ z. Splits k z r.frame) r.meets r.joins);
    }
