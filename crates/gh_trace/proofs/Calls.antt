-- A call is judged by one store and one split.
use Rattle.std.specs.Prelude.{◌≡◌, ◌++◌, map, Contains, slice_get}
use Rattle.std.proofs.lemmas.List.Elements.{Contains-append_cases}
use Rattle.std.proofs.Common.{sym, ◌∙◌, ap, subst, inl, inr}
use Rattle.gh_ast.specs.Plain.{Assertion}
use Rattle.gh_ast.specs.Programs.{Name, names, parameters_of, results_of}
use Rattle.gh_ast.proofs.Lists.{same_values, one_value}
use Rattle.gh_assert.specs.Heaps.{Heap, Splits}
use Rattle.gh_assert.specs.Meaning.{Store, Meaning, MeetsOneOf, HasPart}
use Rattle.gh_assert.proofs.Alternatives.{one_met_agrees}
use Rattle.gh_assert.proofs.Agree.{Agree, maps_agree, same_meaning}
use Rattle.gh_assert.proofs.Splitting.{rest}
use Rattle.gh_assert.proofs.Unique.{one_footprint}
use Rattle.gh_assert.proofs.Unions.{split_part}
use Rattle.gh_path.specs.Graphs.{callee_entry}
use Rattle.gh_trace.specs.Traces.{Replaced, CallLeads, Passes}
use Rattle.gh_trace.specs.Laws.{IsToldBySplits, PartsAreReplaced, EntriesAreOne, CallsAreOne}

pub told_by_splits : (f : Assertion) (s : Store) (h : Heap) (Q : Heap → Type 0) (k : Heap) → IsToldBySplits f s h Q k
told_by_splits f s h Q k part frame split met = (
  λ r.
      let one : r.part ≡ part =
      one_footprint f s r.part part h r.met met (split_part h r.part r.frame r.splits)
      (split_part h part frame split) in
      let left : r.frame ≡ frame = rest h part r.frame frame (subst (λ a. Splits h a r.frame) one r.splits) split in
      (r.other, subst (Splits k r.other) left r.joins, r.meets),
  λ (other, joins, meets). record {
    part = part;
    frame = frame;
    other = other;
    splits = split;
    met = met;
    joins = joins;
    meets = meets;
  },
)

pub parts_are_replaced : PartsAreReplaced
parts_are_replaced = record {
  one = λ f g s t h k. told_by_splits f s h (Meaning g t) k;
  one_of = λ f gs s t h k. told_by_splits f s h (MeetsOneOf gs t) k;
}

pub entries_are_one : EntriesAreOne
entries_are_one P proc at n es x q vs inside own is gives params = (λ passed. passed q vs inside is gives params, back)
  where
    here : (inside' : Store) → map inside' (parameters_of q) ≡ vs → HasPart q.needs inside x.heap
        → HasPart q.needs inside' x.heap
    here inside' params' (a, b, split, m) = (
      a,
      b,
      split,
      same_meaning q.needs (parameters_of q) inside inside' a
          (maps_agree (parameters_of q) inside inside' (params ∙ sym params')) own.needs_in m,
    )

    back : HasPart q.needs inside x.heap → Passes P proc (callee_entry at n es) x
    back part r ws inside' is' gives' params' =
        let same : q ≡ r = one_value (slice_get P.procedures n) q r is is' in
        let values : ws ≡ vs = same_values ws vs (sym gives' ∙ gives) in
        let params'' : map inside' (parameters_of q) ≡ vs =
        ap (λ z. map inside' (parameters_of z)) same ∙ params' ∙ values in
        subst (λ z. HasPart z.needs inside' x.heap) same (here inside' params'' part)

replaced_agrees : (f : Assertion) (s s' : Store) (Q R : Heap → Type 0) (h k : Heap)
    → ((a : Heap) → Meaning f s a → Meaning f s' a) → ((a : Heap) → Q a → R a) → Replaced f s h Q k
    → Replaced f s' h R k
replaced_agrees f s s' Q R h k before after r =
    record {
      part = r.part;
      frame = r.frame;
      other = r.other;
      splits = r.splits;
      met = before r.part r.met;
      joins = r.joins;
      meets = after r.other r.meets;
    }

pub calls_are_one : CallsAreOne
calls_are_one P proc xs n es x y q vs inside own is gives params results = (
  λ (r, ws, is', gives', c).
      let same : r ≡ q = one_value (slice_get P.procedures n) r q is' is in
      let values : ws ≡ vs = same_values ws vs (sym gives' ∙ gives) in
      one (subst (λ us. CallLeads q us (names xs) x y) values (subst (λ z. CallLeads z ws (names xs) x y) same c)),
  λ (kept, replaced). (
    q,
    vs,
    is,
    gives,
    record {
      inside = inside;
      arguments = params;
      targets = record { given = sym results; kept = kept };
      replaced = replaced;
    },
  ),
)
  where
    one : CallLeads q vs (names xs) x y
        → ((m : Name) → (Contains (names xs) m → ⊥) → y.store m ≡ x.store m)
        × Replaced q.needs inside x.heap (MeetsOneOf q.gives inside) y.heap
    one c =
        let on_parameters : Agree (parameters_of q) c.inside inside =
        maps_agree (parameters_of q) c.inside inside (c.arguments ∙ sym params) in
        let on_results : Agree (results_of q) c.inside inside =
        maps_agree (results_of q) c.inside inside (sym c.targets.given ∙ sym results) in
        let on_both : Agree (parameters_of q ++ results_of q) c.inside inside =
        λ m i. elim (Contains-append_cases (parameters_of q) (results_of q) m i) [
          | inl left ↦ on_parameters m left
          | inr right ↦ on_results m right
        ] in (
          c.targets.kept,
          replaced_agrees q.needs c.inside inside (MeetsOneOf q.gives c.inside) (MeetsOneOf q.gives inside) x.heap
              y.heap
              (λ a m. same_meaning q.needs (parameters_of q) c.inside inside a on_parameters own.needs_in m)
              (λ a m. one_met_agrees q.gives (parameters_of q ++ results_of q) c.inside inside a on_both own.gives_in m)
              c.replaced,
        )
