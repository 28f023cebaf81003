use Rattle.gh_ast.specs.Plain.{procedure_of}
use Rattle.gh_trace.proofs.Listings.{empty_tells, over_where_empty, not_over_results, not_over_locals}
use Rattle.gh_trace.proofs.stores.is_over.Goals as goal

pub returns-in_default-after_names : goal.returns-in_default-after_names
returns-in_default-after_names c = (
  λ no. absurd cc,
  λ over. absurd (not_over_results (procedure_of c.args.procedure.now) c.args.store.now c.in-Some.rest.now
      (rw (c.entries.ensures.same, c.as_slice.ensures.value) at c.in-Some.ensures.some)
      (rw (c.as_slice-2.ensures.value) at c.in_default-after_names.ensures.none) over),
)

pub returns-in-Some-after_names-2 : goal.returns-in-Some-after_names-2
returns-in-Some-after_names-2 c =
    let over =
    over_where_empty (procedure_of c.args.procedure.now) c.args.store.now c.in-Some.rest.now
    c.in-Some-after_names.rest.now c.in-Some-after_names-2.rest.now
    (rw (c.entries.ensures.same, c.as_slice.ensures.value) at c.in-Some.ensures.some)
    (rw (c.as_slice-2.ensures.value) at c.in-Some-after_names.ensures.some)
    (rw (c.locals.ensures) at c.in-Some-after_names-2.ensures.some) in
    let e = empty_tells c.in-Some-after_names-2.rest.now c.is_empty.result c.is_empty.ensures in
    (λ t. over.0 (e.0 t), λ is. e.1 (over.1 is))

pub returns-in-None : goal.returns-in-None
returns-in-None c = (
  λ no. absurd cc,
  λ over. absurd (not_over_locals (procedure_of c.args.procedure.now) c.args.store.now c.in-Some.rest.now
      c.in-Some-after_names.rest.now
      (rw (c.entries.ensures.same, c.as_slice.ensures.value) at c.in-Some.ensures.some)
      (rw (c.as_slice-2.ensures.value) at c.in-Some-after_names.ensures.some)
      (rw (c.locals.ensures) at c.in-None.ensures.none) over),
)
