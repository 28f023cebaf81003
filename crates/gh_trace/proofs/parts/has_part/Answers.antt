use Rattle.std.proofs.Common.{sym, subst}
use Rattle.std.specs.Prelude.{◌↔◌, IsTrue}
use Rattle.gh_ast.specs.Plain.{assertion_of}
use Rattle.gh_assert.specs.Meaning.{HasPart}
use Rattle.gh_assert.specs.Stores.{store_of}
use Rattle.gh_trace.proofs.Lefts.{has_where_some}
use Rattle.gh_trace.proofs.parts.has_part.Goals as goal

pub returns : goal.returns
returns c =
    let f = assertion_of c.args.part.assertion.now in
    let s = store_of c.args.part.store.now in
    let h = c.args.part.heap.now in
    subst (λ b. IsTrue b ↔ HasPart f s h) (sym c.is_some.ensures)
    (has_where_some f s h (λ v. v.items) c.in_ok-places.places c.in_ok-places.ensures.found
    c.in_ok-places.ensures.none)
