use Rattle.std.proofs.Common.{◌≡◌, ◌∙◌, sym, ap, subst}
use Rattle.std.proofs.lemmas.Result.{IfOk-weaker}
use Rattle.gh_ast.specs.Plain.{segment, assertion_of}
use Rattle.gh_ast.proofs.PlainLemmas.{formula_of-Lseg}
use Rattle.gh_assert.specs.Meaning.{value}
use Rattle.gh_assert.specs.Stores.{store_of}
use Rattle.gh_lens.specs.Takings.{IsReason, IsNoSegment}
use Rattle.gh_lens.proofs.taking.reason_for.Goals as goal

pub returns-in-Lseg : goal.returns-in-Lseg
returns-in-Lseg c =
    let s = store_of c.args.store.now in
    let h = c.args.heap.now in
    let rest = c.args.rest.now in
    let from = c.in-Lseg.from in
    let to = c.in-Lseg.to in
    let form : assertion_of c.args.conjunct.now ≡ segment from to =
    ap assertion_of c.in-Lseg.is ∙ formula_of-Lseg from to in
    IfOk-weaker c.no_segment.result _ (λ r. IsReason (assertion_of c.args.conjunct.now) s h rest r)
    (λ r no.
    let first : IsNoSegment (value s from) c.operand_value-in-Lseg.result h rest r =
    subst (λ v. IsNoSegment v c.operand_value-in-Lseg.result h rest r) c.operand_value.ensures no in
    let both : IsNoSegment (value s from) (value s to) h rest r =
    subst (λ v. IsNoSegment (value s from) v h rest r) c.operand_value-in-Lseg.ensures first in
    subst (λ f. IsReason f s h rest r) (sym form) both) c.no_segment.ensures
