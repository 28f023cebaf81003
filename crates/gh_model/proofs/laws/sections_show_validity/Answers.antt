use Rattle.std.proofs.Common.{subst, slice_get}
use Rattle.gh_log.proofs.SectionLemmas.{refute}
use Rattle.gh_ast.specs.Plain.{Procedure}
use Rattle.gh_ast.proofs.Lists.{one_value}
use Rattle.gh_symb.specs.Symbolic.{symbolic_of}
use Rattle.gh_symb.specs.Formulas.{problem}
use Rattle.gh_trace.specs.Validity.{IsCounterexample}
use Rattle.gh_model.proofs.soundness.ClauseModels.{traces_give_models}
use Rattle.gh_model.proofs.laws.sections_show_validity.Goals as goal

pub returns : goal.returns
returns c = λ P proc k lines typed is of valid q of' x ys against.
    let here =
    subst (λ (r : Procedure). IsCounterexample P r k x ys)
    (one_value (slice_get P.procedures k.procedure) q proc of' of) against in
    let found = traces_give_models P proc k x ys typed is of here in
    refute (problem (symbolic_of P proc k)) lines valid found.0 found.1.congruence found.1.clauses found.1.instances
