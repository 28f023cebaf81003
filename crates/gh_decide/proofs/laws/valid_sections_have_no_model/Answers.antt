use Rattle.gh_log.proofs.SectionLemmas.{refute}
use Rattle.gh_symb.specs.Symbolic.{symbolic_of}
use Rattle.gh_symb.specs.Formulas.{problem}
use Rattle.gh_decide.proofs.laws.valid_sections_have_no_model.Goals as goal

pub returns : goal.returns
returns c =
    λ P proc k lines m valid is. refute (problem (symbolic_of P proc k)) lines valid m is.congruence is.clauses
    is.instances
