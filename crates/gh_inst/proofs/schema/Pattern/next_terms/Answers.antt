use Rattle.gh_base.specs.Structures.{interpretation_of}
use Rattle.gh_inst.proofs.OpenLemmas.{lit_open}
use Rattle.gh_inst.proofs.schema.Pattern.next_terms.Goals as goal

pub returns : goal.returns
returns c =
    let a = c.args in
    lit_open (interpretation_of a.worded.now.structure.now) a.worded.now.version a.worded.now.structure.now.sizes.terms
    a.self.now a.tuple.now a.first c.requires.worded.few (c.is_always_true.ensures.open (λ h. absurd cc))
