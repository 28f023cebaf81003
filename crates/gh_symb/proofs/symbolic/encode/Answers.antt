use Rattle.std.proofs.Common.{◌∙◌, ◌+◌, arith}
use Rattle.gh_symb.proofs.EncodedLemmas.{encoded_inside, states_of_steps}
use Rattle.gh_symb.proofs.FittingLemmas.{few_numbers, short_kinds, exact}
use Rattle.gh_symb.proofs.symbolic.encode.Goals as goal

pub encode-requires : goal.encode-requires
encode-requires c =
    let P = c.requires.0 in
    let proc = c.requires.1 in
    let d = c.requires.2 in
    let h = c.requires.3 in
    record {
      few = (few_numbers P proc d c.args.walked h.walked h.few).0;
      short = short_kinds P proc d c.args.walked h.walked h.few;
    }

pub overflow_cast-versions : goal.overflow_cast-versions
overflow_cast-versions c =
    let h = c.requires.3 in
    let few = few_numbers c.requires.0 c.requires.1 c.requires.2 c.args.walked h.walked h.few in
    let versions = few.1 in
    omega (arith, versions)

pub returns : goal.returns
returns c = λ P proc d h.
    let parts = exact P proc d c.args.walked h.walked h.few in
    record {
      terms = c.in_ok-terms.ensures ∙ h.walked.kinds_are;
      versions = h.walked.versions_are;
      start = parts.start_is;
      steps = parts.steps_are;
      check = parts.check_is;
      bindings = parts.bindings_are;
    }

pub invariant_of-result : goal.invariant_of-result
invariant_of-result c =
    let P = c.requires.0 in
    let proc = c.requires.1 in
    let d = c.requires.2 in
    let w = c.args.walked in
    let h = c.requires.3 in
    let parts = exact P proc d w h.walked h.few in
    record {
      states = states_of_steps P proc d w.steps.items w.bindings.items parts.steps_are parts.bindings_are;
      inside =
          encoded_inside P proc d _ (w.version + 1) w.start w.steps.items w.check
          (c.in_ok-terms.ensures ∙ h.walked.kinds_are) h.walked.versions_are parts.start_is parts.steps_are
          parts.check_is;
    }
