use Rattle.std.proofs.lemmas.Bool.{both_ways}
use Rattle.gh_smt.proofs.AtomLemmas.{out_of_range}
use Rattle.gh_smt.proofs.literals.read_atom.Goals as goal

pub returns-then-not-has : goal.returns-then-not-has
returns-then-not-has c =
    out_of_range c.args.sizes c.args.reader.now.rest.now c.in_ok-atom.atom c.read_form.new.reader.rest.now
    c.in_ok-atom.ensures (λ h. both_ways c.has.result c.if-not-has.true (c.has.ensures.1 h))
