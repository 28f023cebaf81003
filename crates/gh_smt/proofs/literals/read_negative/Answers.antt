use Rattle.gh_smt.proofs.LitLemmas.{no_negative_end}
use Rattle.gh_smt.proofs.literals.read_negative.Goals as goal

pub returns-then-not-skip : goal.returns-then-not-skip
returns-then-not-skip c =
    no_negative_end c.args.sizes c.args.reader.now.rest.now c.read_atom.new.reader.rest.now c.in_ok-atom.atom
    c.in_ok-atom.ensures c.if-not-skip.ensures.1
