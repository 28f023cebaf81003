use Rattle.gh_smt.proofs.AtomLemmas.{no_others, no_end_here}
use Rattle.gh_smt.proofs.literals.read_one.Goals as goal

pub returns-then-not-skip : goal.returns-then-not-skip
returns-then-not-skip c =
    no_others 0 c.args.reader.now.rest.now _ c.read_term.new.reader.rest.now c.in_ok-x.ensures
    (no_end_here c.read_term.new.reader.rest.now c.if-not-skip.ensures.1)
