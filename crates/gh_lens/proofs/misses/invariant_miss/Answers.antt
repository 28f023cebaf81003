use Rattle.gh_path.specs.Walking.{loop_of}
use Rattle.gh_lens.proofs.misses.invariant_miss.Goals as goal

pub returns : goal.returns
returns c = (loop_of c.in-Some.round, c.in-Some.ensures.some, c.in_ok-text.ensures)
