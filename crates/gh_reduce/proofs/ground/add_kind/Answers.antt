use Rattle.std.proofs.Common.{ap}
use Rattle.gh_symb.specs.Encodings.{plain_kind}
use Rattle.gh_reduce.proofs.ground.add_kind.Goals as goal

pub add_successor-requires-clause-of : goal.add_successor-requires-clause-of
add_successor-requires-clause-of c = c.requires.of c.in-Next.since c.in-Next.of.0 (ap plain_kind c.in-Next.is)
