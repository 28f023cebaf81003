use Rattle.std.proofs.Common.{arith}
use Rattle.gh_base.proofs.FileLemmas.{given_and_left}
use Rattle.gh_base.proofs.files.Files.read.Goals as goal

pub returns-clause-given : goal.returns-clause-given
returns-clause-given c =
    (given_and_left c.args.self.now.list.items c.args.self.now.begun c.args.self.now.at c.give-count.result c.args.most
    c.left.result.now c.give-count.new.into
    c.left.ensures c.give-count.ensures.count c.give-count.ensures.given
    (λ some. c.requires (omega (arith, some, c.give-count.auto.into)))).0
