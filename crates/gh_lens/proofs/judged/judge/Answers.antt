use Rattle.gh_ast.specs.Plain.{program_of}
use Rattle.gh_path.proofs.Numbers.{one_is_scoped}
use Rattle.gh_lens.proofs.judged.judge.Goals as goal

pub describe-requires : goal.describe-requires
describe-requires c =
    one_is_scoped (program_of c.args.typed.now) c.args.condition.now c.requires.admitted.typed c.requires.one
