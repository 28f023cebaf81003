use Rattle.std.proofs.Common.{arith}
use Rattle.gh_cc.proofs.classes.Classes.mark.Goals as goal

pub overflow_cast-result : goal.overflow_cast-result
overflow_cast-result c = let i = c.self.invariant in omega (arith, i.0.few, i.2.0)
