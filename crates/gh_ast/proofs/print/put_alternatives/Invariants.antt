use Rattle.std.proofs.Common.{take}
use Rattle.gh_ast.specs.declared.sign.Sign.TheVariants.{Or}
use Rattle.gh_ast.specs.Plain.{assertion_of}
use Rattle.gh_ast.specs.Printed.{Adds, followed, assertion_shown}
use Rattle.gh_ast.proofs.print.put_alternatives.Given as goal

abbrev pub invariant-loop-alternative : goal.invariant-loop-alternative
invariant-loop-alternative l =
    Adds l.initial.out l.out (followed (λ x. assertion_shown (assertion_of x)) Or (take l.alternative-index l.rest))
