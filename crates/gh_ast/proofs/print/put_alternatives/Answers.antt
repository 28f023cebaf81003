use Rattle.std.proofs.Common.{arith, subst}
use Rattle.gh_ast.specs.declared.sign.Sign.TheVariants.{Or}
use Rattle.gh_ast.specs.Plain.{assertion_of}
use Rattle.gh_ast.specs.Printed.{Adds, assertion_shown}
use Rattle.gh_ast.proofs.Printing.{turn, whole_list, with_signs_map}
use Rattle.gh_ast.proofs.print.put_alternatives.Goals as goal

pub loop-alternative-preserved : goal.loop-alternative-preserved
loop-alternative-preserved c =
    turn (λ x. assertion_shown (assertion_of x)) Or c.in-Some.rest.now c.loop-alternative.alternative-index
    c.alternative-item.result (omega arith) c.alternative-item.is
    c.loop-alternative.invariant c.in_ok-put_sign.ensures c.in_ok-put_assertion-2.ensures

pub returns : goal.returns
returns c =
    subst (Adds c.args.out.now c.loop-alternative.out)
    (with_signs_map assertion_shown assertion_of Or c.args.alternatives.now)
    (whole_list (λ x. assertion_shown (assertion_of x)) Or c.args.alternatives.now c.in-Some.rest.now
    c.in-Some.first.now c.loop-alternative.alternative-index c.in-Some.ensures.cases.0 (omega arith)
    c.in_ok-put_assertion.ensures c.loop-alternative.invariant)
