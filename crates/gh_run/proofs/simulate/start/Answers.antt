use Rattle.std.proofs.Common.{◌≡◌, ◌-◌, ◌∙◌, ap, length, take, drop}
use Rattle.std.proofs.lemmas.Result.{IfOk-weaker}
use Rattle.gh_ast.specs.Plain.{program_of}
use Rattle.gh_machine.specs.Configs.{config_of}
use Rattle.gh_run.proofs.Starting.{values_of, cut, begun_is}
use Rattle.gh_run.proofs.simulate.start.Goals as goal

pub returns-clause-begun : goal.returns-clause-begun
returns-clause-begun c =
    let n = c.len-count.result in
    let us = c.deref.result.now in
    let ws = c.deref-2.result.now in
    let values : c.in_ok-values.values.items ≡ values_of c.args.begin.now.store =
    c.in_ok-values.ensures ∙ ap values_of c.entries.ensures.same in
    let whole =
    cut n (values_of c.args.begin.now.store) us ws (c.deref.ensures.value ∙ values)
    (c.deref-2.ensures.value ∙ values) in
    IfOk-weaker c.start.result _ _
    (λ d w p begins. begun_is (program_of c.args.typed.now) c.args.begin.now p (take n us)
    (take (length ws - n) (drop n ws)) c.in_ok-copy.field-0 (config_of d) begins whole c.in_ok-copy.ensures w)
    c.start.ensures.start
