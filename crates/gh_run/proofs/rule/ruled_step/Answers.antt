use Rattle.std.proofs.Common.{refl, subst}
use Rattle.std.proofs.lemmas.Result.{IfOk-weaker}
use Rattle.gh_ast.specs.Plain.{program_of}
use Rattle.gh_machine.specs.Configs.{config_of}
use Rattle.gh_machine.specs.declared.step.Choice.{Choice}
use Rattle.gh_run.specs.Rule.{IsLeastFree}
use Rattle.gh_run.proofs.Ruled.{IsRuledChoice, ruled_next, next_grows}
use Rattle.gh_run.proofs.rule.ruled_step.Goals as goal

pub returns-clause-next : goal.returns-clause-next
returns-clause-next c =
    let P = program_of c.args.typed.now in
    let ch : Choice = record { location = c.least_free.result; content = 0; starts = c.in_ok-vec.field-0 } in
    let is : IsRuledChoice c.args.config.now.heap c.starts_wanted-wanted.result ch = record {
      location = subst (λ h. IsLeastFree h c.least_free.result) c.heap.ensures c.least_free.ensures;
      content = refl;
      starts = c.in_ok-vec.ensures.items_if_clones_equal (λ y e. e);
    } in
    IfOk-weaker c.step.result _ _
    (λ next w. ruled_next P next c.starts_wanted-wanted.result ch (config_of c.args.config.now)
    (config_of c.step.new.config) is c.starts_wanted-wanted.ensures.wanted w) c.step.ensures.next

pub returns-clause-room : goal.returns-clause-room
returns-clause-room c =
    let ch : Choice = record { location = c.least_free.result; content = 0; starts = c.in_ok-vec.field-0 } in
    IfOk-weaker c.step.result _ _
    (λ next w. next_grows (program_of c.args.typed.now) next ch (config_of c.args.config.now)
    (config_of c.step.new.config) w) c.step.ensures.next
