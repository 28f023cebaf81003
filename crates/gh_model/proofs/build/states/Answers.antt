use Rattle.std.proofs.Common.{◌∙◌, ap, arith, drop}
use Rattle.gh_ast.specs.Plain.{procedure_of}
use Rattle.gh_ast.specs.Programs.{variable_names}
use Rattle.gh_model.specs.KeptTraces.{after_first, states_in}
use Rattle.gh_model.proofs.building.States.{in_bounds, goes_on, ends_here, at_number, past_all}
use Rattle.gh_model.proofs.build.states.Goals as goal

pub state-requires-clause-version : goal.state-requires-clause-version
state-requires-clause-version c =
    (in_bounds c.args.structure.now (variable_names (procedure_of c.args.procedure.now)) c.args.symbolic.now.steps.items
    c.bindings-binding-items.result.now c.loop-number.states.items c.loop-number.number c.loop-number.version
    c.binding-item.result (at_number c.bindings-binding-items.result.now c.loop-number.number c.binding-item.result
    c.loop-number-test.true c.binding-item.is) c.loop-number.invariant).0

pub state-requires-clause-below : goal.state-requires-clause-below
state-requires-clause-below c =
    (in_bounds c.args.structure.now (variable_names (procedure_of c.args.procedure.now)) c.args.symbolic.now.steps.items
    c.bindings-binding-items.result.now c.loop-number.states.items c.loop-number.number c.loop-number.version
    c.binding-item.result (at_number c.bindings-binding-items.result.now c.loop-number.number c.binding-item.result
    c.loop-number-test.true c.binding-item.is) c.loop-number.invariant).1

pub loop-number-preserved : goal.loop-number-preserved
loop-number-preserved c =
    goes_on c.args.structure.now (variable_names (procedure_of c.args.procedure.now)) c.args.symbolic.now.steps.items
    c.bindings-binding-items.result.now c.loop-number.states.items c.push.new.self.items c.loop-number.number
    c.loop-number.version c.next_version-version.result c.binding-item.result c.in_ok-state.field-0
    (at_number c.bindings-binding-items.result.now c.loop-number.number c.binding-item.result
    c.loop-number-test.true c.binding-item.is) c.in_ok-state.ensures c.in_ok-push.ensures.items
    (c.next_version-version.ensures
    ∙ ap (λ ps. after_first (drop c.loop-number.number ps) c.loop-number.version) c.steps.ensures)
    c.loop-number.invariant

pub returns : goal.returns
returns c =
    ends_here c.args.structure.now (variable_names (procedure_of c.args.procedure.now)) c.args.symbolic.now.steps.items
    c.bindings-binding-items.result.now c.loop-number.states.items c.loop-number.number c.loop-number.version
    (past_all c.bindings-binding-items.result.now c.loop-number.number c.loop-number-test.false)
    c.loop-number.invariant
    ∙ ap (states_in c.args.structure.now (variable_names (procedure_of c.args.procedure.now)) 0
    c.args.symbolic.now.steps.items) c.bindings-binding-items.ensures

pub next_version-version-requires : goal.next_version-version-requires
next_version-version-requires c =
    omega (
      arith,
      (in_bounds c.args.structure.now (variable_names (procedure_of c.args.procedure.now))
          c.args.symbolic.now.steps.items c.bindings-binding-items.result.now c.loop-number.states.items
          c.loop-number.number c.loop-number.version c.binding-item.result
          (at_number c.bindings-binding-items.result.now c.loop-number.number c.binding-item.result
          c.loop-number-test.true c.binding-item.is) c.loop-number.invariant).0,
      c.versions-versions.ensures,
      c.versions-versions.type_inv,
    )
