use Rattle.std.proofs.Common.{◌∙◌, ap, map, refl}
use Rattle.gh_ast.specs.Plain.{procedure_of, program_of}
use Rattle.gh_path.specs.Graphs.{loops_of}
use Rattle.gh_path.specs.Kept.{condition_of, step_of}
use Rattle.gh_session.specs.Essences as plain
use Rattle.gh_session.proofs.Assembling.{assembled}
use Rattle.gh_session.proofs.essence.essence_by.Goals as goal

pub returns : goal.returns
returns c =
    let ps = c.args.procedures.now in
    let ls = c.args.loops.now in
    assembled (program_of c.args.program.now) (procedure_of c.args.procedure.now) (condition_of c.args.condition.now)
    (record {
      variables = c.in_ok-variables.variables;
      contracts = c.in_ok-contracts.contracts;
      loops =
          c.in_ok-rounds.rounds;
      start =
          c.start_in-start.result;
      steps = c.in_ok-steps.steps;
      check = c.in_ok-check.check;
    }) ps ls
    (map procedure_of c.as_slice.result.now)
    c.as_slice-2.result.now (loops_of (procedure_of c.args.procedure.now)) c.requires.procedures c.requires.loops
    (ap (map procedure_of) c.as_slice.ensures.value) (c.as_slice-2.ensures.value ∙ c.in_ok-variables.ensures) refl
    c.in_ok-variables.ensures
    c.in_ok-contracts.ensures c.in_ok-rounds.ensures c.start_in-start.ensures
    (c.in_ok-steps.ensures ∙ ap (λ ss. map (plain.step_in ps ls) (map step_of ss)) c.as_slice-3.ensures.value)
    c.in_ok-check.ensures
