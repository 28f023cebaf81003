use Rattle.std.proofs.Common.{◌≡◌}
use Rattle.gh_ast.specs.Plain.{procedure_of, program_of}
use Rattle.gh_ast.specs.Programs.{variable_names}
use Rattle.gh_assert.specs.Stores.{listed_names}
use Rattle.gh_trace.specs.Kept.{state_of}
use Rattle.gh_trace.proofs.Following.{CarriesBackKept}
use Rattle.gh_trace.proofs.replay.walk.Given as goal

abbrev pub invariant-loop-i : goal.invariant-loop-i
invariant-loop-i l = record {
  follows : CarriesBackKept (program_of l.setting.typed.now) (procedure_of l.setting.procedure.now)
      l.condition.steps.items (state_of l.first) l.others (state_of l.before) l.i;
  over : listed_names l.before.store ≡ variable_names (procedure_of l.setting.procedure.now);
}
